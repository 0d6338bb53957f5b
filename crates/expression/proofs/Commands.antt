-- Laws of one command read: how many bytes stand behind a command byte, which of 5 to 8 refuses, where a command that is read ends, and where a name stands. Assumes nothing.
use mathlib.Core.Path.{◌≡◌, refl, ap, subst}
use mathlib.Core.Logic.{inl, inr}
use mathlib.Core.Bool.{Bool, true, false, cond, not, ◌&&◌, ◌||◌, or-false, or-true, false≢true}
use mathlib.Core.List.{List}
use Prim.Native.Nat.{ℕ, ◌+◌, ◌-◌, ◌≤◌, ◌<◌}
use native.Mathlib.Nat.{eq-or-lt_of_le}
use native.Mathlib.Omega.{arith}
use lib.Dec.{eqb, ltb, leb}
use lib.ListN.{length, get_or, get_or-eq_default}
use borrow.Author.Tests.{eqb-true, ne_eqb, le-leb, lt-ltb, le-ltb, ltb-false}
use Rattle.expression.specs.declared.Kind.TheVariants.{Head, Positive, Negative}
use Rattle.expression.specs.declared.Role.TheVariants.{Derived, External}
use Rattle.expression.specs.declared.Command.{Command}
use Rattle.expression.specs.declared.Command.TheVariants.{Rule, Union, Relabel, Connect, Name}
use Rattle.expression.specs.Limits.{byte_limit, name_length}
use Rattle.expression.specs.Refusals.{unknown, cut, group, same}
use Rattle.expression.specs.Commands.{Got, Fault, one_operand, two_operands, is_name, is_command, operand_count, tail_length, name_start, atom_of, command_of, read_command, read_at}

-- ---- how many bytes stand behind a command byte

-- a number from a on is a or past it
from : (P : ℕ → Type 0) (a b : ℕ) → a ≤ b → P a → (a < b → P b) → P b
from P a b h p q = elim (eq-or-lt_of_le h) [ inl e ↦ subst P e p | inr l ↦ q l ]

-- 11, 12 and 13
pub leaf-tail : (b : ℕ) → 0x11 ≤ b → b < 0x14 → tail_length b ≡ 1
unfolding operand_count one_operand two_operands
leaf-tail b h l =
    from (λ x. tail_length x ≡ 1) 0x11 b h refl
    (λ h'. from (λ x. tail_length x ≡ 1) 0x12 b h' refl
    (λ h''. from (λ x. tail_length x ≡ 1) 0x13 b h'' refl (λ h'''. absurd (omega arith))))

-- 41, 42 and 43
pub connect-tail : (b : ℕ) → 0x41 ≤ b → b < 0x44 → tail_length b ≡ 2
unfolding operand_count one_operand two_operands
connect-tail b h l =
    from (λ x. tail_length x ≡ 2) 0x41 b h refl
    (λ h'. from (λ x. tail_length x ≡ 2) 0x42 b h' refl
    (λ h''. from (λ x. tail_length x ≡ 2) 0x43 b h'' refl (λ h'''. absurd (omega arith))))

-- every other byte but 31 and 51
pub no-tail : (b : ℕ) → (b ≡ 0x11 → ⊥) → (b ≡ 0x12 → ⊥) → (b ≡ 0x13 → ⊥) → (b ≡ 0x31 → ⊥) → (b ≡ 0x41 → ⊥) → (b ≡ 0x42 → ⊥) → (b ≡ 0x43 → ⊥) → (b ≡ 0x51 → ⊥) → tail_length b ≡ 0
unfolding operand_count one_operand two_operands
no-tail b atom rule external relabel head positive negative name =
    simp (ne_eqb _ _ atom, ne_eqb _ _ rule, ne_eqb _ _ external, ne_eqb _ _ relabel, ne_eqb _ _ head, ne_eqb _ _ positive, ne_eqb _ _ negative, ne_eqb _ _ name)

-- ---- which test refuses: command byte b, n bytes from it to the end, operands x and y

module _ (b : ℕ) where
  none_is : operand_count b ≡ 0 → (one_operand b ≡ false) × (two_operands b ≡ false)
  unfolding operand_count
  none_is h = step (one_operand b) (two_operands b) h
    where
      step : (o t : Bool) → ◌≡◌ {A = ℕ} (cond t 2 (cond o 1 0)) 0 → (o ≡ false) × (t ≡ false)
      step o true h = absurd (omega arith)
      step true false h = absurd (omega arith)
      step false false h = (refl, refl)

  one-is : operand_count b ≡ 1 → (one_operand b ≡ true) × (two_operands b ≡ false)
  unfolding operand_count
  one-is h = step (one_operand b) (two_operands b) h
    where
      step : (o t : Bool) → ◌≡◌ {A = ℕ} (cond t 2 (cond o 1 0)) 1 → (o ≡ true) × (t ≡ false)
      step o true h = absurd (omega arith)
      step true false h = (refl, refl)
      step false false h = absurd (omega arith)

  two_is : 2 ≤ operand_count b → (operand_count b ≡ 2) × (two_operands b ≡ true)
  unfolding operand_count
  two_is h = step (one_operand b) (two_operands b) h
    where
      step : (o t : Bool) → 2 ≤ cond t 2 (cond o 1 0) → (◌≡◌ {A = ℕ} (cond t 2 (cond o 1 0)) 2) × (t ≡ true)
      step o true h = (refl, refl)
      step true false h = absurd (omega arith)
      step false false h = absurd (omega arith)

  pub few-operands : operand_count b ≤ 2
  unfolding operand_count
  few-operands = step (one_operand b) (two_operands b)
    where
      step : (o t : Bool) → cond t 2 (cond o 1 0) ≤ 2
      step o true = omega arith
      step true false = omega arith
      step false false = omega arith

  some_is : 1 ≤ operand_count b → (one_operand b || two_operands b) ≡ true
  unfolding operand_count
  some_is h = step (one_operand b) (two_operands b) h
    where
      step : (o t : Bool) → 1 ≤ cond t 2 (cond o 1 0) → (o || t) ≡ true
      step true t h = refl
      step false true h = refl
      step false false h = absurd (omega arith)

  some-command : 1 ≤ operand_count b → is_command b ≡ true
  unfolding is_command
  some-command h = step (eqb b 0x21) (is_name b) (some_is h)
    where
      step : (u n : Bool) → (one_operand b || two_operands b) ≡ true → (u || n || one_operand b || two_operands b) ≡ true
      step true n e = refl
      step false true e = refl
      step false false e = e

  -- 51 has no operands
  no_name : 1 ≤ operand_count b → is_name b ≡ false
  unfolding operand_count one_operand two_operands
  no_name h = ne_eqb b 0x51 (λ e. let h' : 1 ≤ operand_count 0x51 = subst (λ x. 1 ≤ operand_count x) e h in omega arith)

  -- as many as a name has, or as many as there are operands
  pub tail_name : tail_length b ≡ name_length → b ≡ 0x51
  tail_name h = eqb-true b 0x51 (step (is_name b) h)
    where
      step : (p : Bool) → cond p name_length (operand_count b) ≡ name_length → p ≡ true
      step true e = refl
      step false e = absurd (omega (arith, few-operands))

  pub tail-operands : (tail_length b ≡ name_length → ⊥) → operand_count b ≡ tail_length b
  tail-operands h = step (is_name b) h
    where
      step : (p : Bool) → (cond p name_length (operand_count b) ≡ name_length → ⊥) → operand_count b ≡ cond p name_length (operand_count b)
      step true f = absurd (f refl)
      step false f = refl

  pub operands-tail : 1 ≤ operand_count b → tail_length b ≡ operand_count b
  operands-tail h = ap (λ p. cond p name_length (operand_count b)) (no_name h)

  tail-command : 1 ≤ tail_length b → is_command b ≡ true
  unfolding is_command
  tail-command h = step (is_name b) refl h
    where
      step : (p : Bool) → is_name b ≡ p → 1 ≤ cond p name_length (operand_count b) → is_command b ≡ true
      step true e l = ap is_command (eqb-true b 0x51 e)
      step false e l = some-command l

  leaf-command : (x y : ℕ) → operand_count b ≡ 1 → command_of b x y ≡ command_of b x 0
  unfolding command_of one_operand
  leaf-command x y h = step (eqb b 0x11) (eqb b 0x12) (eqb b 0x13) _ _ (one-is h).0
    where
      step : (p q r : Bool) (c d : Command) → (p || q || r) ≡ true
          → cond p (atom_of Derived x) (cond q (Rule x) (cond r (atom_of External x) c)) ≡ cond p (atom_of Derived x) (cond q (Rule x) (cond r (atom_of External x) d))
      step true q r c d e = refl
      step false true r c d e = refl
      step false false true c d e = refl
      step false false false c d e = absurd (false≢true e)

  -- ---- which command it is

  pub atom-byte : (x : ℕ) → operand_count b ≡ 1 → (b ≡ 0x12 → ⊥) → atom_of (cond (eqb b 0x13) External Derived) x ≡ command_of b x 0
  unfolding command_of one_operand
  atom-byte x h e = rw (ne_eqb b 0x12 e) (step (eqb b 0x11) (eqb b 0x13) refl refl _ (rw (ne_eqb b 0x12 e) at (one-is h).0))
    where
      step : (p r : Bool) → eqb b 0x11 ≡ p → eqb b 0x13 ≡ r → (c : Command) → (p || false || r) ≡ true
          → atom_of (cond r External Derived) x ≡ cond p (atom_of Derived x) (cond r (atom_of External x) c)
      step true true f g c k = absurd (omega (arith, eqb-true b 0x11 f, eqb-true b 0x13 g))
      step true false f g c k = refl
      step false true f g c k = refl
      step false false f g c k = absurd (false≢true k)

  no_byte : (v : ℕ) → operand_count v ≤ 1 → operand_count b ≡ 2 → eqb b v ≡ false
  no_byte v l h = ne_eqb b v (λ e. omega (arith, ap operand_count e))

  pub pair-byte : operand_count b ≡ 2 → (eqb b 0x11 ≡ false) × (eqb b 0x12 ≡ false) × (eqb b 0x13 ≡ false) × (eqb b 0x21 ≡ false)
  unfolding operand_count one_operand two_operands
  pair-byte h = (no_byte 0x11 (omega arith) h, no_byte 0x12 (omega arith) h, no_byte 0x13 (omega arith) h, no_byte 0x21 (omega arith) h)

module _ (K at n b x y : ℕ) where
  pub union-read : b ≡ 0x21 → 1 ≤ n → read_command K at n b x y ≡ Got Union (at + 1)
  unfolding read_command is_command operand_count one_operand two_operands command_of
  union-read e h = rw e (simp (le-ltb n 1 h))

  pub name-read : b ≡ 0x51 → read_command K at n b x y ≡ cond (ltb n (1 + name_length)) (Fault cut) (Got (Name (name_start at)) (at + (1 + name_length)))
  unfolding read_command is_command one_operand two_operands
  name-read e = rw e

  pub unknown-read : (b ≡ 0x21 → ⊥) → (b ≡ 0x51 → ⊥) → operand_count b ≡ 0 → read_command K at n b x y ≡ Fault unknown
  unfolding read_command is_command
  unknown-read e f h = simp (ne_eqb b 0x21 e, ne_eqb b 0x51 f, (none_is b h).0, (none_is b h).1)

  -- 6, whether a name is cut or operands are
  pub cut-read : 1 ≤ tail_length b → n ≤ tail_length b → read_command K at n b x y ≡ Fault cut
  unfolding read_command
  cut-read h l = simp (tail-command b h, lt-ltb n (1 + tail_length b) (omega arith))

  -- 7 of the first operand, whether there is a second or not
  pub group-read : 1 ≤ operand_count b → operand_count b < n → K ≤ x → read_command K at n b x y ≡ Fault group
  unfolding read_command
  group-read h l k = simp (some-command b h, no_name b h, some_is b h, le-ltb n (1 + operand_count b) (omega arith), le-leb K x k)

  pub leaf-read : operand_count b ≡ 1 → 1 < n → read_command K at n b x y ≡ cond (leb K x) (Fault group) (Got (command_of b x 0) (at + 2))
  unfolding read_command
  leaf-read h l = simp (some-command b (omega arith), no_name b (omega arith), h, le-ltb n 2 (omega arith), (one-is b h).0, (one-is b h).1, leaf-command b x y h, or-false (leb K x))

  pub pair_read : 2 ≤ operand_count b → operand_count b < n → read_command K at n b x y ≡ cond (leb K x || leb K y) (Fault group) (cond (eqb x y) (Fault same) (Got (command_of b x y) (at + 3)))
  unfolding read_command
  pair_read h l = let e = two_is b h in simp (some-command b (omega arith), no_name b (omega arith), e.0, e.1, le-ltb n 3 (omega arith), or-true (one_operand b))

pub past_end : (K : ℕ) (s : List ℕ) (at : ℕ) → length s ≤ at → read_at K s at ≡ Fault unknown
unfolding read_at operand_count one_operand two_operands
past_end K s at h = rw (get_or-eq_default s 0 h) (unknown-read K at (length s - at) 0 (get_or s (at + 1) 0) (get_or s (at + 2) 0) (λ e. omega arith) (λ e. omega arith) refl)

-- ---- where a command ends

pub read-ends : (K : ℕ) (s : List ℕ) (at : ℕ) (c : Command) (next : ℕ) → read_at K s at ≡ Got c next → (at < next) × (next ≤ length s)
unfolding read_at read_command
read-ends K s at c next h =
    step (is_command b) (ltb (length s - at) (1 + tail_length b)) ((one_operand b || two_operands b) && leb K x || two_operands b && leb K y) (two_operands b && eqb x y) refl h
  where
    b : ℕ
    b = get_or s at 0

    x : ℕ
    x = get_or s (at + 1) 0

    y : ℕ
    y = get_or s (at + 2) 0

    step : (p q r t : Bool) → ltb (length s - at) (1 + tail_length b) ≡ q
        → cond (not p) (Fault unknown) (cond q (Fault cut) (cond r (Fault group) (cond t (Fault same) (Got (cond (is_name b) (Name (name_start at)) (command_of b x y)) (at + (1 + tail_length b)))))) ≡ Got c next
        → (at < next) × (next ≤ length s)
    step true false false false e h = let k : at + (1 + tail_length b) ≡ next = cc in omega (arith, ltb-false)
    step true false false true e h = let z : ◌≡◌ {A = ℕ} 0 1 = cc in absurd (omega arith)
    step true false true t e h = let z : ◌≡◌ {A = ℕ} 0 1 = cc in absurd (omega arith)
    step true true r t e h = let z : ◌≡◌ {A = ℕ} 0 1 = cc in absurd (omega arith)
    step false q r t e h = let z : ◌≡◌ {A = ℕ} 0 1 = cc in absurd (omega arith)

-- ---- where a name stands

-- a byte with operands makes no name
made-no-name : (b x y n : ℕ) → command_of b x y ≡ Name n → ⊥
unfolding command_of
made-no-name b x y n h = step (eqb b 0x11) (eqb b 0x12) (eqb b 0x13) (eqb b 0x21) (eqb b 0x31) (eqb b 0x41) (eqb b 0x42) h
  where
    step : (p q r u m h k : Bool)
        → cond p (atom_of Derived x) (cond q (Rule x) (cond r (atom_of External x) (cond u Union (cond m (Relabel x y) (cond h (Connect Head x y) (cond k (Connect Positive x y) (Connect Negative x y))))))) ≡ Name n → ⊥
    step true q r u m h k e = let z : ◌≡◌ {A = ℕ} 0 1 = cc in omega arith
    step false true r u m h k e = let z : ◌≡◌ {A = ℕ} 0 1 = cc in omega arith
    step false false true u m h k e = let z : ◌≡◌ {A = ℕ} 0 1 = cc in omega arith
    step false false false true m h k e = let z : ◌≡◌ {A = ℕ} 0 1 = cc in omega arith
    step false false false false true h k e = let z : ◌≡◌ {A = ℕ} 0 1 = cc in omega arith
    step false false false false false true k e = let z : ◌≡◌ {A = ℕ} 0 1 = cc in omega arith
    step false false false false false false true e = let z : ◌≡◌ {A = ℕ} 0 1 = cc in omega arith
    step false false false false false false false e = let z : ◌≡◌ {A = ℕ} 0 1 = cc in omega arith

-- where it begins, and the command behind it
pub name-is : (K : ℕ) (s : List ℕ) (at n next : ℕ) → read_at K s at ≡ Got (Name n) next → (n ≡ name_start at) × (next ≡ at + (1 + name_length))
unfolding read_at read_command
name-is K s at n next h =
    step (is_command b) (ltb (length s - at) (1 + tail_length b)) ((one_operand b || two_operands b) && leb K x || two_operands b && leb K y) (two_operands b && eqb x y) (is_name b) (operand_count b) h
  where
    b : ℕ
    b = get_or s at 0

    x : ℕ
    x = get_or s (at + 1) 0

    y : ℕ
    y = get_or s (at + 2) 0

    step : (p q r t a : Bool) (m : ℕ)
        → cond (not p) (Fault unknown) (cond q (Fault cut) (cond r (Fault group) (cond t (Fault same) (Got (cond a (Name (name_start at)) (command_of b x y)) (at + (1 + cond a name_length m)))))) ≡ Got (Name n) next
        → (n ≡ name_start at) × (next ≡ at + (1 + name_length))
    step true false false false true m h = (cc, cc)
    step true false false false false m h = absurd (made-no-name b x y n cc)
    step true false false true a m h = let z : ◌≡◌ {A = ℕ} 0 1 = cc in absurd (omega arith)
    step true false true t a m h = let z : ◌≡◌ {A = ℕ} 0 1 = cc in absurd (omega arith)
    step true true r t a m h = let z : ◌≡◌ {A = ℕ} 0 1 = cc in absurd (omega arith)
    step false q r t a m h = let z : ◌≡◌ {A = ℕ} 0 1 = cc in absurd (omega arith)

module _ (K : ℕ) (s : List ℕ) (at n next : ℕ) (e : read_at K s at ≡ Got (Name n) next) where
  -- all its bytes are there
  pub name-ends : n + name_length ≤ length s
  name-ends = omega (arith, name-is K s at n next e, read-ends K s at (Name n) next e)

  -- directly behind the command byte, if 1 does not refuse
  pub name-behind : length s ≤ byte_limit → n ≡ at + 1
  name-behind l = omega (arith, name-is K s at n next e, read-ends K s at (Name n) next e)
