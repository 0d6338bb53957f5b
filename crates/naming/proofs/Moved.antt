-- A command that is no name is read from its own bytes alone: wherever they stand, and whatever stands around them. Assumes nothing.
use mathlib.Core.Path.{◌≡◌, refl, sym, ap, ap₂, ◌∙◌, subst}
use mathlib.Core.Logic.{◌⊎◌, inl, inr}
use mathlib.Core.Bool.{Bool, true, false, cond, ◌||◌}
use mathlib.Core.List.{List, ◌++◌}
use Prim.Native.Nat.{ℕ, zero, suc, ◌+◌, ◌-◌, ◌≤◌, ◌<◌}
use native.Mathlib.Nat.{add-zero}
use native.Mathlib.Omega.{arith}
use lib.Dec.{eqb, ltb, leb}
use lib.ListN.{length, take, drop, get_or, length-append, length-take, length-drop, get_or-append}
use lib.Seq.{get_or-append-add, get_or-take, get_or-drop}
use borrow.Author.Tests.{eqb-true, eqb-false, ltb-true, ltb-false}
use Rattle.expression.specs.declared.Command.{Command}
use Rattle.expression.specs.declared.Command.TheVariants.{Atom, Rule, Union, Relabel, Connect, Name}
use Rattle.expression.specs.Limits.{name_length}
use Rattle.expression.specs.Refusals.{cut, group, same}
use Rattle.expression.specs.Commands.{Got, Fault, operand_count, name_start, command_of, read_command, read_at}
use Rattle.expression.proofs.Commands.{few-operands, operands-tail, union-read, name-read, unknown-read, cut-read, leaf-read, pair_read, read-ends}
use Rattle.naming.specs.Unnamed.{unless_name}

-- ---- names and the others

abbrev pub Other : Command → Type 0
Other (Name at) = ⊥
Other (Atom g) = Unit {0}
Other (Rule g) = Unit {0}
Other Union = Unit {0}
Other (Relabel i j) = Unit {0}
Other (Connect k i j) = Unit {0}

pub name-or-other : (c : Command) → ((at : ℕ) × (c ≡ Name at)) ⊎ Other c
name-or-other (Name at) = inl (at, refl)
name-or-other (Atom g) = inr tt
name-or-other (Rule g) = inr tt
name-or-other Union = inr tt
name-or-other (Relabel i j) = inr tt
name-or-other (Connect k i j) = inr tt

pub other-stays : {X : Type 0} (c : Command) (xs : List X) → Other c → unless_name c xs ≡ xs
unfolding unless_name
other-stays (Name at) xs o = absurd o
other-stays (Atom g) xs o = refl
other-stays (Rule g) xs o = refl
other-stays Union xs o = refl
other-stays (Relabel i j) xs o = refl
other-stays (Connect k i j) xs o = refl

-- ---- the same byte with the same operands, as far as it has any: here with n bytes from it to the end, there with n'

module _ (K b at n x y at' n' x' y' : ℕ) (c : Command) (next : ℕ) (read : read_command K at n b x y ≡ Got c next) (o : Other c)
    (long : at < next) (here : next - at ≤ n) (there : next - at ≤ n') (first : 1 < next - at → x' ≡ x) (second : 2 < next - at → y' ≡ y) where
  abbrev Same : Type 0
  Same = read_command K at' n' b x' y' ≡ Got c (at' + (next - at))

  ends : (d : Command) (k : ℕ) → Got d (at + k) ≡ Got c next → Got d (at' + k) ≡ Got c (at' + (next - at))
  ends d k q =
      let e : d ≡ c = cc in
      let l : at + k ≡ next = cc in
      ap₂ Got e (omega arith)

  union-moved : b ≡ 0x21 → Same
  union-moved e = union-read K at' n' b x' y' e (omega arith) ∙ ends Union 1 (sym (union-read K at n b x y e (omega arith)) ∙ read)

  name-moved : b ≡ 0x51 → Same
  name-moved e = step (ltb n (1 + name_length)) (sym (name-read K at n b x y e) ∙ read)
    where
      step : (q : Bool) → cond q (Fault cut) (Got (Name (name_start at)) (at + (1 + name_length))) ≡ Got c next → Same
      step true r = let z : ◌≡◌ {A = ℕ} 0 1 = cc in absurd (omega arith)
      step false r = let e : c ≡ Name (name_start at) = cc in absurd (subst Other e o)

  -- neither that nor operands: it would be no command
  none-moved : (b ≡ 0x21 → ⊥) → (b ≡ 0x51 → ⊥) → operand_count b ≡ 0 → Same
  none-moved e f h = let r = sym (unknown-read K at n b x y e f h) ∙ read in let z : ◌≡◌ {A = ℕ} 0 1 = cc in absurd (omega arith)

  leaf-moved : operand_count b ≡ 1 → Same
  leaf-moved h = step (ltb 1 n) refl
    where
      labels : (p : Bool) → leb K x ≡ p → cond p (Fault group) (Got (command_of b x 0) (at + 2)) ≡ Got c next → Same
      labels true e q = let z : ◌≡◌ {A = ℕ} 0 1 = cc in absurd (omega arith)
      labels false e q =
          let l : at + 2 ≡ next = cc in
          let f = first (omega arith) in
          leaf-read K at' n' b x' y' h (omega arith) ∙ rw (f, e) (ends (command_of b x 0) 2 q)

      step : (t : Bool) → ltb 1 n ≡ t → Same
      step false e = let t = operands-tail b (omega arith) in let q = sym (cut-read K at n b x y (omega arith) (omega (arith, ltb-false 1 n e))) ∙ read in let z : ◌≡◌ {A = ℕ} 0 1 = cc in absurd (omega arith)
      step true e = labels (leb K x) refl (sym (leaf-read K at n b x y h (ltb-true 1 n e)) ∙ read)

  pair-moved : 2 ≤ operand_count b → Same
  pair-moved h = step (ltb (operand_count b) n) refl
    where
      labels : (p q : Bool) → (leb K x || leb K y) ≡ p → eqb x y ≡ q → cond p (Fault group) (cond q (Fault same) (Got (command_of b x y) (at + 3))) ≡ Got c next → Same
      labels true q e f r = let z : ◌≡◌ {A = ℕ} 0 1 = cc in absurd (omega arith)
      labels false true e f r = let z : ◌≡◌ {A = ℕ} 0 1 = cc in absurd (omega arith)
      labels false false e f r =
          let l : at + 3 ≡ next = cc in
          let g = first (omega arith) in
          let i = second (omega arith) in
          pair_read K at' n' b x' y' h (omega (arith, few-operands b)) ∙ rw (g, i, e, f) (ends (command_of b x y) 3 r)

      step : (t : Bool) → ltb (operand_count b) n ≡ t → Same
      step false e = let t = operands-tail b (omega arith) in let q = sym (cut-read K at n b x y (omega arith) (omega (arith, ltb-false (operand_count b) n e))) ∙ read in let z : ◌≡◌ {A = ℕ} 0 1 = cc in absurd (omega arith)
      step true e = labels (leb K x || leb K y) (eqb x y) refl refl (sym (pair_read K at n b x y h (ltb-true (operand_count b) n e)) ∙ read)

  command-moved : Same
  command-moved = step (eqb b 0x21) (eqb b 0x51) (operand_count b) refl refl refl
    where
      step : (u a : Bool) (k : ℕ) → eqb b 0x21 ≡ u → eqb b 0x51 ≡ a → operand_count b ≡ k → Same
      step true a k e f h = union-moved (eqb-true b 0x21 e)
      step false true k e f h = name-moved (eqb-true b 0x51 f)
      step false false zero e f h = none-moved (eqb-false b 0x21 e) (eqb-false b 0x51 f) h
      step false false (suc zero) e f h = leaf-moved h
      step false false (suc (suc k)) e f h = pair-moved (omega arith)

-- ---- the bytes of a command, with others before them and others behind

module _ (K : ℕ) (s : List ℕ) (at : ℕ) (c : Command) (next : ℕ) (read : read_at K s at ≡ Got c next) (before behind : List ℕ) where
  abbrev own : List ℕ
  own = take (next - at) (drop at s)

  pub own-length : length own ≡ next - at
  own-length = let b = read-ends K s at c next read in omega (arith, length-take (next - at) (drop at s), length-drop at s)

  byte-moved : (i : ℕ) → i < next - at → get_or (before ++ (own ++ behind)) (length before + i) 0 ≡ get_or s (at + i) 0
  byte-moved i l =
      get_or-append-add before (own ++ behind) i 0 ∙ get_or-append own behind 0 i (omega (arith, own-length)) ∙ get_or-take (next - at) (drop at s) i 0 l ∙ get_or-drop at s i 0

  pub read-moved : Other c → read_at K (before ++ (own ++ behind)) (length before) ≡ Got c (length before + (next - at))
  unfolding read_at
  read-moved o =
      let b = read-ends K s at c next read in
      let l : next - at ≤ length (before ++ (own ++ behind)) - length before = omega (arith, length-append before (own ++ behind), length-append own behind, own-length) in
      rw (ap (λ i. get_or (before ++ (own ++ behind)) i 0) (sym (add-zero (length before))) ∙ byte-moved 0 (omega arith) ∙ ap (λ i. get_or s i 0) (add-zero at))
      (command-moved K (get_or s at 0) at _ _ _ (length before) _ _ _ c next read o b.0 (omega arith) l (byte-moved 1) (byte-moved 2))
