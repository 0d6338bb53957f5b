-- What a reading without fault says of the commands: their labels are below K, and the counts are those of the trees that they make. Assumes nothing.
use mathlib.Core.Path.{◌≡◌, refl, sym, ap, ◌∙◌, subst}
use mathlib.Core.Bool.{Bool, true, false, cond, not, ◌&&◌, ◌||◌}
use mathlib.Core.List.{List, [], map}
use Prim.Native.Nat.{ℕ, zero, suc, ◌+◌, ◌-◌, ◌≤◌, ◌<◌}
use native.Mathlib.Omega.{arith}
use lib.Dec.{eqb, ltb, leb}
use lib.ListN.{length, get_or}
use borrow.Author.Tests.{leb-false}
use Rattle.lists.specs.Lists.{All}
use Rattle.lists.proofs.Members.{or-neither}
use Rattle.expression.specs.declared.Kind.TheVariants.{Head, Positive, Negative}
use Rattle.expression.specs.declared.Role.TheVariants.{Derived, External}
use Rattle.expression.specs.declared.Command.{Command}
use Rattle.expression.specs.declared.Command.TheVariants.{Rule, Union, Relabel, Connect, Name}
use Rattle.expression.specs.declared.Counts.{Counts}
use Rattle.expression.specs.Limits.{atom_limit}
use Rattle.expression.specs.Refusals.{unknown, cut, group, same}
use Rattle.expression.specs.Commands.{Read, Got, Fault, one_operand, two_operands, is_name, is_command, tail_length, name_start, atom_of, command_of, read_command, read_at, Suits}
use Rattle.expression.specs.Effects.{effect, operands_by}
use Rattle.expression.specs.Reading.{depth_after, counted, count_fault, Placed, Reading, faulty, whole, no_counts, behind, read_from, reading}
use Rattle.expression.proofs.Totals.{Limited, none-limited, counted-limited, passes-operands}
use Rattle.semantics.specs.Expressions.{Expr, act, act_all, trees}
use Rattle.semantics.proofs.Effects.{act-deep}
use Rattle.semantics.proofs.Stacks.{atoms_after}

-- ---- a command that is read has labels below K

module _ (K b x y : ℕ) (low : ((one_operand b || two_operands b) && leb K x || two_operands b && leb K y) ≡ false) where
  labels-one : (one_operand b || two_operands b) ≡ true → x < K
  labels-one h = leb-false K x (sym (ap (λ t. t && leb K x) h) ∙ (or-neither ((one_operand b || two_operands b) && leb K x) (two_operands b && leb K y) low).0)

  labels-two : two_operands b ≡ true → (x < K) × (y < K)
  labels-two h = (labels-one (either (one_operand b) (two_operands b) h), leb-false K y (sym (ap (λ t. t && leb K y) h) ∙ (or-neither ((one_operand b || two_operands b) && leb K x) (two_operands b && leb K y) low).1))
    where
      either : (p q : Bool) → q ≡ true → (p || q) ≡ true
      either true q h = refl
      either false q h = h

  command-suits : (at : ℕ) → is_command b ≡ true → Suits K (cond (is_name b) (Name at) (command_of b x y))
  unfolding command_of Suits is_command one_operand two_operands
  command-suits at known = step (is_name b) (eqb b 0x11) (eqb b 0x12) (eqb b 0x13) (eqb b 0x21) (eqb b 0x31) (eqb b 0x41) (eqb b 0x42) known labels-one labels-two
    where
      step : (a p q r u m h n : Bool) → (u || a || (p || q || r) || (m || h || n || eqb b 0x43)) ≡ true
          → ((p || q || r || (m || h || n || eqb b 0x43)) ≡ true → x < K) → ((m || h || n || eqb b 0x43) ≡ true → (x < K) × (y < K))
          → Suits K (cond a (Name at) (cond p (atom_of Derived x) (cond q (Rule x) (cond r (atom_of External x) (cond u Union (cond m (Relabel x y) (cond h (Connect Head x y) (cond n (Connect Positive x y) (Connect Negative x y)))))))))
      step true p q r u m h n k f g = tt
      step false true q r u m h n k f g = f refl
      step false false true r u m h n k f g = f refl
      step false false false true u m h n k f g = f refl
      step false false false false true m h n k f g = tt
      step false false false false false true h n k f g = g refl
      step false false false false false false true n k f g = g refl
      step false false false false false false false true k f g = g refl
      step false false false false false false false false k f g = g k

command-read : (K at n b x y : ℕ) (c : Command) (next : ℕ) → read_command K at n b x y ≡ Got c next → Suits K c
unfolding read_command
command-read K at n b x y c next h =
    step (is_command b) (ltb n (1 + tail_length b)) ((one_operand b || two_operands b) && leb K x || two_operands b && leb K y) (two_operands b && eqb x y) refl refl h
  where
    step : (p q r t : Bool) → is_command b ≡ p → ((one_operand b || two_operands b) && leb K x || two_operands b && leb K y) ≡ r
        → cond (not p) (Fault unknown) (cond q (Fault cut) (cond r (Fault group) (cond t (Fault same) (Got (cond (is_name b) (Name (name_start at)) (command_of b x y)) (at + (1 + tail_length b)))))) ≡ Got c next → Suits K c
    step true false false false e f h = let k : cond (is_name b) (Name (name_start at)) (command_of b x y) ≡ c = cc in subst (Suits K) k (command-suits K b x y f (name_start at) e)
    step true false false true e f h = let z : ◌≡◌ {A = ℕ} 0 1 = cc in absurd (omega arith)
    step true false true t e f h = let z : ◌≡◌ {A = ℕ} 0 1 = cc in absurd (omega arith)
    step true true r t e f h = let z : ◌≡◌ {A = ℕ} 0 1 = cc in absurd (omega arith)
    step false q r t e f h = let z : ◌≡◌ {A = ℕ} 0 1 = cc in absurd (omega arith)

pub read-suits : (K : ℕ) (s : List ℕ) (at : ℕ) (c : Command) (next : ℕ) → read_at K s at ≡ Got c next → Suits K c
unfolding read_at
read-suits K s at c next h = command-read K at (length s - at) (get_or s at 0) (get_or s (at + 1) 0) (get_or s (at + 2) 0) c next h

-- ---- a whole reading

abbrev pub commands_of : List Placed → List Command
commands_of cs = map (λ p. p.command) cs

-- counts n and trees es before, counts z after the commands cs
pub record Sound (K : ℕ) (n : Counts) (es : List Expr) (cs : List Placed) (z : Counts) : Type 0 where
  pub suits : All (Suits K) (commands_of cs)
  pub depth : z.depth ≡ length (act_all trees n.atoms (commands_of cs) es)
  pub atoms : z.atoms ≡ atoms_after n.atoms (commands_of cs)
  pub few : z.atoms ≤ atom_limit

abbrev SoundReading : ℕ → Counts → List Expr → Reading → Type 0
SoundReading K n es (faulty f at) = Unit {0}
SoundReading K n es (whole cs z) = Sound K n es cs z

behind-sound : (K : ℕ) (n : Counts) (es : List Expr) (at : ℕ) (c : Command) (r : Reading) → Suits K c
    → SoundReading K (counted n c) (act trees n.atoms c es) r → SoundReading K n es (behind (record { place = at; command = c }) r)
unfolding behind counted act_all atoms_after
behind-sound K n es at c (faulty f p) h k = tt
behind-sound K n es at c (whole cs z) h k = record { suits = (h, k.suits); depth = k.depth; atoms = k.atoms; few = k.few }

from-sound : (K k : ℕ) (s : List ℕ) (at : ℕ) (n : Counts) (es : List Expr) → n.depth ≡ length es → Limited n → SoundReading K n es (read_from K k s at n)
unfolding read_from act_all atoms_after
from-sound K zero s at n es h l = record { suits = tt; depth = h; atoms = refl; few = l.atoms }
from-sound K (suc k) s at n es h l = ends (ltb at (length s)) (λ next c e g. from-sound K k s next (counted n c) (act trees n.atoms c es) e g)
  where
    Rest : Type 0
    Rest = (next : ℕ) (c : Command) → (counted n c).depth ≡ length (act trees n.atoms c es) → Limited (counted n c)
        → SoundReading K (counted n c) (act trees n.atoms c es) (read_from K k s next (counted n c))

    counts : (next : ℕ) (c : Command) → Suits K c → Rest → (f : ℕ) → count_fault n c ≡ f
        → SoundReading K n es (elim f as (λ x. Reading) [ zero ↦ behind (record { place = at; command = c }) (read_from K k s next (counted n c)) | suc m ↦ faulty (suc m) at ])
    counts next c w rest zero e = behind-sound K n es at c (read_from K k s next (counted n c)) w (rest next c depth-counted (counted-limited n c e l))
      where
        depth-counted : (counted n c).depth ≡ length (act trees n.atoms c es)
        depth-counted = unfold counted in ap (λ k. depth_after k c) h ∙ sym (act-deep trees n.atoms c es (subst (λ k. operands_by (effect c) ≤ k) h (passes-operands n c e)))
    counts next c w rest (suc f) e = tt

    reads : Rest → (r : Read) → read_at K s at ≡ r
        → SoundReading K n es (elim r as (λ x. Reading) [
          | Fault f ↦ faulty f at
          | Got c next ↦ elim (count_fault n c) [ zero ↦ behind (record { place = at; command = c }) (read_from K k s next (counted n c)) | suc m ↦ faulty (suc m) at ]
        ])
    reads rest (Fault f) e = tt
    reads rest (Got c next) e = counts next c (read-suits K s at c next e) rest (count_fault n c) refl

    ends : (b : Bool) → Rest
        → SoundReading K n es (elim b as (λ x. Reading) [
          | false ↦ whole [] n
          | true ↦ elim (read_at K s at) [
            | Fault f ↦ faulty f at
            | Got c next ↦ elim (count_fault n c) [ zero ↦ behind (record { place = at; command = c }) (read_from K k s next (counted n c)) | suc m ↦ faulty (suc m) at ]
          ]
        ])
    ends false rest = record { suits = tt; depth = h; atoms = refl; few = l.atoms }
    ends true rest = reads rest (read_at K s at) refl

pub reading-sound : (K : ℕ) (s : List ℕ) (cs : List Placed) (z : Counts) → reading K s ≡ whole cs z → Sound K no_counts [] cs z
unfolding reading no_counts
reading-sound K s cs z h = subst (SoundReading K no_counts []) h (from-sound K (length s) s 0 no_counts [] refl none-limited)
