-- By which numbers a reading and the checks refuse: 5 to 11, and 13 at most. Assumes nothing.
use mathlib.Core.Path.{◌≡◌, refl, sym, subst}
use mathlib.Core.Bool.{Bool, true, false, true≢false, cond, not, ◌&&◌, ◌||◌}
use mathlib.Core.List.{List, [], ◌∷◌}
use Prim.Native.Nat.{ℕ, zero, suc, ◌+◌, ◌-◌, ◌≤◌, ◌<◌}
use native.Mathlib.Omega.{arith}
use lib.Dec.{eqb, ltb, leb}
use lib.ListN.{length, get_or}
use borrow.Author.Tests.{ltb-true, ltb-false}
use Rattle.lists.specs.Lists.{All}
use Rattle.expression.specs.declared.Command.{Command}
use Rattle.expression.specs.declared.Command.TheVariants.{Name}
use Rattle.expression.specs.declared.Leaf.TheVariants as leaf
use Rattle.expression.specs.declared.Effect.{Effect}
use Rattle.expression.specs.declared.Effect.TheVariants.{Push, Unite, Change, Pass}
use Rattle.expression.specs.declared.Counts.{Counts}
use Rattle.expression.specs.Limits.{atom_limit, rule_limit, depth_limit}
use Rattle.expression.specs.Refusals.{unknown, cut, group, same, crowded, deep, bare, absent}
use Rattle.expression.specs.Commands.{Read, Got, Fault, one_operand, two_operands, is_name, is_command, tail_length, name_start, command_of, read_command, read_at}
use Rattle.expression.specs.Effects.{effect}
use Rattle.expression.specs.Reading.{no_counts, counted, fault_by, count_fault, Placed, Reading, faulty, whole, behind, read_from, reading}
use Rattle.expression.specs.Checks.{Refused, Request, Test, first_of, is_faulty, fault_number, overlong_test, limits_test, cramped_test, clash_test, fault_test, unjoined_test, absent_test, checks, check}
use Rattle.expression.proofs.Readings.{from_end, from-fault, from-count-fault, from_step}

abbrev Among : ℕ → ℕ → ℕ → Type 0
Among low high n = (low ≤ n) × (n ≤ high)

-- ---- a reading's fault is 5 to 11

read_number : (K : ℕ) (s : List ℕ) (at : ℕ) {f : ℕ} → read_at K s at ≡ Fault f → Among unknown same f
unfolding read_at read_command
read_number K s at {f} h =
    let b = get_or s at 0 in
    let x = get_or s (at + 1) 0 in
    let y = get_or s (at + 2) 0 in
    step (not (is_command b)) (ltb (length s - at) (1 + tail_length b)) ((one_operand b || two_operands b) && leb K x || two_operands b && leb K y) (two_operands b && eqb x y) (cond (is_name b) (Name (name_start at)) (command_of b x y)) (at + (1 + tail_length b)) h
  where
    step : (p q r t : Bool) (c : Command) (next : ℕ) → cond p (Fault unknown) (cond q (Fault cut) (cond r (Fault group) (cond t (Fault same) (Got c next)))) ≡ Fault f → Among unknown same f
    step true q r t c next h = let e : unknown ≡ f = cc in (omega arith, omega arith)
    step false true r t c next h = let e : cut ≡ f = cc in (omega arith, omega arith)
    step false false true t c next h = let e : group ≡ f = cc in (omega arith, omega arith)
    step false false false true c next h = let e : same ≡ f = cc in (omega arith, omega arith)
    step false false false false c next h = let q : ◌≡◌ {A = ℕ} 0 1 = cc in absurd (omega arith)

leaf-number : (p q : Bool) → 0 < cond p crowded (cond q deep 0) → Among crowded bare (cond p crowded (cond q deep 0))
leaf-number true q l = (omega arith, omega arith)
leaf-number false true l = (omega arith, omega arith)
leaf-number false false l = absurd (omega arith)

operand-number : (p : Bool) → 0 < cond p bare 0 → Among crowded bare (cond p bare 0)
operand-number true l = (omega arith, omega arith)
operand-number false l = absurd (omega arith)

count-number : (n : Counts) (c : Command) → 0 < count_fault n c → Among crowded bare (count_fault n c)
unfolding count_fault
count-number n c = step (effect c)
  where
    step : (e : Effect) → 0 < fault_by n e → Among crowded bare (fault_by n e)
    step (Push leaf.Atom) = leaf-number (leb atom_limit n.atoms) (leb depth_limit n.depth)
    step (Push leaf.Rule) = leaf-number (leb rule_limit n.rules) (leb depth_limit n.depth)
    step Unite = operand-number (ltb n.depth 2)
    step Change = operand-number (ltb n.depth 1)
    step Pass = operand-number (ltb n.depth 1)

abbrev Numbered : Reading → Type 0
Numbered (faulty f at) = Among unknown bare f
Numbered (whole cs z) = Unit {0}

behind-numbered : (p : Placed) (r : Reading) → Numbered r → Numbered (behind p r)
unfolding behind
behind-numbered p (faulty f at) h = h
behind-numbered p (whole cs z) h = tt

from-numbered : (K k : ℕ) (s : List ℕ) (at : ℕ) (n : Counts) → Numbered (read_from K k s at n)
from-numbered K zero s at n = unfold read_from in tt
from-numbered K (suc k) s at n = ends (ltb at (length s)) refl (λ next c. from-numbered K k s next (counted n c))
  where
    Rest : Type 0
    Rest = (next : ℕ) (c : Command) → Numbered (read_from K k s next (counted n c))

    counts : at < length s → Rest → (c : Command) (next : ℕ) → read_at K s at ≡ Got c next → (f : ℕ) → count_fault n c ≡ f → Numbered (read_from K (suc k) s at n)
    counts l rest c next e zero g = rw (from_step K k s at n l c next e g) (behind-numbered _ _ (rest next c))
    counts l rest c next e (suc f) g =
        let h = subst (λ x. 0 < x → Among crowded bare x) g (count-number n c) (omega arith) in rw (from-count-fault K k s at n l c next f e g) (omega (arith, h.0), h.1)

    reads : at < length s → Rest → (r : Read) → read_at K s at ≡ r → Numbered (read_from K (suc k) s at n)
    reads l rest (Fault f) e = let h = read_number K s at e in rw (from-fault K k s at n l f e) (h.0, omega (arith, h.1))
    reads l rest (Got c next) e = counts l rest c next e (count_fault n c) refl

    ends : (b : Bool) → ltb at (length s) ≡ b → Rest → Numbered (read_from K (suc k) s at n)
    ends false e rest = rw (from_end K (suc k) s at n (ltb-false at (length s) e)) tt
    ends true e rest = reads (ltb-true at (length s) e) rest (read_at K s at) refl

numbered : (r : Reading) → Numbered r → (fault_number r ≤ bare) × (is_faulty r ≡ true → unknown ≤ fault_number r)
unfolding fault_number is_faulty
numbered (faulty f at) h = (h.1, λ e. h.0)
numbered (whole cs z) h = (omega arith, λ e. absurd (true≢false (sym e)))

pub reading-number : (K : ℕ) (s : List ℕ) → (fault_number (reading K s) ≤ bare) × (is_faulty (reading K s) ≡ true → unknown ≤ fault_number (reading K s))
unfolding reading
reading-number K s = numbered (reading K s) (from-numbered K (length s) s 0 no_counts)

-- ---- checks refuse by 13 at most

first-number : (z : Counts) (m : ℕ) (ts : List Test) → All (λ t. t.number ≤ m) ts → {n at : ℕ} → first_of z ts ≡ Refused n at → n ≤ m
unfolding first_of
first-number z m [] h e = let q : ◌≡◌ {A = ℕ} 0 1 = cc in absurd (omega arith)
first-number z m (t ∷ ts) h {n} {at} e = step t.refuses (λ k. first-number z m ts h.1 k) e
  where
    step : (b : Bool) → (first_of z ts ≡ Refused n at → n ≤ m) → cond b (Refused t.number t.place) (first_of z ts) ≡ Refused n at → n ≤ m
    step true g k = let q : t.number ≡ n = cc in subst (λ x. x ≤ m) q h.0
    step false g k = g k

pub check-number : (K : ℕ) (a : Request) {n at : ℕ} → check K a ≡ Refused n at → n ≤ absent
unfolding check checks overlong_test limits_test cramped_test clash_test fault_test unjoined_test absent_test
check-number K a h =
    let l = (reading-number K a.bytes).0 in
    first-number _ absent _ (omega arith, (omega arith, (omega arith, (omega arith, (omega arith, (omega arith, (omega arith, tt))))))) h
