-- What more labels change of the checks (02, Item 12): L in place of K, for K ≤ L. Only 7 tests labels, so what it does not refuse over K is read and
-- checked over L as over K. Assumes nothing.
use mathlib.Core.Path.{◌≡◌, refl, sym, ap, ap₂, ◌∙◌}
use mathlib.Core.Bool.{Bool, true, false, cond, not, ◌&&◌, ◌||◌}
use mathlib.Core.List.{List, [], ◌∷◌, ◌++◌}
use Prim.Native.Nat.{ℕ, zero, suc, ◌+◌, ◌-◌, ◌≤◌, ◌<◌}
use native.Mathlib.Omega.{arith}
use lib.Dec.{eqb, ltb, leb}
use lib.ListN.{length, get_or}
use borrow.Author.Tests.{ltb-true, ltb-false, leb-false, lt-leb}
use Rattle.lists.proofs.Members.{or-neither}
use Rattle.expression.specs.declared.Command.{Command}
use Rattle.expression.specs.declared.Command.TheVariants.{Name}
use Rattle.expression.specs.declared.Counts.{Counts}
use Rattle.expression.specs.Refusals.{unknown, cut, group, same}
use Rattle.expression.specs.Commands.{Read, Got, Fault, one_operand, two_operands, is_name, is_command, tail_length, name_start, command_of, read_command, read_at, refusal_of}
use Rattle.expression.specs.Reading.{no_counts, counted, count_fault, Placed, Reading, faulty, whole, behind, read_from, reading}
use Rattle.expression.specs.Checks.{Checked, Passed, Refused, Request, Test, first_of, is_faulty, fault_number, fault_place, counts_of, overlong_test, limits_test, cramped_test, clash_test, fault_test, unjoined_test, absent_test, checks, check, check_sheet, depth_told, depth_outcome}
use Rattle.expression.proofs.Readings.{from_end, from-fault, from-count-fault, from_step}
use Rattle.expression.proofs.Accepted.{check-accepted}

fault-behind : (p : Placed) (r : Reading) → fault_number (behind p r) ≡ fault_number r
unfolding fault_number behind
fault-behind p (faulty f at) = refl
fault-behind p (whole cs z) = refl

group-faulty : (r : Reading) → fault_number r ≡ group → is_faulty r ≡ true
unfolding fault_number is_faulty
group-faulty (faulty f at) g = refl
group-faulty (whole cs z) g = absurd (omega arith)

-- tests ts, then the fault of a reading, then tests us
abbrev tested : List Test → (Reading → List Test) → Reading → Checked
tested ts us r = first_of (counts_of r) (ts ++ (fault_test r ∷ us r))

module _ (K L : ℕ) (wide : K ≤ L) where
  -- a label of K is one of L, where b asks for one
  label-wider : (b : Bool) (x : ℕ) → (b && leb K x) ≡ false → (b && leb L x) ≡ false
  label-wider false x h = refl
  label-wider true x h = let l = leb-false K x h in lt-leb L x (omega arith)

  -- one command
  pub read-wider : (s : List ℕ) (at : ℕ) → (refusal_of (read_at K s at) ≡ group → ⊥) → read_at L s at ≡ read_at K s at
  unfolding read_at read_command
  read-wider s at =
      step (not (is_command b)) (ltb (length s - at) (1 + tail_length b)) (over K) (over L) less
      (cond (two_operands b && eqb x y) (Fault same) (Got (cond (is_name b) (Name (name_start at)) (command_of b x y)) (at + (1 + tail_length b))))
    where
      b : ℕ
      b = get_or s at 0

      x : ℕ
      x = get_or s (at + 1) 0

      y : ℕ
      y = get_or s (at + 2) 0

      over : ℕ → Bool
      over M = (one_operand b || two_operands b) && leb M x || two_operands b && leb M y

      less : over K ≡ false → over L ≡ false
      less h =
          let (p, q) = or-neither ((one_operand b || two_operands b) && leb K x) (two_operands b && leb K y) h in
          ap₂ ◌||◌ (label-wider (one_operand b || two_operands b) x p) (label-wider (two_operands b) y q)

      step : (p q r r' : Bool) → (r ≡ false → r' ≡ false) → (z : Read)
          → (refusal_of (cond p (Fault unknown) (cond q (Fault cut) (cond r (Fault group) z))) ≡ group → ⊥)
          → cond p (Fault unknown) (cond q (Fault cut) (cond r' (Fault group) z)) ≡ cond p (Fault unknown) (cond q (Fault cut) (cond r (Fault group) z))
      step true q r r' l z h = refl
      step false true r r' l z h = refl
      step false false true r' l z h = absurd (h refl)
      step false false false r' l z h = ap (λ d. cond d (Fault group) z) (l refl)

  -- all commands from an offset on
  from-wider : (k : ℕ) (s : List ℕ) (at : ℕ) (n : Counts) → (fault_number (read_from K k s at n) ≡ group → ⊥) → read_from L k s at n ≡ read_from K k s at n
  unfolding fault_number
  from-wider zero s at n h = unfold read_from in refl
  from-wider (suc k) s at n h = ends (ltb at (length s)) refl (λ next c. from-wider k s next (counted n c))
    where
      Rest : Type 0
      Rest = (next : ℕ) (c : Command) → (fault_number (read_from K k s next (counted n c)) ≡ group → ⊥) → read_from L k s next (counted n c) ≡ read_from K k s next (counted n c)

      counts : at < length s → Rest → (c : Command) (next : ℕ) → read_at K s at ≡ Got c next → read_at L s at ≡ Got c next → (f : ℕ) → count_fault n c ≡ f
          → read_from L (suc k) s at n ≡ read_from K (suc k) s at n
      counts l rest c next e e' zero g =
          let here = from_step K k s at n l c next e g in
          from_step L k s at n l c next e' g ∙ ap (behind _) (rest next c (λ z. h (ap fault_number here ∙ fault-behind _ _ ∙ z))) ∙ sym here
      counts l rest c next e e' (suc f) g = from-count-fault L k s at n l c next f e' g ∙ sym (from-count-fault K k s at n l c next f e g)

      reads : at < length s → Rest → (r : Read) → read_at K s at ≡ r → read_from L (suc k) s at n ≡ read_from K (suc k) s at n
      reads l rest (Fault f) e =
          let here = from-fault K k s at n l f e in
          from-fault L k s at n l f (read-wider s at (λ z. h (ap fault_number here ∙ sym (ap refusal_of e) ∙ z)) ∙ e) ∙ sym here
      reads l rest (Got c next) e = counts l rest c next e (read-wider s at (λ z. let q = sym (ap refusal_of e) ∙ z in omega arith) ∙ e) (count_fault n c) refl

      ends : (b : Bool) → ltb at (length s) ≡ b → Rest → read_from L (suc k) s at n ≡ read_from K (suc k) s at n
      ends false e rest = let past = ltb-false at (length s) e in from_end L (suc k) s at n past ∙ sym (from_end K (suc k) s at n past)
      ends true e rest = reads (ltb-true at (length s) e) rest (read_at K s at) refl

  pub reading-wider : (s : List ℕ) → (fault_number (reading K s) ≡ group → ⊥) → reading L s ≡ reading K s
  unfolding reading
  reading-wider s = from-wider (length s) s 0 no_counts

  -- a list of tests, those before the reading being the same: they refuse alike, and where they pass, 7 does not refuse
  tested-wider : (s : List ℕ) (ts : List Test) (us : Reading → List Test) → ((at : ℕ) → tested ts us (reading K s) ≡ Refused group at → ⊥)
      → tested ts us (reading L s) ≡ tested ts us (reading K s)
  unfolding first_of fault_test
  tested-wider s [] us known = ap (tested [] us) (reading-wider s (λ g. known (fault_place (reading K s)) (rw (group-faulty (reading K s) g, g) refl)))
  tested-wider s (t ∷ ts) us known = step t.refuses refl (tested-wider s ts us)
    where
      here : Bool → Reading → Checked
      here b r = cond b (Refused t.number t.place) (tested ts us r)

      step : (b : Bool) → t.refuses ≡ b → (((at : ℕ) → tested ts us (reading K s) ≡ Refused group at → ⊥) → tested ts us (reading L s) ≡ tested ts us (reading K s))
          → here t.refuses (reading L s) ≡ here t.refuses (reading K s)
      step true e rest = rw e refl
      step false e rest = rw e (rest (λ at q. known at (rw e q)))

  pub check-wider : (a : Request) → ((at : ℕ) → check K a ≡ Refused group at → ⊥) → check L a ≡ check K a
  unfolding check checks
  check-wider a =
      tested-wider a.bytes (overlong_test a.bytes ∷ limits_test a.pair_limit a.subset_limit ∷ [])
      (λ r. unjoined_test a.bytes r
      ∷ cramped_test (counts_of r).deepest a.pair_limit a.subset_limit a.room
      ∷ absent_test a.bytes (counts_of r).atoms a.assumed_true a.assumed_false
      ∷ clash_test a.assumed_true a.assumed_false
      ∷ [])

  -- 02, Item 8
  pub depth-wider : (s : List ℕ) → ((at : ℕ) → check_sheet K s ≡ Refused group at → ⊥) → depth_outcome L s ≡ depth_outcome K s
  unfolding check_sheet depth_outcome
  depth-wider s known = ap depth_told (tested-wider s (overlong_test s ∷ []) (λ r. unjoined_test s r ∷ []) known)

  -- so a request that passes is read alike
  pub passed-wider : (a : Request) {z : Counts} → check K a ≡ Passed z → reading L a.bytes ≡ reading K a.bytes
  unfolding fault_number
  passed-wider a {z} h = reading-wider a.bytes (λ g. let q = sym (ap fault_number (check-accepted K a z h).joined.read) ∙ g in omega arith)
