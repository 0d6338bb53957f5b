-- NAMES CHANGE NOTHING ELSE (02, Item 1): a request that passes its checks gets, with the names taken out of its bytes, the same verdict and plan; only a
-- place of a refusal moves. Assumes nothing.
use mathlib.Core.Path.{◌≡◌, refl, sym, ap, ap₂, ◌∙◌}
use mathlib.Core.Bool.{Bool, true, false, cond}
use mathlib.Core.List.{List, [], ◌∷◌, map}
use Prim.Native.Nat.{ℕ, ◌≤◌, zero-le}
use native.Mathlib.Omega.{arith}
use lib.ListN.{length}
use borrow.Author.Tests.{le-ltb}
use Rattle.lists.specs.Lists.{some, run}
use Rattle.expression.specs.declared.Counts.{Counts}
use Rattle.expression.specs.Limits.{byte_limit}
use Rattle.expression.specs.Refusals.{plans_full}
use Rattle.expression.specs.Reading.{Placed, whole, reading}
use Rattle.expression.specs.Checks.{Checked, Passed, Refused, Request, Test, first_of, is_faulty, fault_number, counts_of, overlong_test, limits_test, cramped_test, clash_test, fault_test, unjoined_test, absent_test, checks, check}
use Rattle.expression.proofs.Accepted.{Accepted, check-accepted}
use Rattle.semantics.specs.Programs.{numbers}
use Rattle.tables.specs.Algebras.{Algebra, tables}
use Rattle.decisions.specs.Decisions.{Verdict, affirmed, denied, refused, assumed, commands_in, pairs_fault, plain_fault, conclude, walk, decide, grounded, plain, expression_of}
use Rattle.decisions.specs.First.{leaving, keeping, says_yes, chosen, first_mask}
use Rattle.decisions.specs.Outcomes.{with_mask, without_mask, grounded_outcome, plain_outcome}
use Rattle.decisions.proofs.Carried.{decide-passed}
use Rattle.naming.specs.Unnamed.{unnamed, unnaming, placeless, placeless_outcome}
use Rattle.naming.proofs.Unnamed.{reading-unnamed, unnamed-shorter}
use Rattle.naming.proofs.Tables.{tree-unnamed, walk-unnamed}

-- ---- places apart

unfoldable placeless_check : Checked → Checked
placeless_check (Passed z) = Passed z
placeless_check (Refused n at) = Refused n 0

placeless_test : Test → Test
placeless_test t = record { refuses = t.refuses; number = t.number; place = 0 }

-- the answer of tests is that of the same tests without places
first-placeless : (z : Counts) (ts : List Test) → placeless_check (first_of z ts) ≡ first_of z (map placeless_test ts)
unfolding placeless_check first_of placeless_test
first-placeless z [] = refl
first-placeless z (t ∷ ts) = step t.refuses (first-placeless z ts)
  where
    step : (b : Bool) → placeless_check (first_of z ts) ≡ first_of z (map placeless_test ts)
        → placeless_check (cond b (Refused t.number t.place) (first_of z ts)) ≡ cond b (Refused t.number 0) (first_of z (map placeless_test ts))
    step true e = refl
    step false e = e

-- a place says nothing of yes, nor of a mask
yes-placeless : (v : Verdict) → says_yes (placeless v) ≡ says_yes v
unfolding says_yes placeless
yes-placeless affirmed = refl
yes-placeless denied = refl
yes-placeless (refused n at) = refl

outcome-placeless : (m : ℕ) (v : Verdict) → placeless_outcome (with_mask m v) ≡ with_mask m (placeless v)
unfolding placeless_outcome placeless
outcome-placeless m affirmed = refl
outcome-placeless m denied = refl
outcome-placeless m (refused n at) = refl

-- ---- bytes that are read whole, and are not too many, whatever is assumed

module _ (K : ℕ) (a : Request) (cs : List Placed) (z : Counts) (short : length a.bytes ≤ byte_limit) (read : reading K a.bytes ≡ whole cs z) where
  -- neither is too long, and the others go by the counts
  same_tests : (ds : List Placed) → map placeless_test (checks (unnaming K a) (whole ds z)) ≡ map placeless_test (checks a (whole cs z))
  unfolding checks placeless_test overlong_test limits_test cramped_test clash_test fault_test unjoined_test absent_test is_faulty fault_number counts_of
  same_tests ds = rw (le-ltb byte_limit (length (unnamed K a.bytes)) (omega (arith, unnamed-shorter K a.bytes)), le-ltb byte_limit (length a.bytes) short) refl

  -- the same test refuses, if any does
  check-alike : placeless_check (check K (unnaming K a)) ≡ placeless_check (check K a)
  unfolding check counts_of
  check-alike =
      let (ds, e, same) = reading-unnamed K a.bytes cs z read in
      ap (λ r. placeless_check (first_of (counts_of r) (checks (unnaming K a) r))) e
      ∙ first-placeless z (checks (unnaming K a) (whole ds z)) ∙ ap (first_of z) (same_tests ds) ∙ sym (first-placeless z (checks a (whole cs z)))
      ∙ sym (ap (λ r. placeless_check (first_of (counts_of r) (checks a r))) read)

  -- a decision by tables of which the empty one exceeds no limit
  decide-alike : {X : Type 0} (A : Algebra X) (f : List X → ℕ) (y : List X → Bool) → f [] ≡ 0 → placeless (decide A f y K (unnaming K a)) ≡ placeless (decide A f y K a)
  unfolding decide assumed commands_in placeless placeless_check
  decide-alike A f y none = step (check K a) (check K (unnaming K a)) refl refl check-alike
    where
      step : (c d : Checked) → check K a ≡ c → check K (unnaming K a) ≡ d → placeless_check d ≡ placeless_check c → placeless (decide A f y K (unnaming K a)) ≡ placeless (decide A f y K a)
      step (Passed x) (Passed x') e e' q =
          let (ds, read', same) = reading-unnamed K a.bytes cs z read in
          ap placeless (decide-passed A f y K (unnaming K a) e' ∙ ap (λ r. conclude y (walk (tables A (assumed a)) f 0 (commands_in r) [])) read')
          ∙ walk-unnamed (tables A (assumed a)) f y cs ds none same
          ∙ sym (ap placeless (decide-passed A f y K a e ∙ ap (λ r. conclude y (walk (tables A (assumed a)) f 0 (commands_in r) [])) read))
      step (Passed x) (Refused m p) e e' q = let b : ◌≡◌ {A = ℕ} 0 1 = cc in absurd (omega arith)
      step (Refused n at) (Passed x) e e' q = let b : ◌≡◌ {A = ℕ} 0 1 = cc in absurd (omega arith)
      step (Refused n at) (Refused m p) e e' q = let same : m ≡ n = cc in rw (e, e', decide) (ap (λ x. refused x 0) same)

  grounded-alike : placeless (grounded K (unnaming K a)) ≡ placeless (grounded K a)
  unfolding grounded pairs_fault some
  grounded-alike = decide-alike _ _ _ (ap (λ b. cond b plans_full 0) (le-ltb a.pair_limit 0 zero-le))

  says-alike : says_yes (grounded K (unnaming K a)) ≡ says_yes (grounded K a)
  says-alike = sym (yes-placeless (grounded K (unnaming K a))) ∙ ap says_yes grounded-alike ∙ yes-placeless (grounded K a)

  plain-alike : placeless (plain K (unnaming K a)) ≡ placeless (plain K a)
  unfolding plain plain_fault
  plain-alike = decide-alike _ _ _ (ap (λ b. cond b plans_full 0) (le-ltb a.pair_limit 0 zero-le))

-- ---- the first plan: its tests assume more, of the same bytes

chosen-alike : (K : ℕ) (xs : List ℕ) (a : Request) (cs : List Placed) (z : Counts) → length a.bytes ≤ byte_limit → reading K a.bytes ≡ whole cs z → chosen K (unnaming K a) xs ≡ chosen K a xs
unfolding chosen
chosen-alike K [] a cs z short read = refl
chosen-alike K (c ∷ xs) a cs z short read =
    rw (says-alike K (leaving c a) cs z short read, chosen-alike K xs (leaving c a) cs z short read, chosen-alike K xs (keeping c a) cs z short read) refl

mask-alike : (K : ℕ) (a : Request) (cs : List Placed) (z : Counts) → length a.bytes ≤ byte_limit → reading K a.bytes ≡ whole cs z → first_mask K (unnaming K a) ≡ first_mask K a
unfolding first_mask
mask-alike K a cs z short read =
    ap (λ e. chosen K (unnaming K a) (run 0 (length (numbers e)))) (tree-unnamed K a.bytes cs z read)
    ∙ chosen-alike K (run 0 (length (numbers (expression_of K a.bytes)))) a cs z short read

-- ---- a request that passes its checks

module _ (K : ℕ) (a : Request) {z : Counts} (passed : check K a ≡ Passed z) where
  A : Accepted K a z
  A = check-accepted K a z passed

  -- without its names it passes, with the same counts
  pub check-unnamed : check K (unnaming K a) ≡ Passed z
  unfolding placeless_check
  check-unnamed = step (check K (unnaming K a)) (check-alike K a A.joined.placed z A.short A.joined.read ∙ ap placeless_check passed)
    where
      step : (c : Checked) → placeless_check c ≡ Passed z → c ≡ Passed z
      step (Passed y) e = e
      step (Refused n at) e = let b : ◌≡◌ {A = ℕ} 0 1 = cc in absurd (omega arith)

  -- 15 and 16 included, their places apart
  pub verdict-unnamed : placeless (grounded K (unnaming K a)) ≡ placeless (grounded K a)
  verdict-unnamed = grounded-alike K a A.joined.placed z A.short A.joined.read

  pub plain-unnamed : placeless (plain K (unnaming K a)) ≡ placeless (plain K a)
  plain-unnamed = plain-alike K a A.joined.placed z A.short A.joined.read

  -- with the same plan
  pub outcome-unnamed : placeless_outcome (grounded_outcome K (unnaming K a)) ≡ placeless_outcome (grounded_outcome K a)
  outcome-unnamed =
      outcome-placeless (first_mask K (unnaming K a)) (grounded K (unnaming K a))
      ∙ ap₂ with_mask (mask-alike K a A.joined.placed z A.short A.joined.read) verdict-unnamed
      ∙ sym (outcome-placeless (first_mask K a) (grounded K a))

  pub plain-outcome-unnamed : placeless_outcome (plain_outcome K (unnaming K a)) ≡ placeless_outcome (plain_outcome K a)
  plain-outcome-unnamed = outcome-placeless 0 (plain K (unnaming K a)) ∙ ap without_mask plain-unnamed ∙ sym (outcome-placeless 0 (plain K a))
