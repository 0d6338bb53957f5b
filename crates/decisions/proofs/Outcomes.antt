-- What the decisions answer is right; and each way in which a decision over tables of pairs with values ends gives what the definition answers.
-- Assumes nothing.
use mathlib.Core.Path.{◌≡◌, refl, sym, ap, ◌∙◌, subst}
use mathlib.Core.List.{List}
use Prim.Native.Nat.{ℕ}
use Rattle.expression.specs.declared.Counts.{Counts}
use Rattle.expression.specs.declared.Outcome.{Outcome}
use Rattle.expression.specs.declared.Outcome.TheVariants.{Yes, No, Refused}
use Rattle.expression.specs.Checks.{Passed, Request, check}
use Rattle.tables.specs.Definitions.{Pair, pairs}
use Rattle.values.specs.Values.{Valued, none, worth}
use Rattle.values.specs.First.{first_words, shown_by}
use Rattle.decisions.specs.Decisions.{Verdict, affirmed, denied, refused, newest, stopped, walked, grounded, plain, Shows}
use Rattle.decisions.specs.First.{first_mask}
use Rattle.decisions.specs.Outcomes.{verdict_of, with_mask, without_mask, grounded_outcome, plain_outcome, GroundedRight, PlainRight}
use Rattle.decisions.specs.Exceeding.{Demand3, Demand3Shown}
use Rattle.decisions.proofs.Walks.{Settled}
use Rattle.decisions.proofs.Demands.{mask-verdict, grounded-denied, plain-denied, plain-affirmed}
use Rattle.decisions.proofs.Carried.{valued_walk, grounded-stopped}
use Rattle.decisions.proofs.Words.{least_in, first-shown, none-shown}
use Rattle.decisions.proofs.Exceeding.{demand3}
use Rattle.decisions.proofs.First.{first-mask, first-only}

module _ (K : ℕ) (a : Request) where
  -- ---- what the decisions answer is right

  grounded-shows : (v : Verdict) → grounded K a ≡ v → GroundedRight K a (with_mask (first_mask K a) v)
  grounded-shows affirmed h = first-mask K a h
  grounded-shows denied h = (grounded-denied K a (subst Settled (sym h) tt)).0 h
  grounded-shows (refused n at) h = tt

  pub grounded-right : {r : Outcome} → r ≡ grounded_outcome K a → GroundedRight K a r
  grounded-right e = subst (GroundedRight K a) (sym e) (grounded-shows (grounded K a) refl)

  plain-shows : (v : Verdict) → plain K a ≡ v → PlainRight K a (without_mask v)
  plain-shows affirmed h = let f = (plain-affirmed K a (subst Settled (sym h) tt)).0 h in (f.by, f.obeys, f.model)
  plain-shows denied h = (plain-denied K a (subst Settled (sym h) tt)).0 h
  plain-shows (refused n at) h = tt

  pub plain-right : {r : Outcome} → r ≡ plain_outcome K a → PlainRight K a r
  plain-right e = subst (PlainRight K a) (sym e) (plain-shows (plain K a) refl)

  -- demand 3 of what is shown
  pub demand3-shown : Demand3Shown K a (grounded_outcome K a)
  demand3-shown = record { verdict = subst (Demand3 K a) (sym (mask-verdict (first_mask K a) (grounded K a))) (demand3 K a); shows = λ m e. grounded-right (sym e) }

  -- ---- what Item 5 changes: of the outcomes allowed before it one is left

  -- the verdict's, and with yes any answer set that obeys the assumptions
  pub record BaseOutcome (r : Outcome) : Type 0 where
    pub verdict : verdict_of r ≡ grounded K a
    pub shows : (m : ℕ) → r ≡ Yes m → Shows K a m

  pub base-outcome : BaseOutcome (grounded_outcome K a)
  base-outcome = record { verdict = mask-verdict (first_mask K a) (grounded K a); shows = λ m e. (demand3-shown.shows m e).shows }

  -- ---- from the verdict

  pub grounded-outcome : {v : Verdict} → grounded K a ≡ v → with_mask (first_mask K a) v ≡ grounded_outcome K a
  grounded-outcome h = ap (with_mask (first_mask K a)) (sym h)

  pub plain-outcome : {v : Verdict} → plain K a ≡ v → without_mask v ≡ plain_outcome K a
  plain-outcome h = ap without_mask (sym h)

  -- ---- from the walk with first values, as 64-bit words keep them

  module _ {z : Counts} (passed : check K a ≡ Passed z) where
    pub stopped-outcome : {n at : ℕ} → valued_walk (pairs K) first_words a.subset_limit K a ≡ stopped n at → Refused n at ≡ grounded_outcome K a
    stopped-outcome h = grounded-outcome (grounded-stopped first_words K a passed h)

    module _ {us : List (List (Valued Pair ℕ))} (left : valued_walk (pairs K) first_words a.subset_limit K a ≡ walked us) where
      -- the mask of the least value is the first answer set, and so the one that the definition chooses
      pub yes-outcome : (v : ℕ) → least_in K (newest us) ≡ worth v → Yes (shown_by z.atoms v) ≡ grounded_outcome K a
      yes-outcome v h =
          let (y, s) = first-shown K a passed left v h in
          ap Yes (first-only K a y (shown_by z.atoms v) (first_mask K a) s (first-mask K a y)) ∙ grounded-outcome y

      pub no-outcome : least_in K (newest us) ≡ none → No ≡ grounded_outcome K a
      no-outcome h = grounded-outcome (none-shown K a passed left h)
