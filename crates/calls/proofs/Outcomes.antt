-- What a decision over tables with values answers is the outcome that the definitions ask. Assumes nothing.
use mathlib.Core.Path.{◌≡◌, refl, sym, ap, ◌∙◌, subst}
use mathlib.Core.List.{List, map}
use Prim.Native.Nat.{ℕ, ◌+◌}
use lib.ListN.{length}
use Rattle.std.specs.Prelude.{Option, Some, None, Result, Ok}
use Rattle.std.specs.Option.{option_map}
use Rattle.values.specs.First.{shown_by}
use Rattle.labels.specs.Labels.{label_count}
use Rattle.expression.specs.declared.Counts.{Counts}
use Rattle.expression.specs.declared.refusals.Refusal.{Refusal}
use Rattle.expression.specs.Told.{outcome_of}
use Rattle.expression.specs.declared.Outcome.{Outcome}
use Rattle.expression.specs.declared.Outcome.TheVariants.{Yes, No, Refused}
use Rattle.expression.specs.Checks.{Passed, Refused as Stopped, Request, check}
use Rattle.checks.specs.declared.frames.Frame.{Frame}
use Rattle.checks.specs.Frames.{frame_of}
use Rattle.checks.proofs.Passing.{accepted}
use Rattle.semantics.specs.AnswerSets.{by_masks}
use Rattle.tables.specs.Definitions.{pairs, accepting}
use Rattle.values.specs.Values.{lowered}
use Rattle.values.specs.First.{first_words}
use Rattle.decisions.specs.Decisions.{assumed, newest}
use Rattle.decisions.specs.Outcomes.{grounded_outcome}
use Rattle.decisions.proofs.Carried.{map_walked, newest-map, valued_walk, low-walk, grounded-refused}
use Rattle.decisions.proofs.Words.{least_in}
use Rattle.decisions.proofs.Outcomes.{grounded-outcome, stopped-outcome, yes-outcome, no-outcome}
use Rattle.entries.specs.declared.Carry.TheVariants.{First}
use Rattle.entries.specs.Carries.{Entry}
use Rattle.leaves.specs.declared.Tables.TheVariants.{Pairs}
use Rattle.leaves.specs.Leaves.{algebra_of}
use Rattle.answers.specs.Answers.{least_of}
use Rattle.walks.specs.Walks.{walk_to}
use Rattle.walks.proofs.Whole.{whole-walk}
use Rattle.deciding.specs.Deciding.{Decides}
use Rattle.engine.specs.Engine.{shown_outcome}

-- the least number of the newest table
newest-low : (us : List (List Entry)) → least_in label_count (newest (map (map lowered) us)) ≡ least_of (accepting label_count) (newest us)
newest-low us = ap (least_in label_count) (newest-map lowered us)

-- the mask of what is found
pub shown-mapped : (n : ℕ) (x : Option ℕ) → outcome_of (Ok (option_map (shown_by n) x)) ≡ shown_outcome n (outcome_of (Ok x))
shown-mapped n None = refl
shown-mapped n (Some v) = refl

module _ (a : Request) where
  -- ---- a check refuses

  pub refused-grounded : {n at : ℕ} → check label_count a ≡ Stopped n at → Refused n at ≡ grounded_outcome label_count a
  refused-grounded h = grounded-outcome label_count a (grounded-refused label_count a h)

  -- ---- all checks pass

  module _ {z : Counts} (passed : check label_count a ≡ Passed z) where
    pairs-walk : valued_walk (pairs label_count) first_words a.subset_limit label_count a
        ≡ map_walked lowered (walk_to Pairs First (by_masks a.assumed_true a.assumed_false) (a.subset_limit + 2) a.pair_limit (length a.bytes) a.bytes)
    unfolding assumed algebra_of
    pairs-walk = low-walk (pairs label_count) first_words a.subset_limit label_count a ∙ sym (ap (map_walked lowered) (whole-walk a (accepted a passed).joined Pairs First (a.subset_limit + 2) a.subset_limit refl))

    pub grounded-decided : (o : Outcome) → Decides Pairs First (by_masks a.assumed_true a.assumed_false) (a.subset_limit + 2) a.pair_limit a.bytes o → shown_outcome z.atoms o ≡ grounded_outcome label_count a
    unfolding map_walked
    grounded-decided (Yes v) (us, e, l) = yes-outcome label_count a passed (pairs-walk ∙ ap (map_walked lowered) e) v (newest-low us ∙ l)
    grounded-decided No (us, e, l) = no-outcome label_count a passed (pairs-walk ∙ ap (map_walked lowered) e) (newest-low us ∙ l)
    grounded-decided (Refused n at) e = stopped-outcome label_count a passed (pairs-walk ∙ ap (map_walked lowered) e)

    -- the same of what the code finds in the frame of the checks, and shows
    module _ (f : Frame) (made : f ≡ frame_of z.deepest a.pair_limit a.subset_limit) where
      pub grounded-framed : (r : Result (Option ℕ) Refusal) → Decides Pairs First (by_masks a.assumed_true a.assumed_false) f.width f.limit a.bytes (outcome_of r)
          → shown_outcome z.atoms (outcome_of r) ≡ grounded_outcome label_count a
      grounded-framed r decided = grounded-decided (outcome_of r) (subst (λ (g : Frame). Decides Pairs First (by_masks a.assumed_true a.assumed_false) g.width g.limit a.bytes (outcome_of r)) made decided)
