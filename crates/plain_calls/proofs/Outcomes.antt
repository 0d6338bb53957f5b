-- What a decision over tables with values answers is the outcome that the definitions ask. Assumes nothing.
use mathlib.Core.Path.{◌≡◌, refl, sym, ap, ◌∙◌, subst}
use Prim.Native.Nat.{ℕ}
use lib.ListN.{length}
use Rattle.std.specs.Prelude.{Option, Some, None, Result, Ok}
use Rattle.std.specs.Option.{option_map}
use Rattle.labels.specs.Labels.{label_count}
use Rattle.expression.specs.declared.Counts.{Counts}
use Rattle.expression.specs.declared.refusals.Refusal.{Refusal}
use Rattle.expression.specs.Told.{outcome_of}
use Rattle.expression.specs.declared.Outcome.{Outcome}
use Rattle.expression.specs.declared.Outcome.TheVariants.{Yes, No, Refused}
use Rattle.expression.specs.Checks.{Passed, Refused as Stopped, Request, check}
use Rattle.checks.specs.declared.frames.Frame.{Frame}
use Rattle.checks.specs.Frames.{frame_of}
use Rattle.checks.proofs.Passing.{accepted}
use Rattle.semantics.specs.AnswerSets.{by_masks}
use Rattle.tables.specs.Definitions.{flat}
use Rattle.decisions.specs.Decisions.{affirmed, denied, assumed, answer, newest}
use Rattle.decisions.specs.Outcomes.{plain_outcome}
use Rattle.decisions.proofs.Carried.{valued_walk, plain-refused, plain-stopped, plain-walked-grounded}
use Rattle.decisions.proofs.Outcomes.{plain-outcome}
use Rattle.entries.specs.declared.Carry.TheVariants.{Nothing}
use Rattle.entries.specs.Carries.{carried_by}
use Rattle.leaves.specs.declared.Tables.TheVariants.{Plain}
use Rattle.leaves.specs.Leaves.{algebra_of}
use Rattle.answers.proofs.Accepting.{none-denies, worth-affirms}
use Rattle.walks.specs.Walks.{walk_to}
use Rattle.walks.proofs.Whole.{whole-walk}
use Rattle.deciding.specs.Deciding.{Decides}
use Rattle.engine.specs.Engine.{unshown_outcome}

-- no mask of what is found
pub unshown-mapped : (x : Option ℕ) → outcome_of (Ok (option_map (λ v. 0) x)) ≡ unshown_outcome (outcome_of (Ok x))
unshown-mapped None = refl
unshown-mapped (Some v) = refl

module _ (a : Request) where
  pub refused-plain : {n at : ℕ} → check label_count a ≡ Stopped n at → Refused n at ≡ plain_outcome label_count a
  refused-plain h = plain-outcome label_count a (plain-refused label_count a h)

  module _ {z : Counts} (passed : check label_count a ≡ Passed z) where
    plain_walk : walk_to Plain Nothing (by_masks a.assumed_true a.assumed_false) 2 a.pair_limit (length a.bytes) a.bytes ≡ valued_walk (flat label_count) (carried_by Nothing) 0 label_count a
    unfolding assumed algebra_of
    plain_walk = whole-walk a (accepted a passed).joined Plain Nothing 2 0 refl

    pub plain-decided : (o : Outcome) → Decides Plain Nothing (by_masks a.assumed_true a.assumed_false) 2 a.pair_limit a.bytes o → unshown_outcome o ≡ plain_outcome label_count a
    unfolding answer
    plain-decided (Yes v) (us, e, l) =
        plain-outcome label_count a {v = affirmed} (plain-walked-grounded (carried_by Nothing) label_count a passed 0 (sym plain_walk ∙ e) ∙ ap answer (worth-affirms label_count (newest us) v l))
    plain-decided No (us, e, l) =
        plain-outcome label_count a {v = denied} (plain-walked-grounded (carried_by Nothing) label_count a passed 0 (sym plain_walk ∙ e) ∙ ap answer (none-denies label_count (newest us) l))
    plain-decided (Refused n at) e = plain-outcome label_count a (plain-stopped (carried_by Nothing) label_count a passed 0 (sym plain_walk ∙ e))

    -- the same of what the code finds in the frame of the checks
    module _ (f : Frame) (made : f ≡ frame_of z.deepest a.pair_limit a.subset_limit) where
      pub plain-framed : (r : Result (Option ℕ) Refusal) → Decides Plain Nothing (by_masks a.assumed_true a.assumed_false) 2 f.limit a.bytes (outcome_of r) → unshown_outcome (outcome_of r) ≡ plain_outcome label_count a
      plain-framed r decided = plain-decided (outcome_of r) (subst (λ (g : Frame). Decides Plain Nothing (by_masks a.assumed_true a.assumed_false) 2 g.limit a.bytes (outcome_of r)) made decided)
