-- `stretches::joined_counts`: by the effect of the command. Assumes nothing.
use mathlib.Core.Path.{sym, ap, ◌∙◌}
use Rattle.expression.specs.declared.Counts.{Counts}
use Rattle.expression.specs.declared.Effect.{Effect}
use Rattle.expression.specs.declared.Effect.TheVariants.{Unite}
use Rattle.expression.specs.Reading.{counted_by, capped}
use Rattle.stretches.proofs.Reading.{counts-by}
use Rattle.stretches.proofs.joined_counts.Goals as goal

pub returns-in-Push : goal.returns-in-Push
returns-in-Push c =
    let told = c.in-Push.is in
    counts-by _ _ (sym c.effect-e.ensures ∙ told) (c.counted_by.ensures ∙ ap (λ (m : Counts). capped (counted_by m Unite)) (c.counted_by-m.ensures ∙ ap (λ (x : Effect). capped (counted_by c.args.n x)) told))

pub returns-in-Unite : goal.returns-in-Unite
returns-in-Unite c = counts-by _ _ (sym c.effect-e.ensures ∙ c.in-Unite.is) (c.counted_by-m.ensures ∙ ap (λ (x : Effect). capped (counted_by c.args.n x)) c.in-Unite.is)

pub returns-in-Change : goal.returns-in-Change
returns-in-Change c = counts-by _ _ (sym c.effect-e.ensures ∙ c.in-Change.is) (c.counted_by-m.ensures ∙ ap (λ (x : Effect). capped (counted_by c.args.n x)) c.in-Change.is)

pub returns-in-Pass : goal.returns-in-Pass
returns-in-Pass c = counts-by _ _ (sym c.effect-e.ensures ∙ c.in-Pass.is) (c.counted_by-m.ensures ∙ ap (λ (x : Effect). capped (counted_by c.args.n x)) c.in-Pass.is)
