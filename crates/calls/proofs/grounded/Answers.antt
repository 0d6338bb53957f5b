-- `calls::grounded`: the outcome of what was decided; that it is right is a law of the definition.
use mathlib.Core.Path.{ap, ◌∙◌}
use Rattle.labels.specs.Labels.{label_count}
use Rattle.decisions.proofs.Outcomes.{grounded-right}
use Rattle.calls.proofs.grounded.Goals as goal

pub returns-clause-value : goal.returns-clause-value
returns-clause-value c = c.from.ensures ∙ c.decided.ensures.value

pub returns-clause-grounded_right : goal.returns-clause-grounded_right
returns-clause-grounded_right c = grounded-right label_count _ (returns-clause-value c)
