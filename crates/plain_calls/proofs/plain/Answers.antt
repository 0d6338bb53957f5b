-- `plain_calls::plain`: the outcome of what was decided; that it is right is a law of the definition.
use mathlib.Core.Path.{ap, ◌∙◌}
use Rattle.labels.specs.Labels.{label_count}
use Rattle.decisions.proofs.Outcomes.{plain-right}
use Rattle.plain_calls.proofs.plain.Goals as goal

pub returns-clause-value : goal.returns-clause-value
returns-clause-value c = c.from.ensures ∙ c.decided.ensures.value

pub returns-clause-plain_right : goal.returns-clause-plain_right
returns-clause-plain_right c = plain-right label_count _ (returns-clause-value c)
