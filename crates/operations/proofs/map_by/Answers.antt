-- `operations::map_by`: a batch of one command.
use mathlib.Core.Path.{ap}
use mathlib.Core.List.{[], ◌∷◌}
use Rattle.expression.specs.declared.Command.{Command}
use Rattle.semantics.specs.Expressions.{change_newest}
use Rattle.maps.specs.Maps.{batched_table}
use Rattle.operations.proofs.Dispatch.{acts-as}
use Rattle.operations.proofs.map_by.Goals as goal

pub returns : goal.returns
returns c =
    λ m. acts-as (λ ts. ap (λ (x : Command). change_newest (batched_table c.args.carry (x ∷ [])) ts) c.word_of-op.ensures) (c.map_newest.ensures.1 m)
