-- `outcomes::depth`: the depth of what passes, or the refusal. Assumes nothing.
use mathlib.Core.Path.{ap}
use Rattle.expression.specs.Checks.{depth_told, depth_outcome}
use Rattle.checks.proofs.outcomes.depth.Goals as goal

pub returns-in-Ok : goal.returns-in-Ok
unfolding depth_outcome
returns-in-Ok c = ap depth_told c.in-Ok.ensures

pub returns-in-Err : goal.returns-in-Err
unfolding depth_outcome
returns-in-Err c = rw c.from.ensures (ap depth_told c.in-Err.ensures)
