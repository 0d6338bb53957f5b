-- `counting::at_depth`: what a word holds is within the cap. Assumes nothing.
use native.Mathlib.Omega.{arith}
use Rattle.expression.specs.Reading.{capped}
use Rattle.expression.proofs.Totals.{same-counts}
use Rattle.commands.proofs.counting.at_depth.Goals as goal

pub returns : goal.returns
unfolding capped
returns c = same-counts _ _ (omega arith) (omega arith) (omega arith) (omega arith)
