-- `counting::with_leaf`: each count by itself. Assumes nothing.
use mathlib.Core.Path.{◌∙◌}
use native.Mathlib.Omega.{arith}
use Rattle.expression.specs.Reading.{capped}
use Rattle.expression.proofs.Totals.{same-counts}
use Rattle.commands.proofs.counting.with_leaf.Goals as goal

pub returns-in-Atom : goal.returns-in-Atom
unfolding capped
returns-in-Atom c = rw c.in-Atom.is (c.at_depth.ensures ∙ same-counts _ _ (omega arith) (omega arith) (omega arith) (omega arith))

pub returns-in-Rule : goal.returns-in-Rule
unfolding capped
returns-in-Rule c = rw c.in-Rule.is (c.at_depth-in-Rule.ensures ∙ same-counts _ _ (omega arith) (omega arith) (omega arith) (omega arith))
