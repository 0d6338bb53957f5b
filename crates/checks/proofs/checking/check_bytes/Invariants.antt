-- `checking::check_bytes`: what is unread gives the whole verdict. The measure is what is left of the bytes. Assumes nothing.
use Prim.Native.Nat.{◌-◌}
use lib.ListN.{length}
use Rattle.labels.specs.Labels.{label_count}
use Rattle.expression.proofs.Checks.{Unread}
use Rattle.checks.proofs.checking.check_bytes.Given as goal

abbrev pub invariant-loop-at : goal.invariant-loop-at
invariant-loop-at l = Unread label_count l.s l.at l.n

abbrev pub decreases-loop-at : goal.decreases-loop-at
decreases-loop-at l = length l.s - l.at
