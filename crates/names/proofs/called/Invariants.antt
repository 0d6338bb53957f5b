-- `names::called`: the commands left decide. The measure is what is left of the bytes. Assumes nothing.
use Prim.Native.Nat.{◌-◌}
use lib.ListN.{length}
use Rattle.labels.specs.Labels.{label_count}
use Rattle.expression.specs.Told.{named_of}
use Rattle.names.proofs.Calling.{Left}
use Rattle.names.proofs.called.Given as goal

abbrev pub invariant-loop-at : goal.invariant-loop-at
invariant-loop-at l = Left label_count l.s l.c l.at l.n l.newest (named_of l.name)

abbrev pub decreases-loop-at : goal.decreases-loop-at
decreases-loop-at l = length l.s - l.at
