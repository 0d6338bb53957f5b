-- `places::locate`: what is ahead holds what is to be found. The measure is what is left of the bytes. Assumes nothing.
use Prim.Native.Nat.{◌-◌}
use lib.ListN.{length}
use Rattle.labels.specs.Labels.{label_count}
use Rattle.expression.proofs.Places.{Ahead}
use Rattle.places.proofs.locate.Given as goal

abbrev pub invariant-loop-at : goal.invariant-loop-at
invariant-loop-at l = Ahead label_count l.s l.asked l.at l.n

abbrev pub decreases-loop-at : goal.decreases-loop-at
decreases-loop-at l = length l.s - l.at
