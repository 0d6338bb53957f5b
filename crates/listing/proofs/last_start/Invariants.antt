-- `last_start`: what is ahead holds what is to be found. The measure is what is left of the bytes. Assumes nothing.
use Rattle.std.proofs.Common.{◌-◌, length}
use Rattle.labels.specs.Labels.{label_count}
use Rattle.listing.proofs.Printing.{Ahead}
use Rattle.listing.proofs.last_start.Given as goal

abbrev pub invariant-loop-next : goal.invariant-loop-next
invariant-loop-next l = Ahead label_count l.s l.last l.at

abbrev pub decreases-loop-next : goal.decreases-loop-next
decreases-loop-next l = length l.s - l.at
