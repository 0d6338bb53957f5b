-- `counting::counted`: by the effect of the command. Assumes nothing.
use Rattle.expression.specs.Reading.{counted}
use Rattle.commands.proofs.counting.counted.Goals as goal

pub returns : goal.returns
unfolding counted
returns c = rw (← c.effect.ensures) c.counted_by.ensures
