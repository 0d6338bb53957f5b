-- `counting::count_fault`: by the effect of the command. Assumes nothing.
use Rattle.expression.specs.Reading.{count_fault}
use Rattle.commands.proofs.counting.count_fault.Goals as goal

pub returns-in-Push : goal.returns-in-Push
unfolding count_fault
returns-in-Push c = rw (← c.effect-e.ensures, c.in-Push.is) c.leaf_fault.ensures

pub returns-in-Unite : goal.returns-in-Unite
unfolding count_fault
returns-in-Unite c = rw (← c.effect-e.ensures, c.in-Unite.is) c.bare_fault.ensures

pub returns-in-Change : goal.returns-in-Change
unfolding count_fault
returns-in-Change c = rw (← c.effect-e.ensures, c.in-Change.is) c.bare_fault-in-Change.ensures

pub returns-in-Pass : goal.returns-in-Pass
unfolding count_fault
returns-in-Pass c = rw (← c.effect-e.ensures, c.in-Pass.is) c.bare_fault-in-Pass.ensures
