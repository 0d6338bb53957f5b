-- `effects::effect`: one row for each command. Assumes nothing.
use Rattle.expression.specs.Effects.{effect}
use Rattle.commands.proofs.effects.effect.Goals as goal

pub returns-in-Atom : goal.returns-in-Atom
unfolding effect
returns-in-Atom c = rw c.in-Atom.is

pub returns-in-Rule : goal.returns-in-Rule
unfolding effect
returns-in-Rule c = rw c.in-Rule.is

pub returns-in-Union : goal.returns-in-Union
unfolding effect
returns-in-Union c = rw c.in-Union.is

pub returns-in-Relabel : goal.returns-in-Relabel
unfolding effect
returns-in-Relabel c = rw c.in-Relabel.is

pub returns-in-Connect : goal.returns-in-Connect
unfolding effect
returns-in-Connect c = rw c.in-Connect.is

pub returns-in-Name : goal.returns-in-Name
unfolding effect
returns-in-Name c = rw c.in-Name.is
