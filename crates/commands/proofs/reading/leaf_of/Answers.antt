-- `reading::leaf_of`: 12, else an atom, of 13 or of 11. Assumes nothing.
use Rattle.expression.specs.Commands.{command_of}
use Rattle.expression.proofs.Commands.{atom-byte}
use Rattle.commands.proofs.reading.leaf_of.Goals as goal

pub returns-then-b-eq18 : goal.returns-then-b-eq18
unfolding command_of
returns-then-b-eq18 c = rw c.if-b-eq18.true

pub returns : goal.returns
returns c = rw c.role_of.ensures (atom-byte _ _ c.requires c.if-b-eq18.false)
