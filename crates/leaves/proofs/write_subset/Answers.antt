-- `leaves::write_subset`: three words.
use Rattle.leaves.proofs.Writing.{subset-written}
use Rattle.leaves.proofs.write_subset.Goals as goal

pub returns : goal.returns
returns c = subset-written c.args.row.now c.args.q c.args.s c.requires
