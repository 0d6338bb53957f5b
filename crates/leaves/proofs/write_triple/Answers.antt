-- `leaves::write_triple`: two words.
use Rattle.leaves.proofs.Writing.{triple-written}
use Rattle.leaves.proofs.write_triple.Goals as goal

pub returns : goal.returns
returns c = triple-written c.args.row.now c.args.q c.requires
