-- `batches::is_met`: one test of both sets.
use lib.Bits.{bit_and}
use Rattle.batches.specs.Batches.{is_met}
use Rattle.batches.proofs.Words.{or-none}
use Rattle.batches.proofs.is_met.Goals as goal

pub returns : goal.returns
unfolding is_met
returns c = or-none (bit_and c.args.q c.args.j.negative) (bit_and c.args.r c.args.j.marks)
