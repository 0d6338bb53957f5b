-- `marks::run_marks`: the marks of the triples before the index, and of m.
use Rattle.marks.proofs.Gathering.{within-left, within_more, all-next}
use Rattle.marks.proofs.run_marks.Goals as goal

pub loop-x-preserved : goal.loop-x-preserved
loop-x-preserved c = (within_more c.loop-x.invariant.0 (within-left c.loop-x.all _), all-next _ _ _ c.loop-x-test.true c.loop-x.invariant.1)
