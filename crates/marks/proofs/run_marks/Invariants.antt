-- `marks::run_marks`: the marks of the triples before the index, and of m.
use lib.ListN.{take}
use Rattle.lists.specs.Lists.{All}
use Rattle.labels.specs.Sets.{Within}
use Rattle.marks.proofs.run_marks.Given as goal

abbrev pub invariant-loop-x : goal.invariant-loop-x
invariant-loop-x l = Within l.all l.fn.m × All (Within l.all) (take l.x-index l.fn.run)
