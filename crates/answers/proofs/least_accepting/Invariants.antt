-- `answers::least_accepting`: the rows left, summed onto the best so far, make the whole.
use Rattle.labels.specs.Labels.{label_count}
use Rattle.tables.specs.Definitions.{accepting}
use Rattle.answers.specs.Answers.{total_of}
use Rattle.answers.proofs.Remaining.{Remains}
use Rattle.answers.proofs.least_accepting.Given as goal

abbrev pub invariant-loop-j : goal.invariant-loop-j
invariant-loop-j l =
    Remains (accepting label_count) l.carry l.w l.p l.a l.n l.vals l.ws l.j (total_of l.best)
