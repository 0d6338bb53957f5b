-- `marks::row_marks`: the own triple, then the words behind the count, all that are triples among them.
use mathlib.Core.Path.{sym, subst}
use mathlib.Core.List.{List}
use Prim.Native.Nat.{ℕ, ◌+◌, ◌-◌}
use native.Mathlib.Omega.{arith}
use lib.ListN.{take, drop, get_or}
use lib.Seq.{drop-drop}
use Rattle.lists.specs.Lists.{All}
use Rattle.labels.specs.Sets.{Within}
use Rattle.marks.proofs.Gathering.{within_more, all_more, row-marked}
use Rattle.marks.proofs.row_marks.Goals as goal

pub returns-then-row : goal.returns-then-row
returns-then-row c =
    row-marked c.run_marks.result c.args.m (2 + get_or c.args.row.now 1 0 - 2) 0 c.args.row.now (omega arith) c.run_marks.ensures.0 c.run_marks.ensures.1 tt

pub returns-then-n-le-SHORT : goal.returns-then-n-le-SHORT
returns-then-n-le-SHORT c =
    row-marked c.run_marks-first.result c.args.m 8 0 c.args.row.now (omega (arith, c.if-n-le-SHORT.true)) c.run_marks-first.ensures.0 c.run_marks-first.ensures.1 tt

pub returns : goal.returns
returns c =
    let row = c.args.row.now in
    row-marked c.run_marks-2.result c.args.m 8 (2 + get_or row 1 0 - 10) row (omega arith) (within_more c.run_marks-first.ensures.0 c.run_marks-2.ensures.0) (all_more c.run_marks-2.ensures.0 (take 8 (drop 2 row)) c.run_marks-first.ensures.1) (subst (λ (xs : List ℕ). All (Within c.run_marks-2.result) (take (2 + get_or row 1 0 - 10) xs)) (sym (drop-drop 8 2 row)) c.run_marks-2.ensures.1)
