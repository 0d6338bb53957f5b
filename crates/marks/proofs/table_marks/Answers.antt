-- `marks::table_marks`: the marks of the rows before j.
use Prim.Native.Nat.{◌+◌, ◌*◌}
use native.Mathlib.Omega.{arith}
use Rattle.rows.proofs.Parts.{span}
use Rattle.rows.proofs.Tables.{readable-slot}
use Rattle.marks.proofs.Gathering.{marked_next, marked_all}
use Rattle.marks.proofs.table_marks.Goals as goal

pub row_marks-m-requires : goal.row_marks-m-requires
row_marks-m-requires c =
    rw (span (c.args.a + c.loop-j.j * c.args.w) c.args.w) (readable-slot _ _ _ _ _ c.requires.2 c.requires.3 c.loop-j.j c.loop-j-test.true)

pub loop-j-preserved : goal.loop-j-preserved
loop-j-preserved c =
    let q = rw (span (c.args.a + c.loop-j.j * c.args.w) c.args.w) at c.row_marks-m.ensures in
    marked_next _ _ _ _ _ c.requires.2 c.requires.3 _ _ c.loop-j.j c.loop-j.invariant q.0 q.1

pub returns : goal.returns
returns c = marked_all _ _ _ _ _ c.requires.2 c.requires.3 _ c.loop-j.j (omega arith) c.loop-j.invariant
