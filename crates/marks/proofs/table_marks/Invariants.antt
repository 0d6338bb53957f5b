-- `marks::table_marks`: the marks of the rows before j.
use Prim.Native.Nat.{ℕ, ◌+◌, ◌*◌, ◌<◌}
use Rattle.candidates.specs.Candidates.{pair_of}
use Rattle.rows.specs.Parts.{part}
use Rattle.marks.specs.Marks.{Marked}
use Rattle.marks.proofs.table_marks.Given as goal

abbrev pub invariant-loop-j : goal.invariant-loop-j
invariant-loop-j l = (i : ℕ) → i < l.j → Marked l.m (pair_of (part (l.a + i * l.w) l.w l.ws))
