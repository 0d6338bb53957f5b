-- `reports::report_words`: the words counted and those of the rows left make the whole.
use mathlib.Core.Path.{◌≡◌}
use Prim.Native.Nat.{◌+◌, ◌*◌, ◌≤◌}
use lib.ListN.{length, drop}
use Rattle.rows.specs.Parts.{part}
use Rattle.rows.specs.Rows.{rows_in}
use Rattle.reports.specs.Reports.{report_of}
use Rattle.reports.proofs.report_words.Given as goal

abbrev pub invariant-loop-j : goal.invariant-loop-j
invariant-loop-j l = record {
  short : l.total ≤ l.j * l.w;
  counted : l.total + length (report_of l.kind (drop l.j (rows_in l.w l.n (part l.a (l.p * l.w) l.ws)))) ≡ length (report_of l.kind (rows_in l.w l.n (part l.a (l.p * l.w) l.ws)));
}
