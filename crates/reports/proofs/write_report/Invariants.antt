-- `reports::write_report`: what is written and the words of the rows left make the whole.
use Prim.Native.Nat.{◌*◌}
use Rattle.rows.specs.Parts.{part}
use Rattle.rows.specs.Rows.{rows_in}
use Rattle.reports.proofs.Writing.{Written}
use Rattle.reports.proofs.write_report.Given as goal

abbrev pub invariant-loop-j : goal.invariant-loop-j
invariant-loop-j l = Written l.kind (rows_in l.w l.n (part l.a (l.p * l.w) l.ws)) l.j l.to l.initial.out l.out
