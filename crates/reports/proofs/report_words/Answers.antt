-- `reports::report_words`: the words counted and those of the rows left make the whole.
use mathlib.Core.Path.{ap}
use lib.ListN.{length}
use Rattle.reports.proofs.Writing.{row_entry, report-done}
use native.Mathlib.Omega.{arith}
use Rattle.reports.proofs.report_words.Goals as goal

pub loop-j-preserved : goal.loop-j-preserved
loop-j-preserved c =
    let e = row_entry c.args.kind c.args.w c.args.p c.args.a c.args.n c.args.ws.now c.requires.le_w.0 c.requires.w_in_bounds.0 c.requires.w_in_bounds.1 c.loop-j.j c.loop-j-test.true c.entry_words-total.result c.entry_words-total.ensures in
    record { short = omega (arith, e.short); counted = omega (arith, e.counted, c.loop-j.invariant.counted) }

pub returns : goal.returns
returns c =
    let e = ap length (report-done c.args.kind c.args.w c.args.p c.args.a c.args.n c.args.ws.now c.requires.le_w.0 c.requires.w_in_bounds.0 c.requires.w_in_bounds.1 c.loop-j.j (omega arith) (λ l. absurd (omega arith))) in
    omega (arith, e)
