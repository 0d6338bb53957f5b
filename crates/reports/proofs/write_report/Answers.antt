-- `reports::write_report`: what is written and the words of the rows left make the whole.
use native.Mathlib.Omega.{arith}
use Rattle.reports.proofs.Writing.{row_entry, report-done, entry-fits_out, written-next, written-all}
use Rattle.reports.proofs.write_report.Goals as goal

pub slice_bounds-copy_words-end : goal.slice_bounds-copy_words-end
slice_bounds-copy_words-end c =
    let e = row_entry c.args.kind c.args.w c.args.p c.args.a c.args.n c.args.ws.now c.requires.le_w.0 c.requires.w_in_bounds.0 c.requires.w_in_bounds.1 c.loop-j.j c.loop-j-test.true c.entry_words-k.result c.entry_words-k.ensures in
    omega (arith, entry-fits_out c.loop-j.invariant e c.requires.ws_in_bounds)

pub slice_bounds-copy_words-end-in-loop-j : goal.slice_bounds-copy_words-end-in-loop-j
slice_bounds-copy_words-end-in-loop-j c =
    let e = row_entry c.args.kind c.args.w c.args.p c.args.a c.args.n c.args.ws.now c.requires.le_w.0 c.requires.w_in_bounds.0 c.requires.w_in_bounds.1 c.loop-j.j c.loop-j-test.true c.entry_words-k.result c.entry_words-k.ensures in
    omega (arith, e.inside, e.short)

pub loop-j-preserved : goal.loop-j-preserved
loop-j-preserved c =
    let e = row_entry c.args.kind c.args.w c.args.p c.args.a c.args.n c.args.ws.now c.requires.le_w.0 c.requires.w_in_bounds.0 c.requires.w_in_bounds.1 c.loop-j.j c.loop-j-test.true c.entry_words-k.result c.entry_words-k.ensures in
    written-next c.loop-j.invariant e c.requires.ws_in_bounds c.loop-j.auto.out c.copy_words.new.part c.copy_words.ensures

pub returns : goal.returns
returns c =
    written-all c.loop-j.invariant (report-done c.args.kind c.args.w c.args.p c.args.a c.args.n c.args.ws.now c.requires.le_w.0 c.requires.w_in_bounds.0 c.requires.w_in_bounds.1 c.loop-j.j (omega arith) (λ l. absurd (omega arith)))
