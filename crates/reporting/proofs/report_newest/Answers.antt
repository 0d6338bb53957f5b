-- `reporting::report_newest`: the rows are measured, and written where they fit.
use mathlib.Core.Path.{ap, ◌∙◌}
use mathlib.Core.List.{List, ◌++◌}
use lib.ListN.{length, drop}
use Rattle.tables.specs.Definitions.{Pair}
use Rattle.decisions.specs.Decisions.{newest}
use Rattle.entries.specs.Carries.{Entry}
use Rattle.workspace.specs.Workspace.{pairs_of}
use Rattle.advances.proofs.Advancing.{counts-reach}
use Rattle.reports.specs.Reports.{report_of}
use Rattle.reporting.proofs.Newest.{many, newest-inside, newest-rows, newest-pairs, newest-words, too_short, long-enough}
use native.Mathlib.Omega.{arith}
use Rattle.reporting.proofs.report_newest.Goals as goal

pub count_below-n-requires : goal.count_below-n-requires
count_below-n-requires c =
    (omega arith, counts-reach c.requires.by_index.2.2 c.args.t c.requires.by_index.2.3)

pub report_words-words-requires-clause-w_in_bounds : goal.report_words-words-requires-clause-w_in_bounds
report_words-words-requires-clause-w_in_bounds c =
    let h = c.requires.by_index.2.2 in
    (newest-inside h _ c.requires.by_index.2.3 _ c.count_below-n.ensures c.requires.le_w.3, newest-rows h _ c.requires.by_index.2.3 _ c.count_below-n.ensures c.requires.le_w.3)

pub returns-then-out-words : goal.returns-then-out-words
returns-then-out-words c = λ d us beyond vals h e.
    rw c.at.ensures (too_short (λ (x : List Entry). report_of c.args.kind (pairs_of x)) (newest us) c.args.out.now c.args.asked c.report_words-words.result
    (newest-words h c.args.t e c.count_below-n.result c.count_below-n.ensures c.requires.le_w.3 c.args.kind _ c.report_words-words.ensures) (omega (arith, c.if-out-words.true)))

pub write_report-requires-clause-w_in_bounds : goal.write_report-requires-clause-w_in_bounds
write_report-requires-clause-w_in_bounds c =
    let h = c.requires.by_index.2.2 in
    (newest-inside h _ c.requires.by_index.2.3 _ c.count_below-n.ensures c.requires.le_w.3, newest-rows h _ c.requires.by_index.2.3 _ c.count_below-n.ensures c.requires.le_w.3)

pub returns : goal.returns
returns c = λ d us beyond vals h e.
    long-enough (λ (x : List Entry). report_of c.args.kind (pairs_of x)) (newest us) c.args.out.now c.args.asked c.report_words-words.result
    (newest-words h c.args.t e c.count_below-n.result c.count_below-n.ensures c.requires.le_w.3 c.args.kind _ c.report_words-words.ensures)
    c.count_below-n.result _ (omega (arith, c.if-out-words.false)) (many h c.args.t e c.count_below-n.result c.count_below-n.ensures)
    (c.write_report.ensures ∙ ap (λ (x : List Pair). report_of c.args.kind x ++ drop (length (report_of c.args.kind x)) c.args.out.now) (newest-pairs h c.args.t e c.count_below-n.result c.count_below-n.ensures c.requires.le_w.3))
