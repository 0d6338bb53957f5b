-- `report_walks::tabulate`: from the cleared words through the walk to the report of its newest table, and to cleared words again.
use mathlib.Core.Path.{◌∙◌, sym, ap}
use mathlib.Core.List.{List, map}
use lib.ListN.{length}
use Rattle.expression.specs.Limits.{depth_limit}
use Rattle.decisions.specs.Decisions.{Walked}
use Rattle.entries.specs.Carries.{Entry}
use Rattle.leaves.proofs.Writing.{wide-two}
use Rattle.workspace.specs.Workspace.{pairs_of}
use Rattle.stacks.proofs.Clearing.{holds-counted}
use Rattle.reports.specs.Reports.{report_of}
use Rattle.advances.proofs.Clear.{all-clear}
use Rattle.reporting.specs.Reporting.{newest_in, report_answer, report_buffer}
use Rattle.report_walks.proofs.Clear.{back, none-stand}
use native.Mathlib.Omega.{arith}
use Rattle.report_walks.proofs.tabulate.Goals as goal

pub walk-walked-requires-clause-enough : goal.walk-walked-requires-clause-enough
walk-walked-requires-clause-enough c =
    (c.requires.enough.0, (back _ _ _ c.requires.enough, none-stand _ _ _ c.requires.enough c.clear_need.ensures c.requires.counts_value.0))

pub clear_tables-requires-clause-by_index : goal.clear_tables-requires-clause-by_index
clear_tables-requires-clause-by_index c =
    let R = c.in-Err.ensures _ (none-stand _ _ _ c.requires.enough c.clear_need.ensures c.requires.counts_value.0) in
    (c.args.frame.areas, R.1.0, back _ _ _ c.requires.enough, R.1.1)

pub report_newest-report-requires-clause-le_w : goal.report_newest-report-requires-clause-le_w
report_newest-report-requires-clause-le_w c =
    let R = c.in-Ok.ensures _ (none-stand _ _ _ c.requires.enough c.clear_need.ensures c.requires.counts_value.0) in
    (wide-two c.args.kind c.args.frame.width c.requires.wide.0, c.requires.wide.1, c.requires.wide.3, R.5 (omega arith))

pub report_newest-report-requires-clause-by_index : goal.report_newest-report-requires-clause-by_index
report_newest-report-requires-clause-by_index c =
    let R = c.in-Ok.ensures _ (none-stand _ _ _ c.requires.enough c.clear_need.ensures c.requires.counts_value.0) in
    (c.args.frame.areas, c.walk-walked.new.vals, (R.0, back _ _ _ c.requires.enough, R.2, R.3))

pub clear_tables-requires-in-Ok-clause-by_index : goal.clear_tables-requires-in-Ok-clause-by_index
clear_tables-requires-in-Ok-clause-by_index c =
    let R = c.in-Ok.ensures _ (none-stand _ _ _ c.requires.enough c.clear_need.ensures c.requires.counts_value.0) in
    (c.args.frame.areas, map pairs_of R.0, back _ _ _ c.requires.enough, holds-counted depth_limit R.2.holds R.3 R.2.tallies)

pub returns-in-Err-clause-value : goal.returns-in-Err-clause-value
returns-in-Err-clause-value c =
    let R = c.in-Err.ensures _ (none-stand _ _ _ c.requires.enough c.clear_need.ensures c.requires.counts_value.0) in
    rw R.0

pub returns-in-Err-clause-out_after : goal.returns-in-Err-clause-out_after
returns-in-Err-clause-out_after c =
    let R = c.in-Err.ensures _ (none-stand _ _ _ c.requires.enough c.clear_need.ensures c.requires.counts_value.0) in
    rw R.0

pub returns-in-Err-clause-ws_after : goal.returns-in-Err-clause-ws_after
returns-in-Err-clause-ws_after c =
    let R = c.in-Err.ensures _ (none-stand _ _ _ c.requires.enough c.clear_need.ensures c.requires.counts_value.0) in
    all-clear _ _ _ _ _ c.requires.enough.2 _ (c.clear_tables.ensures c.args.frame.areas R.1.0 (back _ _ _ c.requires.enough) R.1.1)

pub returns-in-Ok-clause-value : goal.returns-in-Ok-clause-value
returns-in-Ok-clause-value c =
    let R = c.in-Ok.ensures _ (none-stand _ _ _ c.requires.enough c.clear_need.ensures c.requires.counts_value.0) in
    let N = c.report_newest-report.ensures c.args.frame.areas R.0 (back _ _ _ c.requires.enough) c.walk-walked.new.vals R.2 R.3 in
    N.0 ∙ sym (ap (λ (v : Walked Entry). report_answer (λ (x : List Entry). report_of c.args.kind (pairs_of x)) (length c.args.out.now) c.args.asked (newest_in v)) R.1)

pub returns-in-Ok-clause-out_after : goal.returns-in-Ok-clause-out_after
returns-in-Ok-clause-out_after c =
    let R = c.in-Ok.ensures _ (none-stand _ _ _ c.requires.enough c.clear_need.ensures c.requires.counts_value.0) in
    let N = c.report_newest-report.ensures c.args.frame.areas R.0 (back _ _ _ c.requires.enough) c.walk-walked.new.vals R.2 R.3 in
    N.1 ∙ sym (ap (λ (v : Walked Entry). report_buffer (λ (x : List Entry). report_of c.args.kind (pairs_of x)) c.args.out.now (newest_in v)) R.1)

pub returns-in-Ok-clause-ws_after : goal.returns-in-Ok-clause-ws_after
returns-in-Ok-clause-ws_after c =
    let R = c.in-Ok.ensures _ (none-stand _ _ _ c.requires.enough c.clear_need.ensures c.requires.counts_value.0) in
    all-clear _ _ _ _ _ c.requires.enough.2 _ (c.clear_tables-in-Ok.ensures c.args.frame.areas (map pairs_of R.0) (back _ _ _ c.requires.enough) (holds-counted depth_limit R.2.holds R.3 R.2.tallies))
