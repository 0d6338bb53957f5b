-- `forms::is_row`. Assumes nothing.
use mathlib.Core.Path.{sym, ◌∙◌}
use Prim.Native.Nat.{◌+◌}
use native.Mathlib.Omega.{arith}
use lib.ListN.{get_or}
use borrow.Author.Tests.{not-true, not-false}
use Rattle.labels.specs.Labels.{label_count}
use Rattle.rows.proofs.Parts.{span}
use Rattle.forms.proofs.Scans.{rest-is, row-wide, row-over, row-bad, row-good}
use mathlib.Core.Path.{ap}
use mathlib.Core.Bool.{not}
use Rattle.forms.proofs.is_row.Goals as goal

pub returns-then-row-n : goal.returns-then-row-n
returns-then-row-n c = row-wide label_count _ (omega arith)

pub returns-then-row-ge-TRIPLE_LIMIT : goal.returns-then-row-ge-TRIPLE_LIMIT
returns-then-row-ge-TRIPLE_LIMIT c = row-over label_count _ (omega arith) c.if-row-ge-TRIPLE_LIMIT.true

pub returns-then-not-triples_rise : goal.returns-then-not-triples_rise
returns-then-not-triples_rise c =
    row-bad label_count _ (omega arith) c.if-row-ge-TRIPLE_LIMIT.false (sym (not-true _ (ap not c.if-not-triples_rise.true)) ∙ (rw (span 2 (get_or c.args.row.now 1 0)) at c.triples_rise.ensures))

pub returns : goal.returns
returns c =
    let row = c.args.row.now in
    row-good label_count row (omega arith) c.if-row-ge-TRIPLE_LIMIT.false _ (sym (not-false _ (ap not c.if-not-triples_rise.false)) ∙ (rw (span 2 (get_or row 1 0)) at c.triples_rise.ensures))
    (rw (rest-is (2 + get_or row 1 0) row) at c.are_zero.ensures)
