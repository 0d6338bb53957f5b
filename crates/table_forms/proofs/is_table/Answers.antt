-- `table_forms::is_table`: the rows left, after the pair of the row before them, tell of the whole table. Assumes nothing.
use mathlib.Core.Path.{◌≡◌, sym, ◌∙◌}
use mathlib.Core.List.{List}
use Prim.Native.Nat.{ℕ, ◌-◌, ◌*◌, ◌≤◌}
use native.Mathlib.Omega.{arith}
use borrow.Author.Tests.{not-true, not-false}
use Rattle.labels.specs.Labels.{label_count}
use Rattle.candidates.specs.Candidates.{pair_of}
use Rattle.rows.specs.Parts.{part}
use Rattle.rows.proofs.Parts.{span}
use Rattle.rows.proofs.Tables.{row_within}
use Rattle.forms.proofs.Scans.{rest-is}
use Rattle.table_forms.proofs.Areas.{span-back, follows, none-no-table, many-no-table, first-bad, first_good, next-bad, next-good, rows-ended}
use mathlib.Core.Path.{ap}
use mathlib.Core.Bool.{not}
use Rattle.table_forms.proofs.is_table.Goals as goal

pub returns-then-n-eq0 : goal.returns-then-n-eq0
returns-then-n-eq0 c = none-no-table label_count _ _ _ _ c.if-n-eq0.true

pub returns-then-p-n : goal.returns-then-p-n
returns-then-p-n c = many-no-table label_count _ _ _ _ c.if-n-eq0.false c.if-p-n.true

pub returns-then-not-is_row : goal.returns-then-not-is_row
returns-then-not-is_row c =
    first-bad label_count _ _ _ _ c.if-n-eq0.false c.if-p-n.false (sym c.is_row.ensures ∙ not-true _ (ap not c.if-not-is_row.true))

pub loop-i-init : goal.loop-i-init
loop-i-init c =
    first_good label_count _ _ _ _ c.if-n-eq0.false c.if-p-n.false (sym c.is_row.ensures ∙ not-false _ (ap not c.if-not-is_row.false))

pub returns-then-not-is_next_row : goal.returns-then-not-is_next_row
returns-then-not-is_next_row c =
    let row_before : c.args.w ≤ c.loop-i.i * c.args.w = omega (arith, row_within 0 c.loop-i.i c.args.w (omega arith)) in
    let previous : List ℕ = part (c.loop-i.i * c.args.w - c.args.w) c.args.w c.args.area.now in
    let row : List ℕ = part (c.loop-i.i * c.args.w) c.args.w c.args.area.now in
    let told : c.is_next_row.result ≡ follows label_count (pair_of previous) row = let w = c.args.w in let i = c.loop-i.i in rw (span-back (i * w) w row_before, span (i * w) w) at c.is_next_row.ensures in
    next-bad label_count _ _ _ _ _ c.loop-i.invariant.1 c.loop-i-test.true (sym told ∙ not-true _ (ap not c.if-not-is_next_row.true))

pub loop-i-preserved : goal.loop-i-preserved
loop-i-preserved c =
    let row_before : c.args.w ≤ c.loop-i.i * c.args.w = omega (arith, row_within 0 c.loop-i.i c.args.w (omega arith)) in
    let previous : List ℕ = part (c.loop-i.i * c.args.w - c.args.w) c.args.w c.args.area.now in
    let row : List ℕ = part (c.loop-i.i * c.args.w) c.args.w c.args.area.now in
    let told : c.is_next_row.result ≡ follows label_count (pair_of previous) row = let w = c.args.w in let i = c.loop-i.i in rw (span-back (i * w) w row_before, span (i * w) w) at c.is_next_row.ensures in
    next-good label_count _ _ _ _ _ c.loop-i.invariant.1 c.loop-i-test.true (sym told ∙ not-false _ (ap not c.if-not-is_next_row.false))

pub returns : goal.returns
returns c =
    let ended : c.loop-i.i ≡ c.args.n = omega arith in
    rows-ended label_count _ _ _ _ _ c.loop-i.invariant.1 c.loop-i-test.false _ (rw ended (rw (rest-is (c.args.n * c.args.w) c.args.area.now) at c.are_zero.ensures))
