-- `table_forms::are_tables`: the tables left tell of all of them. Assumes nothing.
use mathlib.Core.Path.{◌≡◌, sym, ◌∙◌}
use Prim.Native.Nat.{ℕ, ◌*◌}
use native.Mathlib.Omega.{arith}
use lib.ListN.{length, get_or}
use borrow.Author.Tests.{not-true, not-false}
use Rattle.labels.specs.Labels.{label_count}
use Rattle.rows.specs.Parts.{part}
use Rattle.rows.proofs.Parts.{span}
use Rattle.forms.specs.Forms.{is_table}
use Rattle.forms.proofs.Scans.{rest-is}
use Rattle.table_forms.proofs.Areas.{table-bad, table-good, tables-ended}
use mathlib.Core.Path.{ap}
use mathlib.Core.Bool.{not}
use Rattle.table_forms.proofs.are_tables.Goals as goal

pub returns-then-not-is_table : goal.returns-then-not-is_table
returns-then-not-is_table c =
    let size : ℕ = c.args.p * c.args.w in
    let told : c.is_table.result ≡ is_table label_count c.args.w c.args.p (get_or c.args.counts.now c.loop-i.i 0) (part (c.loop-i.i * size) size c.args.ws.now) = rw (span (c.loop-i.i * size) size) at c.is_table.ensures in
    table-bad label_count _ _ _ _ _ c.loop-i.invariant c.loop-i-test.true (sym told ∙ not-true _ (ap not c.if-not-is_table.true))

pub loop-i-preserved : goal.loop-i-preserved
loop-i-preserved c =
    let size : ℕ = c.args.p * c.args.w in
    let told : c.is_table.result ≡ is_table label_count c.args.w c.args.p (get_or c.args.counts.now c.loop-i.i 0) (part (c.loop-i.i * size) size c.args.ws.now) = rw (span (c.loop-i.i * size) size) at c.is_table.ensures in
    table-good label_count _ _ _ _ _ c.loop-i.invariant c.loop-i-test.true (sym told ∙ not-false _ (ap not c.if-not-is_table.false))

pub returns : goal.returns
returns c =
    let ended : c.loop-i.i ≡ length c.args.counts.now = omega arith in
    tables-ended label_count _ _ _ _ _ c.loop-i.invariant c.loop-i-test.false _ (rw ended (rw (rest-is (length c.args.counts.now * (c.args.p * c.args.w)) c.args.ws.now) at c.are_zero.ensures))
