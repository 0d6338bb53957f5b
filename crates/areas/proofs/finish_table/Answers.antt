-- `areas::finish_table`: the rows are written, the others cleared.
use mathlib.Core.Path.{◌≡◌, refl, ◌∙◌}
use Prim.Native.Nat.{◌*◌}
use Rattle.rows.proofs.Parts.{span}
use Rattle.rows.specs.Parts.{zeros}
use Rattle.rows.specs.Rows.{table_of}
use Rattle.areas.proofs.Writing.{target-rows, target-cleared, source-rows}
use Rattle.areas.proofs.finish_table.Goals as goal

pub clear_rows-requires-clause-rows : goal.clear_rows-requires-clause-rows
clear_rows-requires-clause-rows c =
    rw (span c.args.to (c.args.p * c.args.w), c.larger.ensures) (target-rows _ _ _ _ _ _ _ _ c.requires.apart c.requires.le_w.0 c.requires.rows c.requires.indexed _ c.write_rows.ensures)

pub clear_rows-requires-2-clause-rows : goal.clear_rows-requires-2-clause-rows
clear_rows-requires-2-clause-rows c =
    let q = c.requires in
    let now = target-cleared _ _ _ _ _ _ _ _ q.apart q.le_w.0 q.rows q.indexed _ c.write_rows.ensures _ (rw (span c.args.to (c.args.p * c.args.w), c.larger.ensures) at c.clear_rows.ensures) in
    rw (span c.args.to (c.args.p * c.args.w), span c.args.from (c.args.p * c.args.w), now) (source-rows _ _ _ _ _ _ _ _ q.apart q.le_w.0 q.rows q.indexed _ c.write_rows.ensures)

pub returns : goal.returns
returns c =
    let q = c.requires in
    let now = target-cleared _ _ _ _ _ _ _ _ q.apart q.le_w.0 q.rows q.indexed _ c.write_rows.ensures _ (rw (span c.args.to (c.args.p * c.args.w), c.larger.ensures) at c.clear_rows.ensures) in
    let e : c.clear_rows-2.new.area ≡ zeros (c.args.p * c.args.w) = c.clear_rows-2.ensures ∙ (unfold table_of in refl) in
    rw (span c.args.to (c.args.p * c.args.w), span c.args.from (c.args.p * c.args.w), e, now)
