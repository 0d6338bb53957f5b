-- `areas::write_rows`: the first i rows are written.
use mathlib.Core.Path.{◌≡◌, ◌∙◌}
use Prim.Native.Nat.{◌+◌, ◌*◌}
use native.Mathlib.Omega.{arith}
use lib.Seq.{take_all}
use borrow.Rule.Slice.PartMut.{same_len_mid}
use Rattle.rows.specs.Parts.{part}
use Rattle.rows.specs.Rows.{sorted_of}
use Rattle.rows.proofs.Parts.{span}
use Rattle.rows.proofs.Single.{row-long}
use Rattle.rows.proofs.Indexing.{sorted-long, place-lt}
use Rattle.areas.proofs.Writing.{named_within, source-readable, source-named, target_row, written-more}
use Rattle.areas.proofs.write_rows.Goals as goal

pub overflow_mul-a : goal.overflow_mul-a
overflow_mul-a c = omega (arith, named_within _ _ c.requires.apart c.requires.indexed c.loop-i-test.true)

pub overflow_add-a : goal.overflow_add-a
overflow_add-a c = omega (arith, named_within _ _ c.requires.apart c.requires.indexed c.loop-i-test.true)

pub overflow_add-a-in-loop-i : goal.overflow_add-a-in-loop-i
overflow_add-a-in-loop-i c = omega (arith, named_within _ _ c.requires.apart c.requires.indexed c.loop-i-test.true)

pub offset_bounds-ws-a : goal.offset_bounds-ws-a
offset_bounds-ws-a c = omega (arith, named_within _ _ c.requires.apart c.requires.indexed c.loop-i-test.true)

pub slice_bounds-load_row-end : goal.slice_bounds-load_row-end
slice_bounds-load_row-end c = omega (arith, c.loop-i.invariant.0, named_within _ _ c.requires.apart c.requires.indexed c.loop-i-test.true)

pub load_row-requires-clause-readable : goal.load_row-requires-clause-readable
load_row-requires-clause-readable c =
    let q = c.requires in
    let l = c.loop-i-test.true in
    rw (span _ c.args.w) (source-readable _ _ _ _ _ _ _ _ q.apart q.le_w.0 q.rows q.indexed c.loop-i.i _ _ (omega arith) (place-lt q.indexed c.loop-i.i l) c.loop-i.invariant.1)

pub store_row-requires-clause-row : goal.store_row-requires-clause-row
store_row-requires-clause-row c =
    let q = c.requires in
    let r = target_row _ _ _ _ _ _ _ _ q.apart q.le_w.0 q.rows q.indexed c.loop-i.i _ c.loop-i-test.true c.loop-i.invariant.1 in
    rw (span (c.args.to + c.loop-i.i * c.args.w) c.args.w, row-long r) r

pub loop-i-preserved : goal.loop-i-preserved
loop-i-preserved c =
    let q = c.requires in
    let l = c.loop-i-test.true in
    let r = target_row _ _ _ _ _ _ _ _ q.apart q.le_w.0 q.rows q.indexed c.loop-i.i _ l c.loop-i.invariant.1 in
    let x = rw (span _ c.args.w) at c.load_row.ensures.1 ∙ source-named _ _ _ _ _ _ _ _ q.apart q.le_w.0 q.rows q.indexed _ _ l c.loop-i.invariant.1 in
    let y = rw (span (c.args.to + c.loop-i.i * c.args.w) c.args.w, row-long r, x) at c.store_row.ensures in
    (same_len_mid (c.args.to + c.loop-i.i * c.args.w) _ c.loop-i.ws c.store_row.new.part c.store_row.auto.part ∙ c.loop-i.invariant.0, rw (span (c.args.to + c.loop-i.i * c.args.w) c.args.w, y) (written-more _ _ _ _ _ _ _ _ q.apart q.le_w.0 q.rows q.indexed _ _ l c.loop-i.invariant.1))

pub returns : goal.returns
returns c =
    let all = take_all c.args.m (sorted_of c.args.w c.args.m (part c.args.from (c.args.p * c.args.w) c.args.ws.now) c.args.index.now) (omega (arith, sorted-long c.requires.indexed)) in
    let e : c.loop-i.i ≡ c.args.m = omega arith in
    rw (e, all) at c.loop-i.invariant.1
