-- `indexes::insert_row`: the pair is there at its rank, or goes in there.
use mathlib.Core.Path.{◌≡◌, refl, sym, ◌∙◌}
use Prim.Native.Nat.{◌+◌, ◌-◌, ◌*◌, ◌≤◌, ◌<◌}
use lib.ListN.{length}
use Rattle.candidates.specs.Candidates.{pair_of}
use Rattle.rows.specs.Rows.{sorted_of, row_of}
use Rattle.rows.specs.Inserted.{There}
use Rattle.rows.proofs.Single.{row-long, read_fits}
use Rattle.rows.proofs.Indexing.{place-lt, slot-readable, slot-within, rank-low, there-named, named-there, free-row, free-within, row-inserted}
use native.Mathlib.Omega.{arith}
use Rattle.indexes.proofs.insert_row.Goals as goal
use Rattle.indexes.proofs.insert_row.Goals.{then-k-m+in_default, else-k-m}

pub compare_at-o-requires-clause-w_in_bounds : goal.compare_at-o-requires-clause-w_in_bounds
compare_at-o-requires-clause-w_in_bounds c =
    let l = place-lt c.requires.indexed c.find_row-k.result c.if-k-m.true in
    slot-within c.requires.indexed _ l

pub compare_at-o-requires-clause-readable_2 : goal.compare_at-o-requires-clause-readable_2
compare_at-o-requires-clause-readable_2 c =
    let l = place-lt c.requires.indexed c.find_row-k.result c.if-k-m.true in
    slot-readable c.requires.indexed _ l

pub returns-in-Equal : goal.returns-in-Equal
returns-in-Equal c =
    (refl, refl, c.find_row-k.ensures, named-there c.requires.indexed (pair_of c.args.row.now) c.find_row-k.result c.find_row-k.ensures c.if-k-m.true (sym c.compare_at-o.ensures ∙ c.in-Equal.is))

pub returns-then-m-p : goal.returns-then-m-p
returns-then-m-p c =
    let absent : There (pair_of c.args.row.now) (sorted_of c.args.w c.args.m c.args.area.now c.args.index.now) → ⊥ = λ t. let n = there-named c.requires.indexed (pair_of c.args.row.now) c.find_row-k.result c.find_row-k.ensures t in elim c.if-k-m.branch [ then-k-m+in_default v ↦ absurd (v.in_default.not-Equal (v.compare_at-o.ensures ∙ n.1)) | else-k-m v ↦ omega (arith, n.0) ] in
    (refl, refl, c.if-m-p.true, absent)

pub overflow_mul-at : goal.overflow_mul-at
overflow_mul-at c =
    let within : c.args.m * c.args.w + c.args.w ≤ length c.args.area.now = free-within c.requires.indexed (omega (arith, c.if-m-p.false, c.requires.indexed.room)) in
    omega (arith, within)

pub overflow_add-at : goal.overflow_add-at
overflow_add-at c =
    let within : c.args.m * c.args.w + c.args.w ≤ length c.args.area.now = free-within c.requires.indexed (omega (arith, c.if-m-p.false, c.requires.indexed.room)) in
    omega (arith, within)

pub offset_bounds-area-at : goal.offset_bounds-area-at
offset_bounds-area-at c =
    let within : c.args.m * c.args.w + c.args.w ≤ length c.args.area.now = free-within c.requires.indexed (omega (arith, c.if-m-p.false, c.requires.indexed.room)) in
    omega (arith, within)

pub slice_bounds-store_row-end : goal.slice_bounds-store_row-end
slice_bounds-store_row-end c =
    let within : c.args.m * c.args.w + c.args.w ≤ length c.args.area.now = free-within c.requires.indexed (omega (arith, c.if-m-p.false, c.requires.indexed.room)) in
    omega (arith, within)

pub store_row-requires-clause-row : goal.store_row-requires-clause-row
store_row-requires-clause-row c =
    let w = c.args.w in
    let r = free-row c.requires.indexed (omega (arith, c.if-m-p.false, c.requires.indexed.room)) c.requires.le_w.0 in
    let z : c.args.m * w + w - c.args.m * w ≡ w = omega arith in
    rw (z, row-long r) r

pub offset_bounds-index-k-2 : goal.offset_bounds-index-k-2
offset_bounds-index-k-2 c =
    let low : c.find_row-k.result ≤ c.args.m = rank-low c.requires.indexed (pair_of c.args.row.now) c.find_row-k.result c.find_row-k.ensures in
    omega (arith, low)

pub slice_bounds-push_front-count : goal.slice_bounds-push_front-count
slice_bounds-push_front-count c =
    let low : c.find_row-k.result ≤ c.args.m = rank-low c.requires.indexed (pair_of c.args.row.now) c.find_row-k.result c.find_row-k.ensures in
    omega (arith, low)

pub slice_bounds-push_front-start : goal.slice_bounds-push_front-start
slice_bounds-push_front-start c =
    let low : c.find_row-k.result ≤ c.args.m = rank-low c.requires.indexed (pair_of c.args.row.now) c.find_row-k.result c.find_row-k.ensures in
    omega (arith, low)

pub returns : goal.returns
returns c =
    let absent : There (pair_of c.args.row.now) (sorted_of c.args.w c.args.m c.args.area.now c.args.index.now) → ⊥ = λ t. let n = there-named c.requires.indexed (pair_of c.args.row.now) c.find_row-k.result c.find_row-k.ensures t in elim c.if-k-m.branch [ then-k-m+in_default v ↦ absurd (v.in_default.not-Equal (v.compare_at-o.ensures ∙ n.1)) | else-k-m v ↦ omega (arith, n.0) ] in
    let w = c.args.w in
    let h = c.requires.indexed in
    let free : c.args.m < c.args.p = omega (arith, c.if-m-p.false, h.room) in
    let r = free-row h free c.requires.le_w.0 in
    let z : c.args.m * w + w - c.args.m * w ≡ w = omega arith in
    let row : c.store_row.new.part ≡ row_of w (pair_of c.args.row.now) = rw (z, row-long r) at c.store_row.ensures in
    row-inserted h (pair_of c.args.row.now) (read_fits c.args.row.now c.requires.readable.0 c.requires.readable.1) c.find_row-k.result c.find_row-k.ensures absent free _ _ _ (rw (z, row)) refl c.push_front.ensures
