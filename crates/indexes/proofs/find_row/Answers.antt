-- `indexes::find_row`: the rank lies between lo and hi.
use mathlib.Core.Path.{◌≡◌, sym, ◌∙◌}
use mathlib.Core.List.{[]}
use Prim.Native.Nat.{◌-◌, ◌≤◌, ◌<◌}
use lib.ListN.{get_or}
use Rattle.lists.specs.Sorted.{compare_lists, rank}
use Rattle.lists.proofs.Comparisons.{lists-lawful}
use Rattle.lists.proofs.Ranks.{rank-le, rank_up, rank_down, less≢more, same≢more}
use Rattle.candidates.specs.Candidates.{pair_of}
use Rattle.rows.specs.Rows.{sorted_of, Indexed}
use Rattle.rows.proofs.Indexing.{sorted-long, place-lt, slot-readable, slot-within, sorted-at}
use native.Mathlib.Omega.{arith}
use Rattle.indexes.proofs.find_row.Goals as goal
use Rattle.indexes.proofs.find_row.Goals.{in-Greater, in-Less, in-Equal}

pub returns-then-m-eq0 : goal.returns-then-m-eq0
returns-then-m-eq0 c =
    let long = sorted-long c.requires.by_index.1 in
    omega (arith, rank-le compare_lists (pair_of c.args.row.now) (sorted_of c.args.w c.args.m c.args.area.now c.args.index.now))

pub loop-lo-init : goal.loop-lo-init
loop-lo-init c =
    let long = sorted-long c.requires.by_index.1 in
    (omega arith, omega (arith, rank-le compare_lists (pair_of c.args.row.now) (sorted_of c.args.w c.args.m c.args.area.now c.args.index.now)), omega arith, λ l. (omega arith, omega arith))

pub compare_at-o-requires-clause-w_in_bounds : goal.compare_at-o-requires-clause-w_in_bounds
compare_at-o-requires-clause-w_in_bounds c =
    let made : Indexed c.args.w c.requires.by_index.0 c.args.m c.args.area.now c.args.index.now = c.requires.by_index.1 in
    let mid-lt : c.loop-lo.mid < c.args.m = let b = c.loop-lo.invariant.3 c.loop-lo-test.true in omega (arith, c.loop-lo.invariant.2) in
    let h = made in
    let l = place-lt h c.loop-lo.mid mid-lt in
    slot-within h _ l

pub compare_at-o-requires-clause-readable_2 : goal.compare_at-o-requires-clause-readable_2
compare_at-o-requires-clause-readable_2 c =
    let made : Indexed c.args.w c.requires.by_index.0 c.args.m c.args.area.now c.args.index.now = c.requires.by_index.1 in
    let mid-lt : c.loop-lo.mid < c.args.m = let b = c.loop-lo.invariant.3 c.loop-lo-test.true in omega (arith, c.loop-lo.invariant.2) in
    let h = made in
    let l = place-lt h c.loop-lo.mid mid-lt in
    slot-readable h _ l

pub loop-lo-preserved : goal.loop-lo-preserved
loop-lo-preserved c =
    let made : Indexed c.args.w c.requires.by_index.0 c.args.m c.args.area.now c.args.index.now = c.requires.by_index.1 in
    let mid-lt : c.loop-lo.mid < c.args.m = let b = c.loop-lo.invariant.3 c.loop-lo-test.true in omega (arith, c.loop-lo.invariant.2) in
    let bounds : (c.match-o.lo ≤ rank compare_lists (pair_of c.args.row.now) (sorted_of c.args.w c.args.m c.args.area.now c.args.index.now)) × (rank compare_lists (pair_of c.args.row.now) (sorted_of c.args.w c.args.m c.args.area.now c.args.index.now) ≤ c.match-o.hi) × (c.match-o.hi ≤ c.args.m) × (c.match-o.hi - c.match-o.lo < c.loop-lo.hi - c.loop-lo.lo) = let b = c.loop-lo.invariant.3 c.loop-lo-test.true in let ts = sorted_of c.args.w c.args.m c.args.area.now c.args.index.now in let x = pair_of c.args.row.now in let at : get_or ts c.loop-lo.mid [] ≡ _ = sorted-at made c.loop-lo.mid mid-lt in let long = sorted-long made in elim c.match-o.branch [ in-Greater v ↦ let up = rank_up lists-lawful [] x ts c.loop-lo.mid made.rising (omega (arith, mid-lt)) (rw at (sym c.compare_at-o.ensures ∙ v.in-Greater.is)) in (omega arith, omega arith, omega arith, omega arith) | in-Less v ↦ let down = rank_down compare_lists [] x ts c.loop-lo.mid (λ e. less≢more _ v.in-Less.is (c.compare_at-o.ensures ∙ rw at at e)) in (omega arith, omega arith, omega arith, omega arith) | in-Equal v ↦ let down = rank_down compare_lists [] x ts c.loop-lo.mid (λ e. same≢more _ v.in-Equal.is (c.compare_at-o.ensures ∙ rw at at e)) in (omega arith, omega arith, omega arith, omega arith) ] in
    let b = bounds in (b.0, b.1, b.2, λ l. (omega arith, omega arith))
