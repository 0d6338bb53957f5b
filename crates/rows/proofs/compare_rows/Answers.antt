-- `rows::compare_rows`: by Q, then by the subsets.
use Rattle.std.proofs.Common.{◌≡◌, ◌+◌, refl, arith, slice_index}
use Prim.Native.Nat.{◌-◌}
use Rattle.lists.proofs.Comparisons.{is-less, is-more, is_same}
use Rattle.lists.specs.Sorted.{compare_lists}
use Rattle.candidates.specs.Candidates.{pair_of}
use Rattle.rows.proofs.compare_rows.Goals as goal

pub returns-then-a-b : goal.returns-then-a-b
unfolding compare_lists pair_of
returns-then-a-b c = rw (is-less _ _ c.if-a-b.true)

pub returns-then-b-a : goal.returns-then-b-a
unfolding compare_lists pair_of
returns-then-b-a c = rw (is-more _ _ c.if-b-a.true)

pub returns : goal.returns
unfolding compare_lists pair_of
returns c =
    let a = c.args.a.now in
    let b = c.args.b.now in
    let same : slice_index a 0 ≡ slice_index b 0 = omega arith in
    let na : 2 + slice_index a 1 - 2 ≡ slice_index a 1 = omega arith in
    let nb : 2 + slice_index b 1 - 2 ≡ slice_index b 1 = omega arith in
    rw (same, is_same (slice_index b 0) (slice_index b 0) refl) (rw (na, nb) at c.compare_words.ensures)
