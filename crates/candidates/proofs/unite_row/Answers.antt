-- `candidates::unite_row`. Assumes nothing.
use mathlib.Core.Path.{◌≡◌}
use Prim.Native.Nat.{◌+◌, ◌-◌}
use native.Mathlib.Omega.{arith}
use lib.ListN.{length, get_or}
use borrow.Rule.Slice.PartMut.{put_mid, same_len_mid}
use Rattle.tables.specs.Definitions.{subsets, unite_pairs}
use Rattle.runs.specs.Runs.{Filled}
use Rattle.candidates.specs.Candidates.{pair_of}
use Rattle.candidates.proofs.Making.{holds, exceeds}
use Rattle.candidates.proofs.unite_row.Goals as goal

pub returns-then-row-m : goal.returns-then-row-m
unfolding pair_of unite_pairs
returns-then-row-m c =
    let made-subsets : Filled (subsets (unite_pairs (pair_of c.args.a.now) (pair_of c.args.b.now))) c.unite_subsets-m.result c.unite_subsets-m.new.run = let na : 2 + get_or c.args.a.now 1 0 - 2 ≡ get_or c.args.a.now 1 0 = omega arith in let nb : 2 + get_or c.args.b.now 1 0 - 2 ≡ get_or c.args.b.now 1 0 = omega arith in rw (na, nb) at c.unite_subsets-m.ensures in
    let long : length (put_mid 2 (length c.args.row.now - 2) c.args.row.now c.unite_subsets-m.new.run) ≡ length c.args.row.now = same_len_mid 2 (length c.args.row.now - 2) c.args.row.now c.unite_subsets-m.new.run c.unite_subsets-m.auto.run in
    exceeds c.args.row.now _ _ _ _ _ c.requires.in_bounds.0 c.unite_subsets-m.auto.run made-subsets (omega (arith, c.if-row-m.true, long))

pub returns : goal.returns
unfolding pair_of unite_pairs
returns c =
    let made-subsets : Filled (subsets (unite_pairs (pair_of c.args.a.now) (pair_of c.args.b.now))) c.unite_subsets-m.result c.unite_subsets-m.new.run = let na : 2 + get_or c.args.a.now 1 0 - 2 ≡ get_or c.args.a.now 1 0 = omega arith in let nb : 2 + get_or c.args.b.now 1 0 - 2 ≡ get_or c.args.b.now 1 0 = omega arith in rw (na, nb) at c.unite_subsets-m.ensures in
    let long : length (put_mid 2 (length c.args.row.now - 2) c.args.row.now c.unite_subsets-m.new.run) ≡ length c.args.row.now = same_len_mid 2 (length c.args.row.now - 2) c.args.row.now c.unite_subsets-m.new.run c.unite_subsets-m.auto.run in
    holds c.args.row.now _ _ _ _ c.requires.in_bounds.0 c.unite_subsets-m.auto.run made-subsets (omega (arith, c.if-row-m.false, long, c.requires.in_bounds.0))
