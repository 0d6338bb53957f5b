-- `candidates::unite_subsets`: the first batch, then the others. Assumes nothing.
use mathlib.Core.List.{◌∷◌, ◌++◌, map}
use Prim.Native.Nat.{◌≤◌}
use native.Mathlib.Omega.{arith}
use lib.Bits.{bit_or}
use lib.ListN.{length}
use Rattle.lists.specs.Lists.{products}
use Rattle.tables.specs.Definitions.{subsets, unite_pairs}
use Rattle.runs.proofs.Growing.{Going, step, stuck}
use Rattle.candidates.proofs.Uniting.{begins, some_left, finishes, behind-is}
use Rattle.candidates.proofs.unite_subsets.Goals as goal

pub insert_unions-left-requires-clause-rising : goal.insert_unions-left-requires-clause-rising
insert_unions-left-requires-clause-rising c =
    let g = begins c.args.qa c.args.a.now c.args.qb c.args.b.now c.args.run.now in
    g.rising

pub returns-then-run-left : goal.returns-then-run-left
returns-then-run-left c =
    behind-is _ _ c.args.run.now _ c.insert_unions-left.auto.run (stuck _ _ _ _ _ _ _ _ (begins _ _ _ _ _) c.insert_unions-left.ensures (omega (arith, c.if-run-left.true, c.insert_unions-left.auto.run)))

pub insert_few-requires-clause-rising : goal.insert_few-requires-clause-rising
insert_few-requires-clause-rising c =
    let one : Going (subsets (unite_pairs (c.args.qa ∷ c.args.a.now) (c.args.qb ∷ c.args.b.now))) (map (bit_or c.args.qb) c.args.a.now ++ products bit_or c.args.a.now c.args.b.now) c.insert_unions-left.result c.insert_unions-left.new.run c.args.run.now = step _ _ _ _ _ _ _ _ (begins _ _ _ _ _) c.insert_unions-left.ensures (omega (arith, c.if-run-left.false, c.insert_unions-left.auto.run)) in
    one.rising

pub returns-then-b-lt2 : goal.returns-then-b-lt2
returns-then-b-lt2 c =
    let one : Going (subsets (unite_pairs (c.args.qa ∷ c.args.a.now) (c.args.qb ∷ c.args.b.now))) (map (bit_or c.args.qb) c.args.a.now ++ products bit_or c.args.a.now c.args.b.now) c.insert_unions-left.result c.insert_unions-left.new.run c.args.run.now = step _ _ _ _ _ _ _ _ (begins _ _ _ _ _) c.insert_unions-left.ensures (omega (arith, c.if-run-left.false, c.insert_unions-left.auto.run)) in
    finishes _ _ _ _ _ _ _ one (behind-is _ _ _ _ c.insert_few.auto.run c.insert_few.ensures)

pub insert_products-requires-clause-n_nonzero : goal.insert_products-requires-clause-n_nonzero
insert_products-requires-clause-n_nonzero c =
    let one : Going (subsets (unite_pairs (c.args.qa ∷ c.args.a.now) (c.args.qb ∷ c.args.b.now))) (map (bit_or c.args.qb) c.args.a.now ++ products bit_or c.args.a.now c.args.b.now) c.insert_unions-left.result c.insert_unions-left.new.run c.args.run.now = step _ _ _ _ _ _ _ _ (begins _ _ _ _ _) c.insert_unions-left.ensures (omega (arith, c.if-run-left.false, c.insert_unions-left.auto.run)) in
    let fits : c.insert_unions-left.result ≤ length c.args.run.now = omega (arith, c.if-run-left.false, c.insert_unions-left.auto.run) in
    (some_left c.args.qa c.args.b.now _ _ _ c.insert_unions-left.ensures fits (omega (arith, c.if-b-lt2.false)), one.room)

pub insert_products-requires-clause-rising : goal.insert_products-requires-clause-rising
insert_products-requires-clause-rising c =
    let one : Going (subsets (unite_pairs (c.args.qa ∷ c.args.a.now) (c.args.qb ∷ c.args.b.now))) (map (bit_or c.args.qb) c.args.a.now ++ products bit_or c.args.a.now c.args.b.now) c.insert_unions-left.result c.insert_unions-left.new.run c.args.run.now = step _ _ _ _ _ _ _ _ (begins _ _ _ _ _) c.insert_unions-left.ensures (omega (arith, c.if-run-left.false, c.insert_unions-left.auto.run)) in
    let fits : c.insert_unions-left.result ≤ length c.args.run.now = omega (arith, c.if-run-left.false, c.insert_unions-left.auto.run) in
    one.rising

pub returns : goal.returns
returns c =
    let one : Going (subsets (unite_pairs (c.args.qa ∷ c.args.a.now) (c.args.qb ∷ c.args.b.now))) (map (bit_or c.args.qb) c.args.a.now ++ products bit_or c.args.a.now c.args.b.now) c.insert_unions-left.result c.insert_unions-left.new.run c.args.run.now = step _ _ _ _ _ _ _ _ (begins _ _ _ _ _) c.insert_unions-left.ensures (omega (arith, c.if-run-left.false, c.insert_unions-left.auto.run)) in
    finishes _ _ _ _ _ _ _ one c.insert_products.ensures
