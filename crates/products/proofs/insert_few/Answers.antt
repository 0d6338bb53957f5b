-- `products::insert_few`: two batches at most. Assumes nothing.
use mathlib.Core.List.{[]}
use native.Mathlib.Omega.{arith}
use Rattle.runs.proofs.Growing.{begin, step, stuck}
use Rattle.products.proofs.Few.{alone, single, ends}
use Rattle.products.proofs.insert_few.Goals as goal

pub returns-then-b-eq0 : goal.returns-then-b-eq0
returns-then-b-eq0 c =
    ends _ _ _ _ _ _ _ _ (alone c.args.q c.args.a.now c.args.b.now c.if-b-eq0.true) (begin _ _ _ c.requires.n_in_bounds c.requires.rising) c.insert_unions-whole.ensures

pub returns-then-run-whole : goal.returns-then-run-whole
returns-then-run-whole c =
    stuck _ _ _ _ _ _ _ _ (begin _ _ _ c.requires.n_in_bounds c.requires.rising) c.insert_unions-whole.ensures (omega (arith, c.if-run-whole.true, c.insert_unions-whole.auto.run))

pub insert_unions-requires-clause-rising : goal.insert_unions-requires-clause-rising
insert_unions-requires-clause-rising c =
    (step _ _ [] _ _ _ _ _ (begin _ _ _ c.requires.n_in_bounds c.requires.rising) c.insert_unions-whole.ensures (omega (arith, c.if-run-whole.false, c.insert_unions-whole.auto.run))).rising

pub returns : goal.returns
returns c =
    ends _ _ _ _ _ _ _ _ (single c.args.a.now c.args.b.now (omega (arith, c.if-b-eq0.false, c.requires.b_len_bound))) (step _ _ _ _ _ _ _ _ (begin _ _ _ c.requires.n_in_bounds c.requires.rising) c.insert_unions-whole.ensures (omega (arith, c.if-run-whole.false, c.insert_unions-whole.auto.run))) c.insert_unions.ensures
