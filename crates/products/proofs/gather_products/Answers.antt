-- `products::gather_products`: a batch for each number of a. Assumes nothing.
use mathlib.Core.Path.{◌≡◌}
use Prim.Native.Nat.{◌≤◌}
use native.Mathlib.Omega.{arith}
use lib.Bits.{bit_or}
use lib.ListN.{length}
use lib.Seq.{drop-length}
use Rattle.lists.specs.Lists.{products}
use Rattle.lists.proofs.Members.{products_at}
use Rattle.products.proofs.Filtering.{holds, holds-all, exceeds, unheld}
use Rattle.products.proofs.gather_products.Goals as goal

pub returns-then-run-m : goal.returns-then-run-m
returns-then-run-m c =
    unheld _ _ _ _ c.if-run-m.true (exceeds _ _ _ _ _ _ _ _ _ (rw (products_at bit_or 0 _ _ _ c.loop-x-test.true) at c.loop-x.invariant.1) c.gather_unions-m.ensures c.if-run-m.true)

pub loop-x-preserved : goal.loop-x-preserved
loop-x-preserved c =
    let fits : c.gather_unions-m.result ≤ length c.gather_unions-m.new.run = omega (arith, c.if-run-m.false) in
    (fits, holds _ _ _ _ _ _ _ _ _ (rw (products_at bit_or 0 _ _ _ c.loop-x-test.true) at c.loop-x.invariant.1) c.gather_unions-m.ensures fits)

pub returns : goal.returns
unfolding products
returns c =
    let end : c.loop-x.x-index ≡ length c.args.a.now = omega arith in
    holds-all _ _ _ _ c.loop-x.invariant.0 (rw (end, drop-length c.args.a.now) at c.loop-x.invariant.1)
