-- `products::insert_products`: a batch with q, then all products, then the order. Assumes nothing.
use mathlib.Core.List.{[]}
use Prim.Native.Nat.{◌≤◌}
use native.Mathlib.Omega.{arith}
use lib.ListN.{length}
use Rattle.products.proofs.Filtering.{holds, holds-run, unended, exceeds, unfilled, filled}
use Rattle.products.proofs.insert_products.Goals as goal

pub gather_unions-whole-requires-clause-known : goal.gather_unions-whole-requires-clause-known
gather_unions-whole-requires-clause-known c =
    (holds-run [] _ _ c.requires.n_nonzero.0 c.requires.n_nonzero.1 c.requires.rising).known

pub returns-then-run-whole : goal.returns-then-run-whole
returns-then-run-whole c =
    unfilled _ _ _ c.if-run-whole.true (exceeds _ _ _ _ _ _ _ _ _ (holds-run _ _ _ c.requires.n_nonzero.0 c.requires.n_nonzero.1 c.requires.rising) c.gather_unions-whole.ensures c.if-run-whole.true)

pub returns-then-run-m : goal.returns-then-run-m
returns-then-run-m c =
    unfilled _ _ _ c.if-run-m.true (exceeds _ _ _ _ _ _ _ _ _ (unended _ _ _ _ _ (holds _ _ _ _ _ _ _ _ _ (holds-run _ _ _ c.requires.n_nonzero.0 c.requires.n_nonzero.1 c.requires.rising) c.gather_unions-whole.ensures (omega (arith, c.if-run-whole.false)))) c.gather_products-m.ensures c.if-run-m.true)

pub returns : goal.returns
returns c =
    let fits : c.gather_products-m.result ≤ length c.gather_products-m.new.run = omega (arith, c.if-run-m.false) in
    filled _ _ _ c.gather_products-m.new.run _ _ c.settle.auto.run fits c.settle.ensures.0 c.settle.ensures.1 (holds _ _ _ _ _ _ _ _ _ (unended _ _ _ _ _ (holds _ _ _ _ _ _ _ _ _ (holds-run _ _ _ c.requires.n_nonzero.0 c.requires.n_nonzero.1 c.requires.rising) c.gather_unions-whole.ensures (omega (arith, c.if-run-whole.false)))) c.gather_products-m.ensures fits)
