-- `products::insert_unions`: as `insert_unions`, with the filter. Assumes nothing.
use mathlib.Core.Path.{◌≡◌}
use mathlib.Core.List.{[], ◌∷◌}
use Prim.Native.Nat.{◌≤◌, ◌<◌}
use native.Mathlib.Omega.{arith}
use lib.Bits.{bit_or}
use lib.ListN.{length}
use lib.Seq.{drop-length}
use Rattle.runs.proofs.Growing.{step, stuck, one, map_at}
use Rattle.products.proofs.Filtering.{front-known, done-known, stuck-known}
use Rattle.products.proofs.insert_unions.Goals as goal

pub returns-then-run-m : goal.returns-then-run-m
returns-then-run-m c =
    let over : length c.loop-x.run < c.insert_seen-m.result = omega (arith, c.if-run-m.true, c.insert_seen-m.auto.run) in
    stuck-known _ _ _ _ _ (stuck _ (_ ∷ []) _ _ _ _ _ _ (rw (map_at (bit_or c.args.q) _ _ c.loop-x-test.true) at c.loop-x.invariant.0) (one _ _ _ _ _ c.insert_seen-m.ensures.grown) over) (omega (arith, over, c.loop-x.invariant.0.as_long))

pub loop-x-preserved : goal.loop-x-preserved
loop-x-preserved c =
    let fits : c.insert_seen-m.result ≤ length c.loop-x.run = omega (arith, c.if-run-m.false, c.insert_seen-m.auto.run) in (
      step _ (_ ∷ []) _ _ _ _ _ _ (rw (map_at (bit_or c.args.q) _ _ c.loop-x-test.true) at c.loop-x.invariant.0) (one _ _ _ _ _ c.insert_seen-m.ensures.grown) fits,
      front-known _ _ _ _ _ c.insert_seen-m.ensures fits,
    )

pub returns : goal.returns
returns c =
    let end : c.loop-x.x-index ≡ length c.args.src.now = omega arith in
    done-known _ _ _ _ _ (rw (end, drop-length c.args.src.now) at c.loop-x.invariant.0) c.loop-x.invariant.1
