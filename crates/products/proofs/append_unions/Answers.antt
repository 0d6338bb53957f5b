-- `products::append_unions`: with the unions that are left the set becomes what is wanted. Assumes nothing.
use mathlib.Core.Path.{◌≡◌}
use mathlib.Core.List.{[], ◌∷◌}
use native.Mathlib.Omega.{arith}
use lib.Bits.{bit_or}
use lib.ListN.{length}
use lib.Seq.{drop-length}
use Rattle.runs.proofs.Growing.{map_at}
use Rattle.products.proofs.Filtering.{holds, holds-all, gathers-one}
use Rattle.products.proofs.append_unions.Goals as goal

pub loop-x-preserved : goal.loop-x-preserved
loop-x-preserved c = (
  omega (arith, c.append_seen-m.ensures.0, c.loop-x.invariant.0),
  holds _ (_ ∷ []) _ _ _ _ _ _ _ (rw (map_at (bit_or c.args.q) _ _ c.loop-x-test.true) at c.loop-x.invariant.1) (gathers-one _ _ _ _ _ c.append_seen-m.ensures.1) (omega (arith, c.requires.src_in_bounds, c.loop-x-test.true, c.loop-x.invariant.0, c.append_seen-m.ensures.0)),
)

pub returns : goal.returns
returns c =
    let end : c.loop-x.x-index ≡ length c.args.src.now = omega arith in
    holds-all _ _ _ _ (omega (arith, end, c.requires.src_in_bounds, c.loop-x.invariant.0)) (rw (end, drop-length c.args.src.now) at c.loop-x.invariant.1)
