-- `products::gather_products`: a batch for each number of a. Assumes nothing.
use Prim.Native.Nat.{◌≤◌}
use lib.Bits.{bit_or}
use lib.ListN.{length, take, drop}
use Rattle.lists.specs.Lists.{products}
use Rattle.lists.specs.Sorted.{set_of}
use Rattle.runs.proofs.Growing.{joined}
use Rattle.products.proofs.Filtering.{Holding}
use Rattle.products.proofs.gather_products.Given as goal

abbrev pub invariant-loop-x : goal.invariant-loop-x
invariant-loop-x l =
    (l.m ≤ length l.run) × Holding (joined (products bit_or l.a l.b) (set_of (take l.n l.initial.run))) (products bit_or (drop l.x-index l.a) l.b) l.m l.run l.seen
