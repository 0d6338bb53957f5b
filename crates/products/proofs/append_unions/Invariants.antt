-- `products::append_unions`: with the unions that are left the set becomes what is wanted. Assumes nothing.
use mathlib.Core.List.{map}
use Prim.Native.Nat.{◌≤◌, ◌+◌}
use lib.Bits.{bit_or}
use lib.ListN.{take, drop}
use Rattle.lists.specs.Sorted.{set_of}
use Rattle.runs.proofs.Growing.{joined}
use Rattle.products.proofs.Filtering.{Holding}
use Rattle.products.proofs.append_unions.Given as goal

abbrev pub invariant-loop-x : goal.invariant-loop-x
invariant-loop-x l =
    (l.m ≤ l.n + l.x-index) × Holding (joined (map (bit_or l.q) l.src) (set_of (take l.n l.initial.run))) (map (bit_or l.q) (drop l.x-index l.src)) l.m l.run l.seen
