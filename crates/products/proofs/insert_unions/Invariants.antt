-- `products::insert_unions`: as `insert_unions`, with the filter. Assumes nothing.
use mathlib.Core.List.{map}
use lib.Bits.{bit_or}
use lib.ListN.{take, drop}
use Rattle.products.specs.Filters.{Known}
use Rattle.runs.proofs.Growing.{joined, Going}
use Rattle.products.proofs.insert_unions.Given as goal

abbrev pub invariant-loop-x : goal.invariant-loop-x
invariant-loop-x l =
    Going (joined (map (bit_or l.q) l.src) (take l.n l.initial.run)) (map (bit_or l.q) (drop l.x-index l.src)) l.m l.run l.initial.run × Known l.seen (take l.m l.run)
