-- `maps::map_all`: the candidates from j on are left.
use mathlib.Core.List.{map}
use lib.ListN.{drop}
use Rattle.entries.specs.Carries.{value_area}
use Rattle.making.specs.Making.{entries_at}
use Rattle.making.proofs.Underway.{Underway, Operand}
use Rattle.maps.specs.Maps.{worded, worded_all}
use Rattle.maps.proofs.map_all.Given as goal

abbrev pub invariant-loop-j : goal.invariant-loop-j
invariant-loop-j l = record {
  operand : Operand l.carry l.w l.p l.to l.made l.a l.old l.n l.initial.ws l.initial.vals;
  underway : Underway l.carry l.w l.p l.to l.made (worded_all l.carry l.w l.p l.a l.old l.n l.code l.initial.vals l.initial.ws)
      (map (worded l.code) (drop l.j (entries_at l.carry l.w l.p l.a l.n (value_area l.carry l.p l.old l.initial.vals) l.initial.ws))) 0 l.r l.initial.ws l.initial.index l.initial.vals l.ws l.index l.vals;
}
