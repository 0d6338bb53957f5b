-- `unions::unite_with_all`: the candidates from j on are left.
use mathlib.Core.List.{map}
use lib.ListN.{drop}
use Rattle.labels.specs.Labels.{label_count}
use Rattle.entries.specs.Carries.{entry_algebra, value_area}
use Rattle.making.specs.Making.{entry_at, entries_at}
use Rattle.making.proofs.Underway.{Underway, Operand}
use Rattle.unions.specs.Unions.{united_with}
use Rattle.unions.proofs.unite_with_all.Given as goal

abbrev pub invariant-loop-j : goal.invariant-loop-j
invariant-loop-j l = record {
  operand : Operand l.carry l.w l.p l.to l.made l.b l.right l.n l.initial.ws l.initial.vals;
  underway : Underway l.carry l.w l.p l.to l.made (united_with l.carry l.w l.p l.ra l.va l.b l.right l.n l.initial.vals l.initial.ws)
      (map ((entry_algebra label_count l.carry).united (entry_at l.w l.ra l.va l.initial.ws)) (drop l.j (entries_at l.carry l.w l.p l.b l.n (value_area l.carry l.p l.right l.initial.vals) l.initial.ws)))
      l.m l.r l.initial.ws l.initial.index l.initial.vals l.ws l.index l.vals;
}
