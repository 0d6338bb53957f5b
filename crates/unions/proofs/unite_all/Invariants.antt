-- `unions::unite_all`: the products of the entries from i on are left.
use lib.ListN.{drop}
use Rattle.lists.specs.Lists.{products}
use Rattle.labels.specs.Labels.{label_count}
use Rattle.entries.specs.Carries.{entry_algebra, value_area}
use Rattle.making.specs.Making.{entries_at}
use Rattle.making.proofs.Underway.{Underway, Operand}
use Rattle.unions.specs.Unions.{united_all}
use Rattle.unions.proofs.unite_all.Given as goal

abbrev pub invariant-loop-i : goal.invariant-loop-i
invariant-loop-i l = record {
  first : Operand l.carry l.w l.p l.to l.made l.a l.left l.na l.initial.ws l.initial.vals;
  second : Operand l.carry l.w l.p l.to l.made l.b l.right l.nb l.initial.ws l.initial.vals;
  underway : Underway l.carry l.w l.p l.to l.made (united_all l.carry l.w l.p l.a l.left l.na l.b l.right l.nb l.initial.vals l.initial.ws)
      (products (entry_algebra label_count l.carry).united (drop l.i (entries_at l.carry l.w l.p l.a l.na (value_area l.carry l.p l.left l.initial.vals) l.initial.ws)) (entries_at l.carry l.w l.p l.b l.nb (value_area l.carry l.p l.right l.initial.vals) l.initial.ws))
      0 l.r l.initial.ws l.initial.index l.initial.vals l.ws l.index l.vals;
}
