-- `maps::map_all`: the candidates from j on are left.
use mathlib.Core.Path.{sym, ap, subst}
use mathlib.Core.List.{[], ◌∷◌, map}
use native.Mathlib.Omega.{arith}
use Rattle.labels.specs.Labels.{label_count}
use Rattle.batches.specs.Batches.{words_pair}
use Rattle.entries.specs.Carries.{Keeps}
use Rattle.entries.proofs.ValueAreas.{area-span}
use Rattle.making.proofs.Underway.{lent, next-left, then-puts, all-put, none-held, row-readable}
use Rattle.maps.specs.Maps.{worded}
use Rattle.maps.proofs.Mapping.{keeps-value, next-is}
use Rattle.maps.proofs.map_all.Goals as goal

pub map_entry-r-requires-clause-readable : goal.map_entry-r-requires-clause-readable
map_entry-r-requires-clause-readable c =
    let s = c.loop-j.invariant in
    (row-readable s.operand s.underway c.loop-j.j c.loop-j-test.true, subst (Keeps c.args.carry) (sym c.value_at-v.ensures) (keeps-value c.args.carry c.args.n _ _))

pub map_entry-r-requires-clause-next : goal.map_entry-r-requires-clause-next
map_entry-r-requires-clause-next c =
    let s = c.loop-j.invariant in
    next-left s.underway (_ ∷ []) _ (next-is s.operand s.underway (words_pair label_count c.args.code.now) c.loop-j.j c.loop-j-test.true _ c.words_of-k.ensures _ c.value_at-v.ensures) _ (area-span c.args.carry c.args.p c.args.made _ c.words_of-k.ensures)

pub loop-j-preserved : goal.loop-j-preserved
loop-j-preserved c =
    let s = c.loop-j.invariant in
    let next = next-is s.operand s.underway (words_pair label_count c.args.code.now) c.loop-j.j c.loop-j-test.true _ c.words_of-k.ensures _ c.value_at-v.ensures in
    record {
      operand = s.operand;
      underway = then-puts s.underway (_ ∷ []) _ next _ (area-span c.args.carry c.args.p c.args.made _ c.words_of-k.ensures) (lent s.underway _ c.words_of-k.ensures _ c.map_entry-r.auto.vals) c.map_entry-r.ensures;
    }

pub returns-clause-puts : goal.returns-clause-puts
returns-clause-puts c =
    let s = c.loop-j.invariant in
    all-put s.underway (ap (map (worded c.args.code.now)) (none-held s.operand s.underway c.loop-j.j (omega arith)))
