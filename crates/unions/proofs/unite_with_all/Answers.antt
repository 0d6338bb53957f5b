-- `unions::unite_with_all`: the candidates from j on are left.
use mathlib.Core.Path.{sym, ap, subst}
use mathlib.Core.List.{[], ◌∷◌, map}
use native.Mathlib.Omega.{arith}
use Rattle.labels.specs.Labels.{label_count}
use Rattle.candidates.specs.Candidates.{Readable}
use Rattle.entries.specs.Carries.{Keeps, entry_algebra}
use Rattle.entries.proofs.ValueAreas.{area-span}
use Rattle.making.specs.Making.{entry_at}
use Rattle.making.proofs.Underway.{words-before, lent, next-left, then-steps, then-wide, all-stepped, none-held, row-readable}
use Rattle.unions.proofs.Uniting.{next-is, fit_next, keeps-together}
use Rattle.unions.proofs.unite_with_all.Goals as goal

pub unite_entry-r-requires-clause-readable : goal.unite_entry-r-requires-clause-readable
unite_entry-r-requires-clause-readable c =
    let s = c.loop-j.invariant in (
      subst Readable (sym (words-before s.underway c.args.ra c.args.w c.requires.w_bound.0)) c.requires.readable.0,
      row-readable s.operand s.underway c.loop-j.j c.loop-j-test.true,
      subst (Keeps c.args.carry) (sym c.together-v.ensures) (keeps-together c.args.carry c.args.va _),
    )

pub unite_entry-r-requires-clause-next : goal.unite_entry-r-requires-clause-next
unite_entry-r-requires-clause-next c =
    let s = c.loop-j.invariant in
    next-left s.underway (_ ∷ []) _ (next-is s.operand s.underway c.loop-j.j c.loop-j-test.true c.args.ra c.requires.w_bound.0 c.args.va _ c.words_of-k.ensures _ c.value_at-vb.ensures _ c.together-v.ensures) _ (area-span c.args.carry c.args.p c.args.made _ c.words_of-k.ensures)

pub returns-then-p-r-clause-steps : goal.returns-then-p-r-clause-steps
returns-then-p-r-clause-steps c =
    let s = c.loop-j.invariant in
    let next = next-is s.operand s.underway c.loop-j.j c.loop-j-test.true c.args.ra c.requires.w_bound.0 c.args.va _ c.words_of-k.ensures _ c.value_at-vb.ensures _ c.together-v.ensures in
    let fit = fit_next s.operand s.underway c.loop-j.j c.loop-j-test.true c.args.ra c.requires.w_bound.0 c.args.va _ c.words_of-k.ensures _ c.value_at-vb.ensures _ c.together-v.ensures in
    then-wide s.underway (_ ∷ []) _ next _ (area-span c.args.carry c.args.p c.args.made _ c.words_of-k.ensures) (lent s.underway _ c.words_of-k.ensures _ c.unite_entry-r.auto.vals) c.if-p-r.true fit c.unite_entry-r.ensures

pub loop-j-preserved : goal.loop-j-preserved
loop-j-preserved c =
    let s = c.loop-j.invariant in
    let next = next-is s.operand s.underway c.loop-j.j c.loop-j-test.true c.args.ra c.requires.w_bound.0 c.args.va _ c.words_of-k.ensures _ c.value_at-vb.ensures _ c.together-v.ensures in
    record {
      operand = s.operand;
      underway = then-steps s.underway (_ ∷ []) _ next _ (area-span c.args.carry c.args.p c.args.made _ c.words_of-k.ensures) (lent s.underway _ c.words_of-k.ensures _ c.unite_entry-r.auto.vals) (omega (arith, c.if-p-r.false)) c.unite_entry-r.ensures;
    }

pub returns-clause-steps : goal.returns-clause-steps
returns-clause-steps c =
    let s = c.loop-j.invariant in
    all-stepped s.underway (ap (map ((entry_algebra label_count c.args.carry).united (entry_at c.args.w c.args.ra c.args.va c.args.ws.now))) (none-held s.operand s.underway c.loop-j.j (omega arith))) c.requires.le_w.0
