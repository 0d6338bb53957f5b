-- `unions::unite_all`: the products of the entries from i on are left.
use mathlib.Core.Path.{refl}
use native.Mathlib.Omega.{arith}
use Rattle.labels.specs.Labels.{label_count}
use Rattle.entries.specs.Carries.{entry_algebra}
use Rattle.making.proofs.Underway.{changed, next-left, then-steps, then-wide, all-stepped, none-held, still, row-readable}
use Rattle.unions.proofs.Uniting.{products-next, fit_row, no-products}
use Rattle.unions.proofs.unite_all.Goals as goal

pub unite_with_all-r-requires-clause-readable : goal.unite_with_all-r-requires-clause-readable
unite_with_all-r-requires-clause-readable c =
    let s = c.loop-i.invariant in
    let second = still s.second s.underway in
    (row-readable s.first s.underway c.loop-i.i c.loop-i-test.true, second.rows, second.apart)

pub unite_with_all-r-requires-clause-next : goal.unite_with_all-r-requires-clause-next
unite_with_all-r-requires-clause-next c =
    let s = c.loop-i.invariant in
    next-left s.underway _ _ (products-next s.first s.second s.underway c.loop-i.i c.loop-i-test.true _ c.words_of-k.ensures _ c.value_at-va.ensures) _ refl

pub returns-then-r-p-clause-steps : goal.returns-then-r-p-clause-steps
returns-then-r-p-clause-steps c =
    let s = c.loop-i.invariant in
    let next = products-next s.first s.second s.underway c.loop-i.i c.loop-i-test.true _ c.words_of-k.ensures _ c.value_at-va.ensures in
    let fit = fit_row s.first s.second s.underway c.loop-i.i c.loop-i-test.true _ c.words_of-k.ensures _ c.value_at-va.ensures in
    then-wide s.underway _ _ next _ refl (changed s.underway _ c.unite_with_all-r.auto.vals c.unite_with_all-r.ensures.only_area) c.if-r-p.true fit c.unite_with_all-r.ensures.steps

pub returns-then-r-p-clause-only_area : goal.returns-then-r-p-clause-only_area
returns-then-r-p-clause-only_area c =
    (changed c.loop-i.invariant.underway _ c.unite_with_all-r.auto.vals c.unite_with_all-r.ensures.only_area).only

pub loop-i-preserved : goal.loop-i-preserved
loop-i-preserved c =
    let s = c.loop-i.invariant in
    let next = products-next s.first s.second s.underway c.loop-i.i c.loop-i-test.true _ c.words_of-k.ensures _ c.value_at-va.ensures in
    let back = changed s.underway _ c.unite_with_all-r.auto.vals c.unite_with_all-r.ensures.only_area in
    record {
      first = s.first;
      second = s.second;
      underway = then-steps s.underway _ _ next _ refl back (omega (arith, c.if-r-p.false)) c.unite_with_all-r.ensures.steps;
    }

pub returns-clause-steps : goal.returns-clause-steps
returns-clause-steps c =
    let s = c.loop-i.invariant in
    all-stepped s.underway (no-products (entry_algebra label_count c.args.carry).united _ _ (none-held s.first s.underway c.loop-i.i (omega arith))) c.requires.le_w.0
