-- `advances::advance`: the command acts, and then the counts follow.
use mathlib.Core.Path.{◌≡◌, refl, sym, ap, ◌∙◌, subst}
use mathlib.Core.List.{List}
use Prim.Native.Nat.{ℕ}
use lib.ListN.{length}
use Rattle.expression.specs.declared.Effect.{Effect}
use Rattle.tables.specs.Algebras.{tables}
use Rattle.entries.specs.Carries.{Entry}
use Rattle.leaves.specs.Leaves.{table_algebra}
use Rattle.stacks.specs.Stacks.{Applies, tallied}
use Rattle.operands.specs.Operands.{Loaded}
use Rattle.advances.specs.Advances.{Stands}
use Rattle.advances.proofs.Advancing.{counts-reach, loaded, counts-apply, advanced}
use native.Mathlib.Omega.{arith}
use Rattle.advances.proofs.advance.Goals as goal

pub count_below-n-requires : goal.count_below-n-requires
count_below-n-requires c =
    let standing : Stands c.args.carry c.args.d c.args.w c.args.p c.requires.some_stand.0 c.requires.some_stand.1 c.args.ws.now c.args.vals.now c.args.counts.now = c.requires.some_stand.2 in
    (omega arith, counts-reach standing c.args.t c.requires.some_stand.3)

pub count_below-m-requires : goal.count_below-m-requires
count_below-m-requires c =
    let standing : Stands c.args.carry c.args.d c.args.w c.args.p c.requires.some_stand.0 c.requires.some_stand.1 c.args.ws.now c.args.vals.now c.args.counts.now = c.requires.some_stand.2 in
    (omega arith, counts-reach standing c.args.t c.requires.some_stand.3)

pub act-r-requires-clause-suits : goal.act-r-requires-clause-suits
act-r-requires-clause-suits c =
    let standing : Stands c.args.carry c.args.d c.args.w c.args.p c.requires.some_stand.0 c.requires.some_stand.1 c.args.ws.now c.args.vals.now c.args.counts.now = c.requires.some_stand.2 in
    let load : (ts : List (List Entry)) (beyond : List ℕ) → Stands c.args.carry c.args.d c.args.w c.args.p ts beyond c.args.ws.now c.args.vals.now c.args.counts.now → length ts ≡ c.args.t → Loaded c.args.carry c.args.d c.args.w c.args.p c.args.t c.count_below-n.result c.count_below-m.result ts beyond c.args.ws.now c.args.vals.now = λ ts beyond h e. loaded h c.args.t e c.count_below-n.result c.count_below-m.result c.count_below-n.ensures c.count_below-m.ensures in
    (c.requires.suits.0, c.requires.suits.1, c.requires.suits.2, (c.requires.some_stand.0, c.requires.some_stand.1, load c.requires.some_stand.0 c.requires.some_stand.1 standing c.requires.some_stand.3))

pub tally-requires : goal.tally-requires
tally-requires c =
    let standing : Stands c.args.carry c.args.d c.args.w c.args.p c.requires.some_stand.0 c.requires.some_stand.1 c.args.ws.now c.args.vals.now c.args.counts.now = c.requires.some_stand.2 in
    subst (λ (x : Effect). Applies x c.args.t (length c.args.counts.now)) (sym c.effect.ensures) (counts-apply standing c.args.t c.requires.some_stand.3 c.args.c c.requires.suits.1)

pub returns-then-r-p : goal.returns-then-r-p
returns-then-r-p c =
    let load : (ts : List (List Entry)) (beyond : List ℕ) → Stands c.args.carry c.args.d c.args.w c.args.p ts beyond c.args.ws.now c.args.vals.now c.args.counts.now → length ts ≡ c.args.t → Loaded c.args.carry c.args.d c.args.w c.args.p c.args.t c.count_below-n.result c.count_below-m.result ts beyond c.args.ws.now c.args.vals.now = λ ts beyond h e. loaded h c.args.t e c.count_below-n.result c.count_below-m.result c.count_below-n.ensures c.count_below-m.ensures in
    let A = table_algebra c.args.kind c.args.carry in
    λ o a x ts beyond h e. advanced h c.args.t e c.args.c c.requires.suits.1 (tables A o) a (c.act-r.ensures o a x ts beyond (load ts beyond h e)) (λ l. c.tally.ensures ∙ ap (λ (x : Effect). tallied x c.args.t c.act-r.result c.args.counts.now) c.effect.ensures) (λ l. absurd (omega (arith, c.if-r-p.true)))

pub returns-else-r-p : goal.returns-else-r-p
returns-else-r-p c =
    let load : (ts : List (List Entry)) (beyond : List ℕ) → Stands c.args.carry c.args.d c.args.w c.args.p ts beyond c.args.ws.now c.args.vals.now c.args.counts.now → length ts ≡ c.args.t → Loaded c.args.carry c.args.d c.args.w c.args.p c.args.t c.count_below-n.result c.count_below-m.result ts beyond c.args.ws.now c.args.vals.now = λ ts beyond h e. loaded h c.args.t e c.count_below-n.result c.count_below-m.result c.count_below-n.ensures c.count_below-m.ensures in
    let A = table_algebra c.args.kind c.args.carry in
    λ o a x ts beyond h e. advanced h c.args.t e c.args.c c.requires.suits.1 (tables A o) a (c.act-r.ensures o a x ts beyond (load ts beyond h e)) (λ l. absurd (omega (arith, c.if-r-p.false))) (λ l. refl)
