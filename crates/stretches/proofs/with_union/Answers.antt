-- `stretches::with_union`: names are passed by until another command stands there. The measure is what is left of the bytes. Assumes nothing.
use mathlib.Core.Path.{sym, ap, ◌∙◌, subst}
use mathlib.Core.List.{[]}
use Prim.Native.Nat.{◌-◌}
use native.Mathlib.Omega.{arith}
use Rattle.labels.specs.Labels.{label_count}
use Rattle.expression.specs.declared.Effect.TheVariants.{Push}
use Rattle.expression.proofs.Commands.{read-ends}
use Rattle.stretches.specs.Stretches.{SpeltBy}
use Rattle.stretches.proofs.Reading.{passing-none, passing-more, closed-spelt}
use Rattle.stretches.proofs.with_union.Goals as goal

pub loop-end-init : goal.loop-end-init
loop-end-init c = ([], passing-none label_count _ _ _)

pub returns-in_default-e : goal.returns-in_default-e
returns-in_default-e c =
    λ at h k. subst (SpeltBy label_count _ _ at) (sym c.closed_by.ensures)
    (closed-spelt label_count _ _ at _ c.loop-end.end _ _ _ c.loop-end.invariant.0 h (k ∙ ap Push c.in-Rule.is) c.loop-end.invariant.1 c.loop-end-test.true (sym c.in-Ok.ensures) _ (sym c.effect-e.ensures))

pub loop-end-smaller : goal.loop-end-smaller
loop-end-smaller c =
    let e = read-ends _ _ c.loop-end.end _ _ (sym c.in-Ok.ensures) in
    omega arith

pub loop-end-preserved : goal.loop-end-preserved
loop-end-preserved c =
    (_, passing-more label_count _ _ _ c.loop-end.end _ _ c.loop-end.invariant.0 c.loop-end-test.true (sym c.effect-e.ensures ∙ c.in-Pass.is) (sym c.in-Ok.ensures) c.loop-end.invariant.1)
