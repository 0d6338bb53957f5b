-- `checking::check_bytes`: what is unread gives the whole verdict. The measure is what is left of the bytes. Assumes nothing.
use mathlib.Core.Path.{◌≡◌, sym, ap, ◌∙◌}
use Prim.Native.Nat.{◌-◌}
use native.Mathlib.Omega.{arith}
use Rattle.expression.proofs.Commands.{read-ends}
use Rattle.expression.specs.Told.{read_of}
use Rattle.expression.proofs.Told.{number-positive}
use Rattle.expression.proofs.Checks.{unread-start, unread-step, unread-fault, unread-count-fault, unread-unjoined, unread-joined}
use Rattle.checks.proofs.checking.check_bytes.Goals as goal

pub loop-at-init : goal.loop-at-init
loop-at-init c = unread-start _ _ _ c.no_counts-n.ensures

pub returns-in_default : goal.returns-in_default
returns-in_default c =
    rw c.at.ensures (unread-fault _ _ c.loop-at.at c.loop-at.n c.loop-at-test.true _ (sym c.read_next-r.ensures ∙ ap read_of c.unwrap_err.ensures) c.loop-at.invariant)

pub returns-in-Err : goal.returns-in-Err
returns-in-Err c =
    rw c.at-in-Err.ensures (
    unread-count-fault _ _ c.loop-at.at c.loop-at.n c.loop-at-test.true _ _ _
    (sym c.in-Ok.ensures) (sym c.in-Err.ensures) (number-positive c.in-Err.reason) c.loop-at.invariant)

pub loop-at-smaller : goal.loop-at-smaller
loop-at-smaller c =
    let e = read-ends _ _ c.loop-at.at _ _ (sym c.in-Ok.ensures) in
    omega arith

pub loop-at-preserved : goal.loop-at-preserved
loop-at-preserved c =
    unread-step _ _ c.loop-at.at c.loop-at.n c.loop-at-test.true _ _ _
    (sym c.in-Ok.ensures) (omega arith) c.counted-n.ensures (omega arith) c.loop-at.invariant

pub returns-then-n-ne1 : goal.returns-then-n-ne1
returns-then-n-ne1 c = rw c.at-then-n-ne1.ensures (unread-unjoined _ _ _ _ c.loop-at-test.false c.if-n-ne1.true c.loop-at.invariant)

pub returns : goal.returns
returns c = unread-joined _ _ _ _ c.loop-at-test.false c.if-n-ne1.false c.loop-at.invariant
