-- `places::locate`: what is ahead holds what is to be found. The measure is what is left of the bytes. Assumes nothing.
use mathlib.Core.Path.{sym, ap, ◌∙◌}
use Prim.Native.Nat.{◌-◌}
use native.Mathlib.Omega.{arith}
use Rattle.expression.specs.Told.{read_of}
use Rattle.expression.proofs.Commands.{read-ends}
use Rattle.expression.proofs.Places.{ahead-start, ahead_step, ahead-fault, ahead-here}
use Rattle.places.proofs.locate.Goals as goal

pub loop-at-init : goal.loop-at-init
loop-at-init c = ahead-start _ _ _ _ c.no_counts-n.ensures

pub returns-in_default : goal.returns-in_default
returns-in_default c =
    ahead-fault _ _ _ c.loop-at.at c.loop-at.n c.loop-at-test.true _ (sym c.read_next.ensures ∙ ap read_of c.in_default.is) c.loop-at.invariant

pub loop-at-smaller : goal.loop-at-smaller
loop-at-smaller c =
    let e = read-ends _ _ c.loop-at.at _ _ (sym c.read_next.ensures ∙ ap read_of c.in-Ok.is) in
    omega arith

pub loop-at-preserved : goal.loop-at-preserved
loop-at-preserved c =
    ahead_step _ _ _ c.loop-at.at c.loop-at.n c.loop-at-test.true _ _ _ (sym c.read_next.ensures ∙ ap read_of c.in-Ok.is) c.counted-n.ensures (omega arith) c.loop-at.invariant

pub returns : goal.returns
returns c = ahead-here _ _ _ _ _ c.loop-at-test.false c.loop-at.invariant
