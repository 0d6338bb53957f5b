-- `names::called`: the commands left decide. The measure is what is left of the bytes. Assumes nothing.
use mathlib.Core.Path.{sym, ap, ◌∙◌}
use Prim.Native.Nat.{◌-◌}
use native.Mathlib.Omega.{arith}
use Rattle.expression.specs.Names.{newest_by}
use Rattle.expression.proofs.Commands.{read-ends}
use Rattle.expression.specs.Told.{read_of, named_of}
use Rattle.names.proofs.Calling.{left-start, left-next, left-fault, left_end}
use Rattle.names.proofs.called.Goals as goal

pub loop-at-init : goal.loop-at-init
loop-at-init c = left-start _ _ _ c.requires.1 _ c.no_counts-n.ensures

pub returns-in_default : goal.returns-in_default
returns-in_default c =
    absurd (left-fault _ _ _ c.loop-at.at c.loop-at.n c.loop-at.newest (named_of c.loop-at.name) c.loop-at-test.true c.loop-at.invariant _ (sym c.read_next.ensures ∙ ap read_of c.in_default.is))

pub loop-at-smaller : goal.loop-at-smaller
loop-at-smaller c =
    let e = read-ends _ _ c.loop-at.at _ _ (sym c.in-Ok.ensures) in
    omega arith

pub loop-at-preserved : goal.loop-at-preserved
loop-at-preserved c =
    left-next _ _ _ c.loop-at.at c.loop-at.n c.loop-at.newest (named_of c.loop-at.name) c.loop-at-test.true c.loop-at.invariant _ _ (sym c.in-Ok.ensures) _ c.counted-n.ensures
    _ (c.newest_by-newest.ensures ∙ ap (newest_by _ _ _) c.effect.ensures) _ c.called_by-name.ensures

pub returns : goal.returns
returns c = left_end _ _ _ c.loop-at.at c.loop-at.n c.loop-at.newest (named_of c.loop-at.name) c.loop-at-test.false c.loop-at.invariant
