-- `last_start`: what is ahead holds what is to be found. Assumes nothing.
use Rattle.std.proofs.Common.{sym, ap, ◌∙◌, arith}
use Rattle.expression.specs.Told.{read_of}
use Rattle.expression.proofs.Commands.{read-ends}
use Rattle.listing.proofs.Printing.{ahead-start, ahead_step, ahead-fault}
use Rattle.listing.proofs.last_start.Goals as goal

pub loop-next-init : goal.loop-next-init
loop-next-init c = ahead-start _ _

pub loop-next-smaller : goal.loop-next-smaller
loop-next-smaller c =
    let e = read-ends _ _ c.loop-next.at _ _ (sym c.read_next.ensures ∙ ap read_of c.in-Ok.is) in
    omega arith

pub loop-next-preserved : goal.loop-next-preserved
loop-next-preserved c = ahead_step _ _ c.loop-next.last c.loop-next.at _ _ (sym c.read_next.ensures ∙ ap read_of c.in-Ok.is) c.loop-next.invariant

pub returns : goal.returns
returns c = ahead-fault _ _ c.loop-next.last c.loop-next.at _ (sym c.in_default.ensures) c.loop-next.invariant
