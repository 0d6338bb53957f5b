-- `advances::fault_of`: 15 goes before 16.
use mathlib.Core.Path.{sym}
use Rattle.advances.proofs.Steps.{fault-subsets, fault-plans}
use native.Mathlib.Omega.{arith}
use Rattle.advances.proofs.fault_of.Goals as goal

pub returns-then-p-r : goal.returns-then-p-r
returns-then-p-r c = sym (fault-subsets c.args.p c.args.r (omega (arith, c.if-p-r.true)))

pub returns : goal.returns
returns c =
    sym (fault-plans c.args.p c.args.r c.requires.0 (omega (arith, c.if-p-r.false)))
