-- `leaves::first_weight`: a power of two, and 1 where there is no such atom.
use native.Mathlib.Omega.{arith}
use Rattle.values.specs.First.{first_weight}
use Rattle.leaves.proofs.Writing.{mark-is}
use Rattle.leaves.proofs.first_weight.Goals as goal

pub returns-then-c-eq-ATOM_LIMIT : goal.returns-then-c-eq-ATOM_LIMIT
unfolding first_weight
returns-then-c-eq-ATOM_LIMIT c = rw c.if-c-eq-ATOM_LIMIT.true

pub returns : goal.returns
unfolding first_weight
returns c = mark-is _ 64 (omega arith)
