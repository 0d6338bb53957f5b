-- `stretches::with_union`: names are passed by until another command stands there. The measure is what is left of the bytes. Assumes nothing.
use mathlib.Core.List.{List}
use Prim.Native.Nat.{◌-◌}
use lib.ListN.{length}
use Rattle.labels.specs.Labels.{label_count}
use Rattle.expression.specs.declared.Command.{Command}
use Rattle.stretches.specs.Stretches.{Passing}
use Rattle.stretches.proofs.with_union.Given as goal

abbrev pub invariant-loop-end : goal.invariant-loop-end
invariant-loop-end l = (cs : List Command) × Passing label_count l.s l.stop l.mid l.end cs

abbrev pub decreases-loop-end : goal.decreases-loop-end
decreases-loop-end l = length l.s - l.end
