-- `answers::shown_mask`: the mask of the first c atoms.
use mathlib.Core.Path.{◌≡◌}
use Rattle.values.specs.First.{shown_by}
use Rattle.answers.proofs.shown_mask.Given as goal

abbrev pub invariant-loop-c : goal.invariant-loop-c
invariant-loop-c l = l.mask ≡ shown_by l.c l.v
