-- `batches::step_words`: the triples before the index are mapped.
use mathlib.Core.Path.{◌≡◌}
use mathlib.Core.List.{◌++◌, map}
use lib.ListN.{take, drop}
use Rattle.labels.specs.Labels.{label_count}
use Rattle.batches.specs.Batches.{step_triple}
use Rattle.batches.proofs.step_words.Given as goal

abbrev pub invariant-loop-x : goal.invariant-loop-x
invariant-loop-x l =
    l.run ≡ map (step_triple label_count l.c l.q) (take l.x-index l.initial.run) ++ drop l.x-index l.initial.run
