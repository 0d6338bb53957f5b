-- `batches::step_all`: the words left, on the triples at hand, lead to what all of them make.
use mathlib.Core.Path.{◌≡◌}
use mathlib.Core.List.{◌∷◌}
use lib.ListN.{drop}
use Rattle.labels.specs.Labels.{label_count}
use Rattle.batches.specs.Batches.{word_steps}
use Rattle.batches.proofs.step_all.Given as goal

abbrev pub invariant-loop-w : goal.invariant-loop-w
invariant-loop-w l =
    word_steps label_count (drop l.w-index l.code) (l.own ∷ l.run) ≡ word_steps label_count l.code (l.q ∷ l.initial.run)
