-- `fusing::half_word`: the labels of a word's command are labels.
use mathlib.Core.Path.{sym, ◌∙◌}
use native.Mathlib.Omega.{arith}
use Rattle.labels.specs.Labels.{label_count}
use Rattle.candidates.proofs.Mapping.{connect-labels}
use Rattle.batches.proofs.Steps.{suits-word}
use Rattle.fusing.proofs.half_word.Goals as goal

pub connect_word-requires : goal.connect_word-requires
connect_word-requires c =
    let l = connect-labels label_count _ (sym c.command_of-c.ensures ∙ c.in-Connect.is) (suits-word label_count (omega arith) _) in
    (l.1, l.0)
