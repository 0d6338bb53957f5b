-- `candidates::relabel_triple`. Assumes nothing.
use native.Mathlib.Omega.{arith}
use Rattle.labels.specs.Labels.{label_count}
use Rattle.candidates.proofs.Marks.{relabelled-word}
use Rattle.candidates.proofs.relabel_triple.Goals as goal

pub returns : goal.returns
returns c = relabelled-word label_count _ _ _ c.requires.0 c.requires.1 32 (omega arith)
