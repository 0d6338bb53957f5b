-- `fusing::judge_word`.
use mathlib.Core.Path.{refl}
use native.Mathlib.Omega.{arith}
use Rattle.labels.specs.Labels.{label_count}
use Rattle.fusing.proofs.Words.{word_fits}
use Rattle.fusing.proofs.judge_word.Goals as goal

pub returns : goal.returns
returns c = (omega (arith, c.requires), word_fits label_count _ _ _ _ _ _ c.requires refl)
