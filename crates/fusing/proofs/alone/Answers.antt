-- `fusing::alone`: by the word's size.
use native.Mathlib.Omega.{arith}
use Rattle.labels.specs.Labels.{label_count}
use Rattle.batches.proofs.Words.{by-command}
use Rattle.fusing.proofs.Words.{rule-alone}
use Rattle.fusing.proofs.alone.Goals as goal

pub returns-then-w-lt-LABELS : goal.returns-then-w-lt-LABELS
returns-then-w-lt-LABELS c = λ q r. rule-alone label_count _ _ c.if-w-lt-LABELS.true c.judge_word.ensures.0 c.judge_word.ensures.1 q r

pub returns : goal.returns
returns c = λ q r. by-command label_count _ q r (omega (arith, c.ranges.w))
