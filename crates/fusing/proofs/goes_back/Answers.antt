-- `fusing::goes_back`: a half that is idle is left out.
use mathlib.Core.Path.{◌∙◌}
use native.Mathlib.Omega.{arith}
use Rattle.labels.specs.Labels.{label_count}
use Rattle.fusing.proofs.Halves.{connect-reverse}
use Rattle.fusing.proofs.Marks.{step-idle}
use Rattle.fusing.proofs.goes_back.Goals as goal

pub returns-then-is_idle : goal.returns-then-is_idle
returns-then-is_idle c =
    (omega arith, λ u. absurd (omega (arith, u)), λ u z y h. step-idle label_count _ _ (c.is_idle.ensures c.if-is_idle.true) y h ∙ connect-reverse label_count _ _ _ _ y c.in-Connect.is)
