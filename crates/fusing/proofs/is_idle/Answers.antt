-- `fusing::is_idle`: no unmet rule, or no atom.
use mathlib.Core.Path.{◌≡◌, refl, sym, ap, ◌∙◌}
use mathlib.Core.Bool.{Bool, true, false, not}
use Rattle.labels.specs.Labels.{label_count}
use Rattle.fusing.proofs.Marks.{idle-told, no-rule-idle, no-atom-idle}
use Rattle.fusing.proofs.is_idle.Goals as goal

none : (b : Bool) → not b ≡ true → b ≡ false
none true e = sym e
none false e = refl

pub returns-then-not-has_mark : goal.returns-then-not-has_mark
returns-then-not-has_mark c =
    λ u. idle-told label_count _ _ _ _ _ c.in-Connect.is (no-rule-idle label_count _ _ _ _ (sym c.has_mark.ensures ∙ none c.has_mark.result (ap not c.if-not-has_mark.true)))

pub returns : goal.returns
returns c =
    λ u. idle-told label_count _ _ _ _ _ c.in-Connect.is (no-atom-idle label_count _ _ _ _ (sym c.has_mark-2.ensures ∙ c.if-has_mark.false) (sym c.has_mark-3.ensures ∙ none c.has_mark-3.result u))
