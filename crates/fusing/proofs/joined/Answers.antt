-- `fusing::joined`: by the command's form.
use mathlib.Core.Path.{refl, sym, ◌∙◌}
use native.Mathlib.Omega.{arith}
use Rattle.labels.specs.Labels.{label_count}
use Rattle.candidates.proofs.Mapping.{connect-labels}
use Rattle.batches.specs.Batches.{is_met}
use Rattle.fusing.proofs.Words.{connect-fused, relabel-fused}
use Rattle.fusing.proofs.joined.Goals as goal

pub returns-else-g-j : goal.returns-else-g-j
returns-else-g-j c =
    let v = c.with_atoms.ensures in
    let el = sym c.if-g-j.false in
    let ea = sym c.if-j.false ∙ el in
    let ez = c.if-j-ne0.false in
    λ p q r. connect-fused label_count _ _ (omega (arith, c.if-w-lt-JUDGES.false)) c.judge_of-j.ensures.0 _ _ c.judge_word.ensures.0 c.judge_word.ensures.1 _ el ea ez (v.3 ∙ ez) _ q r _ _ c.in-Connect.is (connect-labels label_count _ c.in-Connect.is c.requires).0 (v.1 ∙ el) (v.2 ∙ ea) (v.4 q r)

pub returns-else-g-j-2 : goal.returns-else-g-j-2
unfolding is_met
returns-else-g-j-2 c =
    let el = sym c.if-g-j-2.false in
    let ea = sym c.if-j.false ∙ el in
    let ez = c.if-j-ne0.false in
    λ p q r. relabel-fused label_count _ _ (omega (arith, c.if-w-lt-JUDGES.false)) c.judge_of-j.ensures.0 _ _ c.judge_word-in-Relabel.ensures.0 c.judge_word-in-Relabel.ensures.1 _ el ea ez ez _ q r _ c.in-Relabel.is el refl refl
