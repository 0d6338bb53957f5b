-- `fusing::lighter`: one test after the other.
use mathlib.Core.Path.{◌≡◌, refl, sym, ◌∙◌}
use native.Mathlib.Omega.{arith}
use Rattle.labels.specs.Labels.{label_count}
use Rattle.batches.specs.Batches.{is_met}
use Rattle.fusing.proofs.Leaving.{left-to}
use Rattle.fusing.proofs.Words.{both-judged, three-false}
use Rattle.fusing.proofs.lighter.Goals as goal

pub returns : goal.returns
unfolding is_met
returns c =
    let f = c.judge_of-j.ensures.1 in
    let i0 : c.judge_of-i.result.leaves ≡ 0 = omega (arith, c.if-i-j-ne0.false) in
    let j0 : c.judge_of-j.result.leaves ≡ 0 = omega (arith, c.if-i-j-ne0.false) in
    let a = three-false _ _ _ (sym c.speaks_of.ensures ∙ c.if-speaks_of.false) in
    let b = three-false _ _ _ (sym c.speaks_of-2.ensures ∙ c.if-speaks_of-2.false) in
    λ p q r. both-judged label_count _ _ _ (omega (arith, c.if-a-lt-JUDGES.false)) (omega (arith, c.if-b-lt-JUDGES.false)) c.judge_word.ensures.0 _ _ _ c.judge_of-i.ensures.0 c.judge_of-j.ensures.0 c.judge_word.ensures.1 q r
    (left-to label_count _ _ f.2 f.3 c.if-j.false _ f.0 f.1 a.0 a.1 a.2 b.0 b.1 b.2 c.judge_of-i.result _ c.if-i-j.false c.if-i-j-2.false i0 c.if-i-j-2.false (λ z. omega (arith, z)) refl refl j0 q r (λ t. refl))
