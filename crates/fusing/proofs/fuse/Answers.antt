-- `fusing::fuse`: the halves left, after the words so far, lead to what all commands make; what stands there has no marks but those seen.
use mathlib.Core.Path.{refl, ◌∙◌}
use native.Mathlib.Omega.{arith}
use lib.ListN.{take}
use Rattle.labels.specs.Labels.{label_count}
use Rattle.marks.specs.Marks.{Marked}
use Rattle.batches.specs.Batches.{word_steps}
use Rattle.fusing.proofs.Halves.{half-done, next-half, no-halves, words-grow}
use Rattle.fusing.proofs.Marks.{step-marked}
use Rattle.fusing.proofs.fuse.Goals as goal

pub loop-k-init : goal.loop-k-init
unfolding word_steps
loop-k-init c = (omega arith, omega arith, omega arith, refl, λ x h. (h, refl))

pub loop-k-preserved : goal.loop-k-preserved
loop-k-preserved c =
    let q = c.loop-k.invariant in
    let g = c.goes_back-back.ensures in
    let w = words-grow _ c.loop-k.k c.loop-k.back c.goes_back-back.result c.loop-k-test.true q.1 (λ u. (g.1 u).0) c.loop-k.m c.put_word-m.result g.0 q.2 c.put_word-m.ensures.0 in (
      w.1,
      g.0,
      w.0,
      c.lighten.auto.code ∙ c.put_word-m.auto.code ∙ q.3,
      λ x h.
          let y = q.4 x h in
          let z = c.lighten.ensures x ∙ c.put_word-m.ensures.1 x y.0 in
          let m : Marked c.marks_after-seen.result (word_steps label_count (take c.put_word-m.result c.lighten.new.code) x) = rw (c.marks_after-seen.ensures, z) (step-marked label_count c.command_in-c.result c.loop-k.seen _ y.0) in
          (m, next-half label_count _ c.args.ops.now c.loop-k.k c.loop-k-test.true c.loop-k.back c.goes_back-back.result g.0 _ _ y.1 (λ cs. half-done label_count c.loop-k.back c.goes_back-back.result c.marks_after-seen.result _ c.command_in-c.result cs _ _ q.1 g.0 (c.command_in-c.ensures.0 ∙ c.half_word-w.ensures) g.1 g.2 m z)),
    )

pub returns : goal.returns
returns c =
    (omega (arith, c.loop-k.invariant.0, c.loop-k.invariant.1, c.loop-k.invariant.2, c.loop-k.invariant.3, c.requires, c.loop-k-test.false), λ x h. no-halves label_count _ c.args.ops.now c.loop-k.k (omega (arith, c.loop-k-test.false)) c.loop-k.back _ (c.loop-k.invariant.4 x h).1)
