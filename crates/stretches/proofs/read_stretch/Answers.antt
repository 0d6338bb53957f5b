-- `stretches::read_stretch`: the words written so far stand for the commands passed.
use mathlib.Core.Path.{refl, sym, ap, ◌∙◌, subst}
use Prim.Native.Nat.{◌<◌}
use native.Mathlib.Omega.{arith}
use lib.ListN.{length, take, length-set}
use Rattle.labels.specs.Labels.{label_count}
use Rattle.expression.specs.declared.Counts.{Counts}
use Rattle.batches.specs.Batches.{commands_of}
use Rattle.stretches.specs.Stretches.{Spelt, SpeltBy, joined_counts}
use Rattle.stretches.proofs.Reading.{spelt-suits, spelt-joins, chain_more, counts-more, word_more, chain-none, counts-none}
use Rattle.stretches.proofs.read_stretch.Goals as goal

pub loop-count-init : goal.loop-count-init
loop-count-init c = (omega arith, refl, chain-none label_count _ _ _, counts-none _)

pub word_of-requires : goal.word_of-requires
word_of-requires c =
    let spelt : Spelt label_count c.args.s.now c.args.stop c.loop-count.next c.in-Some.c c.in-Some.after = subst (SpeltBy label_count c.args.s.now c.args.stop c.loop-count.next) c.in-Some.is c.joined_at.ensures in
    (spelt-suits label_count c.args.s.now c.args.stop c.loop-count.next _ c.in-Some.c spelt, spelt-joins label_count c.args.s.now c.args.stop c.loop-count.next _ c.in-Some.c spelt)

pub loop-count-preserved : goal.loop-count-preserved
loop-count-preserved c =
    let spelt : Spelt label_count c.args.s.now c.args.stop c.loop-count.next c.in-Some.c c.in-Some.after = subst (SpeltBy label_count c.args.s.now c.args.stop c.loop-count.next) c.in-Some.is c.joined_at.ensures in
    let q = c.loop-count.invariant in
    let below : c.loop-count.count < length c.loop-count.ops = omega (arith, q.1) in
    let w = word_more c.loop-count.ops c.loop-count.count _ c.in-Some.c below c.word_of.ensures in (
      simp length-set (omega (arith, below)),
      simp length-set q.1,
      rw w (chain_more label_count c.args.s.now c.args.stop c.args.at c.loop-count.next _ _ _ (omega (arith, c.if-stop-next.false)) spelt q.2),
      rw w (c.joined_counts-counts.ensures ∙ ap (λ (n : Counts). joined_counts n c.in-Some.c) q.3 ∙ sym (counts-more c.args.n c.in-Some.c (commands_of (take c.loop-count.count c.loop-count.ops)))),
    )
