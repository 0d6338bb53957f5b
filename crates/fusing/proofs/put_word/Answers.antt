-- `fusing::put_word`: in place of the last word, not at all, or behind it.
use mathlib.Core.Path.{sym, ap, ◌∙◌}
use native.Mathlib.Omega.{arith}
use lib.ListN.{take}
use Rattle.labels.specs.Labels.{label_count}
use Rattle.expression.specs.declared.Command.{Command}
use Rattle.batches.specs.Batches.{command_of, step, word_steps}
use Rattle.batches.proofs.Steps.{suits-word}
use Rattle.fusing.proofs.Fusing.{put_last, put-behind}
use Rattle.fusing.proofs.Marks.{step-idle}
use Rattle.fusing.proofs.put_word.Goals as goal

pub joined-s-requires : goal.joined-s-requires
joined-s-requires c = rw c.requires.1 (suits-word label_count (omega arith) _)

pub returns-then-s-gt0 : goal.returns-then-s-gt0
returns-then-s-gt0 c =
    (omega arith, λ x h. put_last label_count c.args.code.now c.args.m _ c.args.c x c.if-m-gt0.true (omega (arith, c.requires.0)) (c.joined-s.ensures c.if-s-gt0.true))

pub is_idle-requires : goal.is_idle-requires
is_idle-requires c = rw c.requires.1 (suits-word label_count (omega arith) _)

pub returns-then-is_idle : goal.returns-then-is_idle
returns-then-is_idle c =
    (omega arith, λ x h. step-idle label_count c.args.c c.args.marks (c.is_idle.ensures c.if-is_idle.true) (word_steps label_count (take c.args.m c.args.code.now) x) h)

pub returns : goal.returns
returns c =
    (omega arith, λ x h. put-behind label_count c.args.code.now c.args.m _ (command_of label_count c.args.w) x c.requires.0 c.alone.ensures ∙ ap (λ (e : Command). step label_count e (word_steps label_count (take c.args.m c.args.code.now) x)) (sym c.requires.1))
