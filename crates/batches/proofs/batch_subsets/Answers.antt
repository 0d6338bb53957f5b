-- `batches::batch_subsets`: the triples are copied, in whole blocks, stepped where they stand, and put in order.
use mathlib.Core.Path.{refl, sym}
use lib.Seq.{length-take-le}
use Rattle.labels.specs.Labels.{label_count}
use Rattle.batches.proofs.Gathering.{made_pair}
use Rattle.batches.proofs.batch_subsets.Goals as goal

pub returns : goal.returns
returns c =
    (c.settle-count.ensures.0, made_pair label_count c.args.code.now c.args.q _ c.settle-count.result c.args.n c.in_blocks-k.result c.args.src.now c.args.run.now c.copy_words.new.part c.step_all-own.new.run _ c.settle-count.new.run c.in_blocks-k.ensures.0 (sym (length-take-le c.in_blocks-k.result c.args.src.now c.in_blocks-k.ensures.1)) c.copy_words.ensures c.step_all-own.ensures c.step_all-own.auto.run refl c.settle-count.ensures.1)
