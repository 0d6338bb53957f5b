-- `batches::step_all`: the words left, on the triples at hand, lead to what all of them make.
use native.Mathlib.Omega.{arith}
use Rattle.labels.specs.Labels.{label_count}
use Rattle.batches.proofs.Words.{next_word, no_words}
use Rattle.batches.proofs.step_all.Goals as goal

pub loop-w-preserved : goal.loop-w-preserved
loop-w-preserved c = next_word label_count _ _ _ c.loop-w-test.true _ _ c.loop-w.invariant c.word_all-own.ensures

pub returns : goal.returns
returns c = no_words label_count _ c.loop-w.w-index (omega arith) _ _ c.loop-w.invariant
