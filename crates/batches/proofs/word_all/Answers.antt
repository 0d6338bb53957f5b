-- `batches::word_all`: by the word's size.
use mathlib.Core.Path.{ap₂, ◌∙◌}
use mathlib.Core.List.{List, ◌∷◌}
use Prim.Native.Nat.{ℕ}
use native.Mathlib.Omega.{arith}
use Rattle.labels.specs.Labels.{label_count}
use Rattle.batches.proofs.Steps.{suits-word}
use Rattle.batches.proofs.Words.{command-made, judge-made}
use Rattle.batches.proofs.word_all.Goals as goal

pub step_words-requires : goal.step_words-requires
step_words-requires c = rw c.command_of-c.ensures (suits-word label_count (omega arith) _)

pub step_triple-requires : goal.step_triple-requires
step_triple-requires c = rw c.command_of-c.ensures (suits-word label_count (omega arith) _)

pub returns-then-w-lt-JUDGES : goal.returns-then-w-lt-JUDGES
returns-then-w-lt-JUDGES c =
    ap₂ {C = List ℕ} (λ y m. y ∷ m) c.step_triple.ensures c.step_words.ensures ∙ command-made label_count c.args.w c.args.q c.args.run.now _ c.command_of-c.ensures c.if-w-lt-JUDGES.true

pub returns : goal.returns
returns c =
    ap₂ {C = List ℕ} (λ y m. y ∷ m) c.judge_triple.ensures c.judge_words.ensures ∙ judge-made label_count c.args.w c.args.q c.args.run.now _ c.judge_of-j.ensures.0 (omega (arith, c.if-w-lt-JUDGES.false))
