-- `batches::word_of`: by the command's form.
use mathlib.Core.Path.{refl, sym, ◌∙◌}
use Rattle.labels.specs.Labels.{label_count}
use Rattle.candidates.proofs.Mapping.{relabel-labels}
use Rattle.batches.proofs.Steps.{rule-label, rule-word, relabel-word}
use Rattle.batches.proofs.word_of.Goals as goal

pub returns-in-Rule : goal.returns-in-Rule
returns-in-Rule c = rule-word label_count _ (rule-label label_count _ c.in-Rule.is c.requires.0) ∙ sym c.in-Rule.is

pub returns-in-Relabel : goal.returns-in-Relabel
returns-in-Relabel c =
    let labels = relabel-labels label_count _ c.in-Relabel.is c.requires.0 in
    relabel-word label_count _ _ _ labels.0 labels.1 refl ∙ sym c.in-Relabel.is
