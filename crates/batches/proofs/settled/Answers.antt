-- `batches::settled`: the mark is taken out, and put in where the rule is unmet.
use Rattle.labels.specs.Labels.{label_count}
use Rattle.batches.proofs.Words.{mark-settled}
use Rattle.batches.proofs.settled.Goals as goal

pub returns : goal.returns
returns c = mark-settled label_count _ _ _ _ _ _ _ _ c.without_rule.ensures c.with_unmet.ensures c.map_triple.ensures
