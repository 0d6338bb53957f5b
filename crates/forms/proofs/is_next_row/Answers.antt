-- `forms::is_next_row`: what is a row can be read. Assumes nothing.
use mathlib.Core.Path.{sym, ◌∙◌}
use Rattle.labels.specs.Labels.{label_count}
use Rattle.forms.proofs.Found.{row-readable}
use Rattle.forms.proofs.is_next_row.Goals as goal

pub compare_rows-requires-clause-readable_2 : goal.compare_rows-requires-clause-readable_2
compare_rows-requires-clause-readable_2 c = row-readable label_count _ (sym c.is_row.ensures ∙ c.if-is_row.true)
