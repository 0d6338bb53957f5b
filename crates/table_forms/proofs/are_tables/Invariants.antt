-- `table_forms::are_tables`: the tables left tell of all of them. Assumes nothing.
use mathlib.Core.Path.{◌≡◌}
use Rattle.labels.specs.Labels.{label_count}
use Rattle.forms.specs.Forms.{are_tables}
use Rattle.table_forms.proofs.Areas.{later}
use Rattle.table_forms.proofs.are_tables.Given as goal

abbrev pub invariant-loop-i : goal.invariant-loop-i
invariant-loop-i l =
    later label_count l.w l.p l.counts l.ws l.i ≡ are_tables label_count l.w l.p l.counts l.ws
