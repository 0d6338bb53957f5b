-- `table_forms::is_table`: the rows left, after the pair of the row before them, tell of the whole table. Assumes nothing.
use mathlib.Core.Path.{◌≡◌}
use Prim.Native.Nat.{◌-◌, ◌*◌}
use Rattle.labels.specs.Labels.{label_count}
use Rattle.candidates.specs.Candidates.{Readable}
use Rattle.rows.specs.Parts.{part}
use Rattle.forms.specs.Forms.{is_table}
use Rattle.table_forms.proofs.Areas.{rest}
use Rattle.table_forms.proofs.is_table.Given as goal

abbrev pub invariant-loop-i : goal.invariant-loop-i
invariant-loop-i l =
    Readable (part (l.i * l.w - l.w) l.w l.area) × (rest label_count l.w l.p l.n l.area l.i ≡ is_table label_count l.w l.p l.n l.area)
