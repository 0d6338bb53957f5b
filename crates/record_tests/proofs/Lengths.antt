-- A running record that is passed has eight counts. Assumes nothing.
use mathlib.Core.Path.{◌≡◌}
use mathlib.Core.List.{List}
use lib.ListN.{length}
use mir.Val.{Val}
use denote.Laws.{Is}
use denote.Struct.Declared.{row}
use denote.Struct.Laws.{owed}
use Rattle.expression.specs.Limits.{depth_limit}
use Rattle.records.specs.declared.Record.{Record}
use Rattle.records.specs.contracts.Record.{the_type}
use Rattle.records.proofs.Record.TheLaws.{the_laws}

pub eight : (r : Record) (vs : List Val) → Is (row the_type) r vs → length r.counts ≡ depth_limit
eight r vs h = (owed the_type the_laws r vs h).1.1.0.1.0.1
