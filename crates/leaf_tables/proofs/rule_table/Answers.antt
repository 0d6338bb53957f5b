-- `leaf_tables::rule_table`: the one candidate is put in, the table is settled.
use mathlib.Core.List.{[], ◌∷◌}
use native.Mathlib.Omega.{arith}
use Rattle.values.specs.Values.{no_value}
use Rattle.making.specs.Making.{entry_of}
use Rattle.making.proofs.Settling.{starts, after-puts, after-all, finished, stepped-indexed, stepped-rows}
use Rattle.leaf_tables.proofs.Leaves.{unmet-entry, one-fits, no_rows}
use Rattle.leaf_tables.proofs.rule_table.Goals as goal

pub put_entry-m-requires-clause-next : goal.put_entry-m-requires-clause-next
put_entry-m-requires-clause-next c =
    starts c.requires.ws_value.1 c.requires.ws_value.2 c.requires.ws_value.3 (entry_of c.write_unmet.new.row no_value ∷ [])

pub settle-requires-clause-rows : goal.settle-requires-clause-rows
settle-requires-clause-rows c =
    let all_in = after-all c.requires.ws_value.1 c.requires.ws_value.2 c.requires.ws_value.3 {cands = entry_of c.write_unmet.new.row no_value ∷ []} c.requires.le_w.0 c.put_entry-m.ensures in
    stepped-rows all_in c.args.at 0 c.requires.w_bound.0 (omega (arith, c.requires.w_bound.1)) (no_rows c.args.w c.args.p _ c.requires.ws_value.0)

pub settle-requires-clause-indexed : goal.settle-requires-clause-indexed
settle-requires-clause-indexed c =
    stepped-indexed (after-all c.requires.ws_value.1 c.requires.ws_value.2 c.requires.ws_value.3 {cands = entry_of c.write_unmet.new.row no_value ∷ []} c.requires.le_w.0 c.put_entry-m.ensures)

pub returns-clause-finished : goal.returns-clause-finished
returns-clause-finished c =
    let all_in = after-all c.requires.ws_value.1 c.requires.ws_value.2 c.requires.ws_value.3 {cands = entry_of c.write_unmet.new.row no_value ∷ []} c.requires.le_w.0 c.put_entry-m.ensures in
    rw (unmet-entry c.args.tables c.args.carry c.args.g c.write_unmet.new.row c.write_unmet.ensures.1) (finished c.requires.w_bound.0 c.requires.w_bound.1 c.requires.ws_value.1 all_in c.settle.ensures)

pub returns-clause-upper_bound : goal.returns-clause-upper_bound
returns-clause-upper_bound c =
    let made = after-puts c.requires.ws_value.1 c.requires.ws_value.2 c.requires.ws_value.3 {cands = entry_of c.write_unmet.new.row no_value ∷ []} c.put_entry-m.ensures in
    let all_in = after-all c.requires.ws_value.1 c.requires.ws_value.2 c.requires.ws_value.3 {cands = entry_of c.write_unmet.new.row no_value ∷ []} c.requires.le_w.0 c.put_entry-m.ensures in
    one-fits (finished c.requires.w_bound.0 c.requires.w_bound.1 c.requires.ws_value.1 all_in c.settle.ensures) made.bound c.requires.le_w.1
