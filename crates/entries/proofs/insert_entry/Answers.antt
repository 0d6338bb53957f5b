-- `entries::insert_entry`: the value follows the row.
use Rattle.std.proofs.Common.{refl}
use Rattle.entries.proofs.Entering.{entry_new, entry_old, entry-full, old-place, new-place}
use Rattle.entries.proofs.insert_entry.Goals as goal

pub push_value-requires-clause-k_le_m : goal.push_value-requires-clause-k_le_m
push_value-requires-clause-k_le_m c =
    new-place c.args.carry _ _ _ _ c.args.v _ _ c.args.vals.now _ _ c.args.vals.now c.requires.indexed c.requires.kept.0 _ (rw c.in-New.is at c.insert_row-r.ensures)

pub merge_value-requires-clause-k_lt_m : goal.merge_value-requires-clause-k_lt_m
merge_value-requires-clause-k_lt_m c =
    (old-place c.args.carry _ _ _ _ c.args.v _ _ c.args.vals.now _ _ c.args.vals.now c.requires.indexed c.requires.kept.0 _ (rw c.in-Old.is at c.insert_row-r.ensures), c.requires.indexed.room)

pub returns-in-New : goal.returns-in-New
returns-in-New c =
    entry_new c.args.carry _ _ _ _ c.args.v _ _ c.args.vals.now _ _ _ c.requires.indexed c.requires.kept.0 _ (rw c.in-New.is at c.insert_row-r.ensures) c.push_value.ensures.0 c.push_value.ensures.1

pub returns-in-Old : goal.returns-in-Old
returns-in-Old c =
    entry_old c.args.carry _ _ _ _ c.args.v _ _ c.args.vals.now _ _ _ c.requires.indexed c.requires.kept.0 _ (rw c.in-Old.is at c.insert_row-r.ensures) c.merge_value.ensures.0 c.merge_value.ensures.1

pub returns-in-Full : goal.returns-in-Full
returns-in-Full c =
    entry-full c.args.carry _ _ _ _ c.args.v _ _ c.args.vals.now _ _ _ c.requires.indexed c.requires.kept.0 (rw c.in-Full.is at c.insert_row-r.ensures) refl
