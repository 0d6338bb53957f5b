-- `leaf_tables::atom_table`: the candidates are put in, the table is settled.
use native.Mathlib.Omega.{arith}
use Rattle.making.proofs.Settling.{starts, after-puts, after-all, finished, stepped-indexed, stepped-rows}
use Rattle.leaves.proofs.Writing.{wide-two}
use Rattle.leaf_tables.proofs.Leaves.{no_rows}
use Rattle.leaf_tables.proofs.atom_table.Goals as goal

pub put_leaf-r-requires-clause-next : goal.put_leaf-r-requires-clause-next
put_leaf-r-requires-clause-next c =
    starts c.requires.ws_value.1 c.requires.ws_value.2 c.requires.ws_value.3 _

pub settle-requires-clause-rows : goal.settle-requires-clause-rows
settle-requires-clause-rows c =
    let all_in = after-all c.requires.ws_value.1 c.requires.ws_value.2 c.requires.ws_value.3 (wide-two c.args.tables c.args.w c.requires.wide.0) c.put_leaf-r.ensures in
    stepped-rows all_in c.args.at 0 c.requires.w_bound.0 (omega (arith, c.requires.w_bound.1)) (no_rows c.args.w c.args.p _ c.requires.ws_value.0)

pub settle-requires-clause-indexed : goal.settle-requires-clause-indexed
settle-requires-clause-indexed c =
    stepped-indexed (after-all c.requires.ws_value.1 c.requires.ws_value.2 c.requires.ws_value.3 (wide-two c.args.tables c.args.w c.requires.wide.0) c.put_leaf-r.ensures)

pub returns-clause-finished : goal.returns-clause-finished
returns-clause-finished c =
    let all_in = after-all c.requires.ws_value.1 c.requires.ws_value.2 c.requires.ws_value.3 (wide-two c.args.tables c.args.w c.requires.wide.0) c.put_leaf-r.ensures in
    finished c.requires.w_bound.0 c.requires.w_bound.1 c.requires.ws_value.1 all_in c.settle.ensures

pub returns-clause-upper_bound : goal.returns-clause-upper_bound
returns-clause-upper_bound c =
    let made = after-puts c.requires.ws_value.1 c.requires.ws_value.2 c.requires.ws_value.3 c.put_leaf-r.ensures in
    made.bound
