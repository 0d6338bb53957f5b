-- `operations::map_newest`: the newest table is mapped and its values moved to its place.
use mathlib.Core.Path.{refl}
use Prim.Native.Nat.{ℕ, ◌+◌, ◌-◌, ◌*◌, ◌≤◌, ◌<◌}
use lib.ListN.{length}
use Rattle.rows.proofs.Tables.{row_within}
use Rattle.batches.specs.Batches.{commands_of}
use Rattle.operands.specs.Operands.{Loaded}
use Rattle.operands.proofs.Loads.{values-apart, none_made, below, inside, scratch-zero, newer-stands, stands-rows}
use Rattle.operations.proofs.Mapping.{mapped-acted}
use native.Mathlib.Omega.{arith}
use Rattle.operations.proofs.map_newest.Goals as goal

pub map_table-r-requires-clause-w_bound : goal.map_table-r-requires-clause-w_bound
map_table-r-requires-clause-w_bound c =
    let held : Loaded c.args.carry c.args.d c.args.w c.args.p c.args.t c.args.n c.requires.le_t.1.0 c.requires.le_t.1.1.0 c.requires.le_t.1.1.1 c.args.ws.now c.args.vals.now = c.requires.le_t.1.1.2 in
    let k : ℕ = c.args.p * c.args.w in
    let i : ℕ = c.args.t - 1 in
    let deep : i + 1 < c.args.d = omega (arith, below held, c.requires.le_t.0) in
    let last : (c.args.d - 1) * k + k ≤ length c.args.ws.now = inside held (c.args.d - 1) (omega (arith, deep)) in
    let S = newer-stands c.requires.le_t.1.1.0 held c.requires.le_t.0 in (omega (arith, row_within i (c.args.d - 1) k (omega (arith, deep))), omega (arith, last))

pub map_table-r-requires-clause-rows : goal.map_table-r-requires-clause-rows
map_table-r-requires-clause-rows c =
    let held : Loaded c.args.carry c.args.d c.args.w c.args.p c.args.t c.args.n c.requires.le_t.1.0 c.requires.le_t.1.1.0 c.requires.le_t.1.1.1 c.args.ws.now c.args.vals.now = c.requires.le_t.1.1.2 in
    let old : ℕ = c.values_from-old.result in
    let made : ℕ = c.values_from-made.result in
    let k : ℕ = c.args.p * c.args.w in
    let i : ℕ = c.args.t - 1 in
    let deep : i + 1 < c.args.d = omega (arith, below held, c.requires.le_t.0) in
    let S = newer-stands c.requires.le_t.1.1.0 held c.requires.le_t.0 in (stands-rows S (i * k) c.args.n refl held.newer, values-apart held.holds.roomy i deep old made c.values_from-old.ensures c.values_from-made.ensures)

pub map_table-r-requires-clause-ws_value : goal.map_table-r-requires-clause-ws_value
map_table-r-requires-clause-ws_value c =
    let held : Loaded c.args.carry c.args.d c.args.w c.args.p c.args.t c.args.n c.requires.le_t.1.0 c.requires.le_t.1.1.0 c.requires.le_t.1.1.1 c.args.ws.now c.args.vals.now = c.requires.le_t.1.1.2 in
    let made : ℕ = c.values_from-made.result in
    let S = newer-stands c.requires.le_t.1.1.0 held c.requires.le_t.0 in (scratch-zero held, c.requires.le_w.5, none_made held.holds.roomy made c.values_from-made.ensures)

pub returns : goal.returns
returns c =
    let old : ℕ = c.values_from-old.result in
    let k : ℕ = c.args.p * c.args.w in
    let i : ℕ = c.args.t - 1 in
    let E = rw c.values_from-made.ensures at c.map_table-r.ensures in
    (E.upper_bound.0, λ x ts beyond h. mapped-acted (commands_of c.args.ops.now) c.requires.le_w.0 c.requires.le_t.0 (i * k) refl (record { long = c.map_table-r.auto.vals; only = E.only_area; moved = λ l. c.move_values.ensures }) old c.values_from-old.ensures E.upper_bound.1 ts h)
