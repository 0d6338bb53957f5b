-- `operations::push_atom`: the atom's table is made in the free area behind the tables, and its values moved to their place.
use mathlib.Core.Path.{◌≡◌}
use mathlib.Core.List.{List}
use Prim.Native.Nat.{ℕ, ◌+◌, ◌-◌, ◌≤◌}
use Rattle.rows.specs.Parts.{put}
use Rattle.making.specs.Making.{table_of_all}
use Rattle.leaves.specs.Leaves.{leaf_entries}
use Rattle.workspace.specs.Workspace.{placed}
use Rattle.operands.specs.Operands.{Loaded, Acts}
use Rattle.operations.specs.Operations.{pushed}
use Rattle.operands.proofs.Loads.{scratch-zero, free-zero}
use Rattle.leaves.proofs.Writing.{wide-two}
use Rattle.operations.proofs.Pushing.{one-fits, new-fits, scratch-fits, new-below, no-values, pushed-acted, leaf-filled, leaf-ordered}
use native.Mathlib.Omega.{arith}
use Rattle.operations.proofs.push_atom.Goals as goal

pub overflow_mul-area : goal.overflow_mul-area
overflow_mul-area c =
    let held : Loaded c.args.carry c.args.d c.args.w c.args.p c.args.t c.requires.t_bound.1.0 c.requires.t_bound.1.1 c.requires.t_bound.1.2.0 c.requires.t_bound.1.2.1 c.args.ws.now c.args.vals.now = c.requires.t_bound.1.2.2 in
    omega (arith, one-fits held c.requires.t_bound.0)

pub overflow_mul-t : goal.overflow_mul-t
overflow_mul-t c =
    let held : Loaded c.args.carry c.args.d c.args.w c.args.p c.args.t c.requires.t_bound.1.0 c.requires.t_bound.1.1 c.requires.t_bound.1.2.0 c.requires.t_bound.1.2.1 c.args.ws.now c.args.vals.now = c.requires.t_bound.1.2.2 in
    omega (arith, new-fits held c.requires.t_bound.0)

pub overflow_mul-d : goal.overflow_mul-d
overflow_mul-d c =
    let held : Loaded c.args.carry c.args.d c.args.w c.args.p c.args.t c.requires.t_bound.1.0 c.requires.t_bound.1.1 c.requires.t_bound.1.2.0 c.requires.t_bound.1.2.1 c.args.ws.now c.args.vals.now = c.requires.t_bound.1.2.2 in
    omega (arith, scratch-fits held c.requires.t_bound.0)

pub atom_table-r-requires-clause-w_bound : goal.atom_table-r-requires-clause-w_bound
atom_table-r-requires-clause-w_bound c =
    let held : Loaded c.args.carry c.args.d c.args.w c.args.p c.args.t c.requires.t_bound.1.0 c.requires.t_bound.1.1 c.requires.t_bound.1.2.0 c.requires.t_bound.1.2.1 c.args.ws.now c.args.vals.now = c.requires.t_bound.1.2.2 in
    (new-below held c.requires.t_bound.0, scratch-fits held c.requires.t_bound.0)

pub atom_table-r-requires-clause-ws_value : goal.atom_table-r-requires-clause-ws_value
atom_table-r-requires-clause-ws_value c =
    let held : Loaded c.args.carry c.args.d c.args.w c.args.p c.args.t c.requires.t_bound.1.0 c.requires.t_bound.1.1 c.requires.t_bound.1.2.0 c.requires.t_bound.1.2.1 c.args.ws.now c.args.vals.now = c.requires.t_bound.1.2.2 in
    let from : ℕ = c.values_from-made.result in
    let many : ℕ = c.words_of-k.result in
    (free-zero held, scratch-zero held, c.requires.wide.4, no-values held c.requires.t_bound.0 from many c.values_from-made.ensures c.words_of-k.ensures)

pub returns-then-r-p : goal.returns-then-r-p
returns-then-r-p c =
    let from : ℕ = c.values_from-made.result in
    let many : ℕ = c.words_of-k.result in
    let new : List ℕ = c.atom_table-r.new.vals in
    let after : List ℕ = put from (from + many - from) c.args.vals.now new in
    let done : (vals' : List ℕ) → (c.atom_table-r.result ≤ c.args.p → vals' ≡ placed c.args.carry c.args.d c.args.p c.args.t c.atom_table-r.result after) → (n m : ℕ) → Acts c.args.carry c.args.d c.args.w c.args.p c.args.t n m (pushed (table_of_all c.args.carry (leaf_entries c.args.tables c.args.atom c.args.new))) c.atom_table-r.result c.args.ws.now c.args.vals.now c.atom_table-r.new.ws vals' = λ vals' moved x y. pushed-acted (wide-two c.args.tables c.args.w c.requires.wide.0) c.requires.t_bound.0 from many c.values_from-made.ensures c.words_of-k.ensures new c.atom_table-r.auto.vals c.atom_table-r.ensures.finished (leaf-filled c.args.tables c.args.atom c.args.new) (leaf-ordered c.args.tables c.args.atom c.args.new) moved in
    done _ (λ l. c.move_values.ensures)

pub returns-else-r-p : goal.returns-else-r-p
returns-else-r-p c =
    let from : ℕ = c.values_from-made.result in
    let many : ℕ = c.words_of-k.result in
    let new : List ℕ = c.atom_table-r.new.vals in
    let after : List ℕ = put from (from + many - from) c.args.vals.now new in
    let done : (vals' : List ℕ) → (c.atom_table-r.result ≤ c.args.p → vals' ≡ placed c.args.carry c.args.d c.args.p c.args.t c.atom_table-r.result after) → (n m : ℕ) → Acts c.args.carry c.args.d c.args.w c.args.p c.args.t n m (pushed (table_of_all c.args.carry (leaf_entries c.args.tables c.args.atom c.args.new))) c.atom_table-r.result c.args.ws.now c.args.vals.now c.atom_table-r.new.ws vals' = λ vals' moved x y. pushed-acted (wide-two c.args.tables c.args.w c.requires.wide.0) c.requires.t_bound.0 from many c.values_from-made.ensures c.words_of-k.ensures new c.atom_table-r.auto.vals c.atom_table-r.ensures.finished (leaf-filled c.args.tables c.args.atom c.args.new) (leaf-ordered c.args.tables c.args.atom c.args.new) moved in
    done _ (λ l. absurd (omega (arith, c.if-r-p.false)))
