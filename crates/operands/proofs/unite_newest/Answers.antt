-- `operands::unite_newest`: the two newest tables are united, and the values moved to the older one's place.
use mathlib.Core.Path.{◌≡◌, refl, ap, ◌∙◌}
use mathlib.Core.List.{List}
use Prim.Native.Nat.{ℕ, ◌+◌, ◌-◌, ◌*◌, ◌≤◌, ◌<◌}
use lib.ListN.{length}
use Rattle.entries.specs.Carries.{Entry, in_words}
use Rattle.semantics.specs.Expressions.{unite_newest}
use Rattle.rows.specs.Parts.{Apart}
use Rattle.rows.proofs.Tables.{row_within}
use Rattle.workspace.specs.Workspace.{values_from, placed, Acted}
use Rattle.operands.specs.Operands.{Loaded, united_table}
use Rattle.operands.proofs.Loads.{values-apart, none_made, below, inside, area-behind, scratch-zero, newer-stands, older-stands, stands-rows}
use Rattle.operands.proofs.Uniting.{united-acted}
use native.Mathlib.Omega.{arith}
use Rattle.operands.proofs.unite_newest.Goals as goal

pub unite_tables-r-requires-clause-w_bound : goal.unite_tables-r-requires-clause-w_bound
unite_tables-r-requires-clause-w_bound c =
    let held : Loaded c.args.carry c.args.d c.args.w c.args.p c.args.t c.args.n c.args.m c.requires.le_t.1.0 c.requires.le_t.1.1 c.args.ws.now c.args.vals.now = c.requires.le_t.1.2 in
    let k : ℕ = c.args.p * c.args.w in
    let i : ℕ = c.args.t - 2 in
    let deep : i + 1 < c.args.d - 1 = omega (arith, below held, c.requires.le_t.0) in
    let behind : i * k + k ≡ (c.args.t - 1) * k = area-behind held i (c.args.t - 1) (omega (arith, c.requires.le_t.0)) in
    let A = older-stands c.requires.le_t.1.0 held c.requires.le_t.0 in
    let B = newer-stands c.requires.le_t.1.0 held (omega (arith, c.requires.le_t.0)) in (omega arith, omega (arith, behind, row_within (c.args.t - 1) (c.args.d - 1) k (omega (arith, deep))), omega (arith, inside held (c.args.d - 1) (omega (arith, deep))))

pub unite_tables-r-requires-clause-rows : goal.unite_tables-r-requires-clause-rows
unite_tables-r-requires-clause-rows c =
    let held : Loaded c.args.carry c.args.d c.args.w c.args.p c.args.t c.args.n c.args.m c.requires.le_t.1.0 c.requires.le_t.1.1 c.args.ws.now c.args.vals.now = c.requires.le_t.1.2 in
    let k : ℕ = c.args.p * c.args.w in
    let i : ℕ = c.args.t - 2 in
    let behind : i * k + k ≡ (c.args.t - 1) * k = area-behind held i (c.args.t - 1) (omega (arith, c.requires.le_t.0)) in
    let deep : i + 1 < c.args.d - 1 = omega (arith, below held, c.requires.le_t.0) in
    let left : ℕ = c.values_from-left.result in
    let made : ℕ = c.values_from-made.result in
    let left-apart : Apart left made (in_words c.args.carry c.args.p) (length c.args.vals.now) = values-apart held.holds.roomy i (omega (arith, deep)) left made c.values_from-left.ensures c.values_from-made.ensures in
    let right : ℕ = c.values_from-right.result in
    let is_right : right ≡ values_from c.args.carry c.args.p (c.args.t - 1) = c.values_from-right.ensures ∙ ap (values_from c.args.carry c.args.p) (let z : i + 1 ≡ c.args.t - 1 = omega (arith, c.requires.le_t.0) in z) in
    let right-apart : Apart right made (in_words c.args.carry c.args.p) (length c.args.vals.now) = values-apart held.holds.roomy (c.args.t - 1) (omega (arith, deep)) right made is_right c.values_from-made.ensures in
    let A = older-stands c.requires.le_t.1.0 held c.requires.le_t.0 in
    let B = newer-stands c.requires.le_t.1.0 held (omega (arith, c.requires.le_t.0)) in (stands-rows A (i * k) c.args.m refl held.older, stands-rows B (i * k + k) c.args.n behind held.newer, left-apart, right-apart)

pub unite_tables-r-requires-clause-ws_value : goal.unite_tables-r-requires-clause-ws_value
unite_tables-r-requires-clause-ws_value c =
    let held : Loaded c.args.carry c.args.d c.args.w c.args.p c.args.t c.args.n c.args.m c.requires.le_t.1.0 c.requires.le_t.1.1 c.args.ws.now c.args.vals.now = c.requires.le_t.1.2 in
    let made : ℕ = c.values_from-made.result in
    let A = older-stands c.requires.le_t.1.0 held c.requires.le_t.0 in
    let B = newer-stands c.requires.le_t.1.0 held (omega (arith, c.requires.le_t.0)) in (scratch-zero held, c.requires.le_w.5, none_made held.holds.roomy made c.values_from-made.ensures)

pub returns-then-r-p : goal.returns-then-r-p
returns-then-r-p c =
    let k : ℕ = c.args.p * c.args.w in
    let i : ℕ = c.args.t - 2 in
    let held : Loaded c.args.carry c.args.d c.args.w c.args.p c.args.t c.args.n c.args.m c.requires.le_t.1.0 c.requires.le_t.1.1 c.args.ws.now c.args.vals.now = c.requires.le_t.1.2 in
    let behind : i * k + k ≡ (c.args.t - 1) * k = area-behind held i (c.args.t - 1) (omega (arith, c.requires.le_t.0)) in
    let left : ℕ = c.values_from-left.result in
    let right : ℕ = c.values_from-right.result in
    let is_right : right ≡ values_from c.args.carry c.args.p (c.args.t - 1) = c.values_from-right.ensures ∙ ap (values_from c.args.carry c.args.p) (let z : i + 1 ≡ c.args.t - 1 = omega (arith, c.requires.le_t.0) in z) in
    let done : (vals' : List ℕ) → (c.unite_tables-r.result ≤ c.args.p → vals' ≡ placed c.args.carry c.args.d c.args.p i c.unite_tables-r.result c.unite_tables-r.new.vals) → (ts : List (List Entry)) (beyond : List ℕ) → Loaded c.args.carry c.args.d c.args.w c.args.p c.args.t c.args.n c.args.m ts beyond c.args.ws.now c.args.vals.now → Acted c.args.carry c.args.d c.args.w c.args.p (unite_newest (united_table c.args.carry) ts) beyond c.unite_tables-r.result c.args.ws.now c.unite_tables-r.new.ws vals' = λ vals' moved ts beyond h. let E = rw c.values_from-made.ensures at c.unite_tables-r.ensures in united-acted (record { long = c.unite_tables-r.auto.vals; only = E.only_area; moved = moved }) c.requires.le_w.0 c.requires.le_t.0 (i * k) (i * k + k) left right refl behind c.values_from-left.ensures is_right E.finished ts h in
    done _ (λ l. c.move_values.ensures)

pub returns-else-r-p : goal.returns-else-r-p
returns-else-r-p c =
    let k : ℕ = c.args.p * c.args.w in
    let i : ℕ = c.args.t - 2 in
    let held : Loaded c.args.carry c.args.d c.args.w c.args.p c.args.t c.args.n c.args.m c.requires.le_t.1.0 c.requires.le_t.1.1 c.args.ws.now c.args.vals.now = c.requires.le_t.1.2 in
    let behind : i * k + k ≡ (c.args.t - 1) * k = area-behind held i (c.args.t - 1) (omega (arith, c.requires.le_t.0)) in
    let left : ℕ = c.values_from-left.result in
    let right : ℕ = c.values_from-right.result in
    let is_right : right ≡ values_from c.args.carry c.args.p (c.args.t - 1) = c.values_from-right.ensures ∙ ap (values_from c.args.carry c.args.p) (let z : i + 1 ≡ c.args.t - 1 = omega (arith, c.requires.le_t.0) in z) in
    let done : (vals' : List ℕ) → (c.unite_tables-r.result ≤ c.args.p → vals' ≡ placed c.args.carry c.args.d c.args.p i c.unite_tables-r.result c.unite_tables-r.new.vals) → (ts : List (List Entry)) (beyond : List ℕ) → Loaded c.args.carry c.args.d c.args.w c.args.p c.args.t c.args.n c.args.m ts beyond c.args.ws.now c.args.vals.now → Acted c.args.carry c.args.d c.args.w c.args.p (unite_newest (united_table c.args.carry) ts) beyond c.unite_tables-r.result c.args.ws.now c.unite_tables-r.new.ws vals' = λ vals' moved ts beyond h. let E = rw c.values_from-made.ensures at c.unite_tables-r.ensures in united-acted (record { long = c.unite_tables-r.auto.vals; only = E.only_area; moved = moved }) c.requires.le_w.0 c.requires.le_t.0 (i * k) (i * k + k) left right refl behind c.values_from-left.ensures is_right E.finished ts h in
    done _ (λ l. absurd (omega (arith, c.if-r-p.false)))
