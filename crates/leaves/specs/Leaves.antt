-- The entries of the leaves of an expression, by which tables are made and what is carried. Assumes nothing.
use Rattle.std.specs.Prelude.{◌≡◌, cond, not, List, [], ◌∷◌, ◌++◌, ℕ, ◌≤◌}
use Rattle.labels.specs.Labels.{label_count}
use Rattle.expression.specs.declared.NewAtom.{NewAtom}
use Rattle.semantics.specs.AnswerSets.{Assumptions}
use Rattle.tables.specs.Algebras.{Algebra}
use Rattle.tables.specs.Definitions.{Pair, pairs, flat}
use Rattle.values.specs.Values.{valued}
use Rattle.entries.specs.declared.Carry.{Carry}
use Rattle.entries.specs.Carries.{Entry, carried_by, Keeps}
use Rattle.leaves.specs.declared.Atom.{Atom}
use Rattle.leaves.specs.declared.Tables.{Tables}
use Rattle.leaves.specs.declared.Tables.TheVariants.{Plain, Pairs}

-- the tables of Definition 5, or of Definition 8
unfoldable pub algebra_of : Tables → ℕ → Algebra Pair
algebra_of Plain K = flat K
algebra_of Pairs K = pairs K

-- the same with values beside the pairs
unfoldable pub table_algebra : Tables → Carry → Algebra Entry
table_algebra tables carry = valued (algebra_of tables label_count) (carried_by carry)

-- the atom c: it may be in unless it is assumed false, and out unless it is assumed true
unfoldable pub atom_at : Carry → Assumptions → ℕ → Atom
atom_at carry o c = record { may_be_in = not (o.falses c); may_be_out = not (o.trues c); value_in = (carried_by carry).present c; value_out = (carried_by carry).absent c }

-- the atom of some number, under some assumptions
abbrev pub Resolved : Carry → Atom → Type 0
Resolved carry x = (o : Assumptions) × (c : ℕ) × (x ≡ atom_at carry o c)

-- its entries, in and out: the pair goes by label and role alone, so any number will do
abbrev pub present_entry : Tables → Atom → NewAtom → Entry
present_entry tables x a = record { item = (algebra_of tables label_count).present 0 a; value = x.value_in }

abbrev pub absent_entry : Tables → Atom → NewAtom → Entry
absent_entry tables x a = record { item = (algebra_of tables label_count).absent 0 a; value = x.value_out }

-- those that it has
unfoldable pub leaf_entries : Tables → Atom → NewAtom → List Entry
leaf_entries tables x a = cond x.may_be_in (present_entry tables x a ∷ []) [] ++ cond x.may_be_out (absent_entry tables x a ∷ []) []

-- words keep both of its values
abbrev pub KeepsBoth : Carry → Atom → Type 0
KeepsBoth carry x = Keeps carry x.value_in × Keeps carry x.value_out

-- a row of w words has room for an atom: its triple, and in tables of pairs one subset
abbrev pub Wide : Tables → ℕ → Type 0
Wide Plain w = 2 ≤ w
Wide Pairs w = 3 ≤ w
