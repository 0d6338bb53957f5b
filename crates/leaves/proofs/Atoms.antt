-- The next atom, resolved: its entries are the leaf's, and words keep its values. Assumes nothing.
use mathlib.Core.Path.{◌≡◌, refl, ap₂}
use mathlib.Core.Bool.{Bool, true, false, cond, not}
use mathlib.Core.List.{List, [], ◌∷◌, ◌++◌}
use Prim.Native.Nat.{ℕ}
use Rattle.expression.specs.declared.NewAtom.{NewAtom}
use Rattle.semantics.specs.AnswerSets.{Assumptions}
use Rattle.tables.specs.Algebras.{leaf}
use Rattle.tables.specs.Definitions.{pairs, flat}
use Rattle.values.specs.Values.{valued}
use Rattle.entries.specs.declared.Carry.{Carry}
use Rattle.entries.specs.Carries.{Entry}
use Rattle.leaves.specs.declared.Atom.{Atom}
use Rattle.leaves.specs.declared.Tables.{Tables}
use Rattle.leaves.specs.declared.Tables.TheVariants.{Plain, Pairs}
use Rattle.leaves.specs.Leaves.{algebra_of, table_algebra, atom_at, Resolved, leaf_entries, KeepsBoth}
use Rattle.leaves.proofs.Writing.{keeps-present, keeps-zero, absent-value}

-- the test turned round
cond-not : (b : Bool) (x : Entry) → cond (not b) (x ∷ []) [] ≡ cond b [] (x ∷ [])
cond-not true x = refl
cond-not false x = refl

-- a leaf has no other entries
pub leaf-entries : (kind : Tables) (carry : Carry) (o : Assumptions) (c : ℕ) (g : NewAtom) → leaf_entries kind (atom_at carry o c) g ≡ leaf (table_algebra kind carry) o c g
unfolding leaf_entries atom_at leaf table_algebra algebra_of valued pairs flat
leaf-entries Plain carry o c g = ap₂ {C = List Entry} ◌++◌ (cond-not (o.falses c) _) (cond-not (o.trues c) _)
leaf-entries Pairs carry o c g = ap₂ {C = List Entry} ◌++◌ (cond-not (o.falses c) _) (cond-not (o.trues c) _)

pub keeps-both : (carry : Carry) {x : Atom} → Resolved carry x → KeepsBoth carry x
unfolding atom_at
keeps-both carry (o, c, e) = rw e (keeps-present carry c, rw (absent-value carry c) (keeps-zero carry))
