-- The candidates of a leaf as rows give them, the table of one entry, and the table of none. Assumes nothing.
use mathlib.Core.Path.{◌≡◌, refl, sym, ap, ◌∙◌}
use mathlib.Core.Bool.{cond}
use mathlib.Core.List.{List, [], ◌∷◌, ◌++◌, append_assoc}
use Prim.Native.Nat.{ℕ, ◌+◌, ◌*◌, ◌≤◌}
use native.Mathlib.Decide.{dec_le}
use native.Mathlib.Omega.{arith}
use lib.ListN.{length}
use Rattle.lists.specs.Sorted.{canon, insert_all, insert}
use Rattle.labels.specs.Labels.{label_count}
use Rattle.expression.specs.declared.NewAtom.{NewAtom}
use Rattle.semantics.specs.AnswerSets.{Assumptions}
use Rattle.tables.specs.Algebras.{leaf, tables}
use Rattle.tables.specs.Triples.{mark_f, mark_u}
use Rattle.tables.specs.Definitions.{Pair, pairs, flat}
use Rattle.values.specs.declared.Value.{Value}
use Rattle.values.specs.Values.{valued, no_value}
use Rattle.candidates.specs.Candidates.{pair_of}
use Rattle.rows.specs.Parts.{zeros}
use Rattle.rows.specs.Rows.{Rows, table_of}
use Rattle.rows.proofs.Tables.{rows_of}
use Rattle.entries.specs.declared.Carry.{Carry}
use Rattle.entries.specs.Carries.{Entry, entry_algebra}
use Rattle.making.specs.Making.{Making, table_of_all, Finished, entry_of}
use Rattle.leaves.specs.declared.Atom.{Atom}
use Rattle.leaves.specs.declared.Tables.{Tables}
use Rattle.leaves.specs.declared.Tables.TheVariants.{Plain, Pairs}
use Rattle.leaves.specs.Leaves.{algebra_of, table_algebra, atom_at, present_entry, absent_entry, leaf_entries}
use Rattle.leaves.proofs.Writing.{absent-is, unmet-is, unit-value}
use Rattle.leaves.proofs.Atoms.{leaf-entries}

same-entry : {x y : Pair} {u v : Value} → x ≡ y → u ≡ v → ◌≡◌ {A = Entry} (record { item = x; value = u }) (record { item = y; value = v })
same-entry e f = λ i. record { item = e i; value = f i }

module _ (kind : Tables) (x : Atom) (g : NewAtom) where
  -- the entry of an atom that is out, where it may be
  abbrev pub absents : List Entry
  absents = cond x.may_be_out (absent_entry kind x g ∷ []) []

  pub present-first : (row : List ℕ) (rest : List Entry) → pair_of row ≡ (algebra_of kind label_count).present 0 g
      → leaf_entries kind x g ++ rest ≡ cond x.may_be_in (entry_of row x.value_in ∷ []) [] ++ (absents ++ rest)
  unfolding leaf_entries
  present-first row rest e =
      append_assoc (cond x.may_be_in (present_entry kind x g ∷ []) []) absents rest
      ∙ ap {B = List Entry} (λ (y : Entry). cond x.may_be_in (y ∷ []) [] ++ (absents ++ rest)) (same-entry (sym e) refl)

  pub absent-next : (row : List ℕ) → pair_of row ≡ mark_f label_count g.label ∷ [] → absents ≡ cond x.may_be_out (entry_of row x.value_out ∷ []) []
  absent-next row e = ap {B = List Entry} (λ (y : Entry). cond x.may_be_out (y ∷ []) []) (same-entry (sym (e ∙ absent-is kind 0 g)) refl)

  -- a table that is being made of them: the present entry is next, then the absent one
  module _ {carry : Carry} {w p to : ℕ} {cands : List Entry} {m : ℕ} {ws₀ ws index vals : List ℕ} (row : List ℕ) (rest : List Entry) where
    pub present-step : pair_of row ≡ (algebra_of kind label_count).present 0 g → Making carry w p to cands (leaf_entries kind x g ++ rest) m ws₀ ws index vals
        → Making carry w p to cands (cond x.may_be_in (entry_of row x.value_in ∷ []) [] ++ (absents ++ rest)) m ws₀ ws index vals
    present-step e h = rw (← present-first row rest e) h

    pub absent-step : pair_of row ≡ mark_f label_count g.label ∷ [] → Making carry w p to cands (absents ++ rest) m ws₀ ws index vals
        → Making carry w p to cands (cond x.may_be_out (entry_of row x.value_out ∷ []) [] ++ rest) m ws₀ ws index vals
    absent-step e h = rw (← absent-next row e) h

module _ (kind : Tables) (carry : Carry) (g : ℕ) where
  pub unmet-entry : (row : List ℕ) → pair_of row ≡ mark_u label_count g ∷ [] → (table_algebra kind carry).unmet g ≡ entry_of row no_value
  unfolding table_algebra valued
  unmet-entry row e = same-entry (sym (e ∙ unmet-is kind g)) (unit-value carry)

-- one entry alone is a table
pub table-of-one : (carry : Carry) (x : Entry) → table_of_all carry (x ∷ []) ≡ x ∷ []
unfolding table_of_all canon insert_all insert
table-of-one carry x = refl

-- and fits where there is room for one row
pub one-fits : {carry : Carry} {w p at : ℕ} {x : Entry} {r : ℕ} {ws cleared ws' vals' : List ℕ} → Finished carry w p at (x ∷ []) r ws cleared ws' vals' → r ≤ p + 1 → 1 ≤ p → r ≤ p
one-fits {carry} {p} {x} {r} f l g = step (dec_le r p)
  where
    step : Dec (r ≤ p) → r ≤ p
    step (yes k) = k
    step (no k) = absurd (omega (arith, f.over (omega arith), ap length (table-of-one carry x)))

-- words that are zero are a table of no rows
pub no_rows : (w p : ℕ) (area : List ℕ) → area ≡ zeros (p * w) → Rows w p 0 area
unfolding table_of
no_rows w p area e = (rows_of w p 0 [] area e refl (omega arith) tt).0

-- ---- the table of all candidates of a leaf is the definition's

leaf-operation : (kind : Tables) (carry : Carry) (o : Assumptions) (c : ℕ) (g : NewAtom) → table_of_all carry (leaf (table_algebra kind carry) o c g) ≡ (tables (table_algebra kind carry) o).atom_op c g
unfolding table_of_all entry_algebra table_algebra algebra_of valued flat pairs tables
leaf-operation Plain carry o c g = refl
leaf-operation Pairs carry o c g = refl

pub atom-operation : (kind : Tables) (carry : Carry) (o : Assumptions) (c : ℕ) (g : NewAtom) → table_of_all carry (leaf_entries kind (atom_at carry o c) g) ≡ (tables (table_algebra kind carry) o).atom_op c g
atom-operation kind carry o c g = ap (table_of_all carry) (leaf-entries kind carry o c g) ∙ leaf-operation kind carry o c g

pub rule-operation : (kind : Tables) (carry : Carry) (o : Assumptions) (g : ℕ) → table_of_all carry ((table_algebra kind carry).unmet g ∷ []) ≡ (tables (table_algebra kind carry) o).rule_op g
unfolding tables
rule-operation kind carry o g = table-of-one carry ((table_algebra kind carry).unmet g)
