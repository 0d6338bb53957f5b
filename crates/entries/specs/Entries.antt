-- Tables of rows with values in words, and what putting one in leaves. Assumes nothing.
use Rattle.std.specs.Prelude.{◌≡◌, ℕ, ◌+◌, ◌<◌, ◌≤◌, List, [], ◌∷◌, length}
use Rattle.lists.specs.Sorted.{insert}
use Rattle.tables.specs.Definitions.{Pair}
use Rattle.values.specs.declared.Value.{Value}
use Rattle.values.specs.Values.{no_value}
use Rattle.rows.specs.Rows.{sorted_of, Indexed}
use Rattle.labels.specs.Labels.{label_count}
use Rattle.entries.specs.declared.Carry.{Carry}
use Rattle.entries.specs.Carries.{Entry, entry_algebra, values_in, Kept}

-- pairs with values, place by place
unfoldable pub with_values : List Pair → List Value → List Entry
with_values [] vs = []
with_values (x ∷ xs) [] = record { item = x; value = no_value } ∷ with_values xs []
with_values (x ∷ xs) (v ∷ vs) = record { item = x; value = v } ∷ with_values xs vs

-- the entries of a table that is being made, in rising order
unfoldable pub entries_of : Carry → ℕ → ℕ → List ℕ → List ℕ → List ℕ → List Entry
entries_of carry w m area index vals = with_values (sorted_of w m area index) (values_in carry m vals)

-- an entry put in
unfoldable pub entered : Carry → Entry → List Entry → List Entry
entered carry x xs = insert (entry_algebra label_count carry).order (entry_algebra label_count carry).merge x xs

-- the table with one entry more, r rows then; or there is no room, r is past p, and nothing changed
pub record Entered (carry : Carry) (w p m r : ℕ) (x : Entry) (area index vals area' index' vals' : List ℕ) : Type 0 where
  pub bound : r ≤ p + 1
  pub indexed : r ≤ p → Indexed w p r area' index'
  pub kept : r ≤ p → Kept carry p r vals'
  pub holds : r ≤ p → entries_of carry w r area' index' vals' ≡ entered carry x (entries_of carry w m area index vals)
  pub full : p < r → (m ≡ p) × (p < length (entered carry x (entries_of carry w m area index vals)))
  pub same : p < r → (area' ≡ area) × (index' ≡ index) × (vals' ≡ vals)
