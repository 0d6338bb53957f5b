-- What inserting a row into a table that is being made answers and leaves. Assumes nothing.
use Rattle.std.specs.Prelude.{◌≡◌, List, [], ◌∷◌, ◌++◌, ℕ, ◌+◌, ◌<◌, length, take, drop, get_or}
use Rattle.std.specs.declared.cmp.Ordering.TheVariants.{Equal}
use Rattle.lists.specs.Sorted.{compare_lists, rank}
use Rattle.tables.specs.Definitions.{Pair}
use Rattle.rows.specs.declared.Placed.{Placed}
use Rattle.rows.specs.declared.Placed.TheVariants.{New, Old, Full}
use Rattle.rows.specs.Rows.{sorted_of, Indexed}

-- x is among the pairs
abbrev pub There : Pair → List Pair → Type 0
There x ts = (rank compare_lists x ts < length ts) × (compare_lists x (get_or ts (rank compare_lists x ts) []) ≡ Equal)

-- new, at place k of the rising order; there already, at place k; or new where all p rows are taken
abbrev pub Inserted : ℕ → ℕ → ℕ → Pair → List ℕ → List ℕ → List ℕ → List ℕ → Placed → Type 0
Inserted w p m x area index area' index' (New k) =
    Indexed w p (m + 1) area' index' × (k ≡ rank compare_lists x (sorted_of w m area index)) × (There x (sorted_of w m area index) → ⊥)
    × (sorted_of w (m + 1) area' index' ≡ take k (sorted_of w m area index) ++ x ∷ drop k (sorted_of w m area index))
Inserted w p m x area index area' index' (Old k) =
    (area' ≡ area) × (index' ≡ index) × (k ≡ rank compare_lists x (sorted_of w m area index)) × There x (sorted_of w m area index)
Inserted w p m x area index area' index' Full = (area' ≡ area) × (index' ≡ index) × (m ≡ p) × (There x (sorted_of w m area index) → ⊥)
