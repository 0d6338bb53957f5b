-- The tables that a command acts on, what it leaves of them, and the union of two. Assumes nothing.
use Rattle.std.specs.Prelude.{◌≡◌, List, ℕ, length, drop}
use Rattle.lists.specs.Lists.{products}
use Rattle.labels.specs.Labels.{label_count}
use Rattle.decisions.specs.Decisions.{newest}
use Rattle.entries.specs.declared.Carry.{Carry}
use Rattle.entries.specs.Carries.{Entry, entry_algebra}
use Rattle.making.specs.Making.{table_of_all}
use Rattle.workspace.specs.Workspace.{Holds, Acted}

-- a workspace that holds t tables, the newest of n entries and the one below it of m
pub record Loaded (carry : Carry) (d w p t n m : ℕ) (ts : List (List Entry)) (beyond ws vals : List ℕ) : Type 0 where
  pub holds : Holds carry d w p ts beyond ws vals
  pub tables : length ts ≡ t
  pub newer : length (newest ts) ≡ n
  pub older : length (newest (drop 1 ts)) ≡ m

-- some stack is held
abbrev pub Ready : Carry → ℕ → ℕ → ℕ → ℕ → ℕ → ℕ → List ℕ → List ℕ → Type 0
Ready carry d w p t n m ws vals = (ts : List (List Entry)) × (beyond : List ℕ) × Loaded carry d w p t n m ts beyond ws vals

-- whatever stack is held, a command that makes f of it answers r
abbrev pub Acts : Carry → ℕ → ℕ → ℕ → ℕ → ℕ → ℕ → (List (List Entry) → List (List Entry)) → ℕ → List ℕ → List ℕ → List ℕ → List ℕ → Type 0
Acts carry d w p t n m f r ws vals ws' vals' = (ts : List (List Entry)) (beyond : List ℕ) → Loaded carry d w p t n m ts beyond ws vals → Acted carry d w p (f ts) beyond r ws ws' vals'

-- the union of two tables
abbrev pub united_table : Carry → List Entry → List Entry → List Entry
united_table carry a b = table_of_all carry (products (entry_algebra label_count carry).united a b)
