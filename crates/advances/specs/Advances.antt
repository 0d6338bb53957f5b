-- A command on tables that stand in a workspace with their counts. Assumes nothing.
use Rattle.std.specs.Prelude.{◌≡◌, List, ℕ, ◌+◌, ◌-◌, ◌≤◌, ◌<◌, length}
use Rattle.expression.specs.declared.Command.{Command}
use Rattle.expression.specs.Limits.{depth_limit, area_count}
use Rattle.semantics.specs.Expressions.{act}
use Rattle.semantics.specs.AnswerSets.{Assumptions}
use Rattle.tables.specs.Algebras.{tables}
use Rattle.decisions.specs.Decisions.{newest, pairs_fault}
use Rattle.entries.specs.declared.Carry.{Carry}
use Rattle.entries.specs.Carries.{Entry}
use Rattle.leaves.specs.declared.Tables.{Tables}
use Rattle.leaves.specs.Leaves.{table_algebra}
use Rattle.workspace.specs.Workspace.{pairs_of, counts_of, Holds, fault_of}

-- a workspace of d areas, the words of values and the counts hold the tables
pub record Stands (carry : Carry) (d w p : ℕ) (ts : List (List Entry)) (beyond ws vals counts : List ℕ) : Type 0 where
  pub holds : Holds carry d w p ts beyond ws vals
  pub tallies : counts ≡ counts_of depth_limit ts
  pub areas : d ≤ area_count

-- a command whose stack is us then answers r: the tables stand, or it is refused and nothing changed
pub record Advanced (carry : Carry) (d w p : ℕ) (us : List (List Entry)) (beyond : List ℕ) (r : ℕ) (ws counts ws' vals' counts' : List ℕ) : Type 0 where
  pub most : r ≤ p + 2
  pub fault : fault_of p r ≡ pairs_fault p (w - 2) (pairs_of (newest us))
  pub stands : r ≤ p → Stands carry d w p us beyond ws' vals' counts'
  pub same : p < r → (ws' ≡ ws) × (counts' ≡ counts)

-- some t tables stand there
abbrev pub SomeStand : Carry → ℕ → ℕ → ℕ → ℕ → List ℕ → List ℕ → List ℕ → Type 0
SomeStand carry d w p t ws vals counts = (ts : List (List Entry)) × (beyond : List ℕ) × Stands carry d w p ts beyond ws vals counts × (length ts ≡ t)

-- whichever t tables stand there, a command answers r; a is the number of the next atom
abbrev pub Advances : Tables → Carry → ℕ → ℕ → ℕ → ℕ → Command → ℕ → Assumptions → ℕ → List ℕ → List ℕ → List ℕ → List ℕ → List ℕ → List ℕ → Type 0
Advances kind carry d w p t c a o r ws vals counts ws' vals' counts' =
    (ts : List (List Entry)) (beyond : List ℕ) → Stands carry d w p ts beyond ws vals counts → length ts ≡ t
    → Advanced carry d w p (act (tables (table_algebra kind carry) o) a c ts) beyond r ws counts ws' vals' counts'
