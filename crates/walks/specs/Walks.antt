-- The commands of an expression on the tables of a workspace, one after the other. Assumes nothing.
use Rattle.std.specs.Prelude.{Result, Ok, Err, ◌≡◌, cond, List, [], ◌∷◌, ℕ, ◌-◌, ◌≤◌, ◌<◌, ltb, length}
use Rattle.labels.specs.Labels.{label_count}
use Rattle.expression.specs.declared.Counts.{Counts}
use Rattle.expression.specs.Refusals.{number_of}
use Rattle.expression.specs.Reading.{Placed, reading}
use Rattle.expression.specs.Checks.{Passed, check_bytes}
use Rattle.semantics.specs.AnswerSets.{Assumptions}
use Rattle.tables.specs.Algebras.{tables}
use Rattle.tables.specs.Definitions.{Pair}
use Rattle.decisions.specs.Decisions.{Walked, stopped, walked, walk, commands_in, pairs_fault}
use Rattle.entries.specs.declared.Carry.{Carry}
use Rattle.entries.specs.Carries.{Entry}
use Rattle.leaves.specs.declared.Tables.{Tables}
use Rattle.leaves.specs.Leaves.{table_algebra}
use Rattle.workspace.specs.Workspace.{pairs_of}
use Rattle.stacks.specs.Stacks.{Counted}
use Rattle.advances.specs.Advances.{Stands}
use Rattle.walks.specs.declared.Stopped.{Stopped}

-- an expression that its checks pass, with room for its operands and scratch in d areas
abbrev pub Enough : ℕ → List ℕ → Type 0
Enough d s = (z : Counts) × (check_bytes label_count s ≡ Passed z) × (z.deepest < d)

-- the commands that start before an offset
unfoldable pub before : ℕ → List Placed → List Placed
before stop [] = []
before stop (c ∷ cs) = cond (ltb c.place stop) (c ∷ before stop cs) []

-- the walk over those of an expression, with values carried
unfoldable pub walk_to : Tables → Carry → Assumptions → ℕ → ℕ → ℕ → List ℕ → Walked Entry
walk_to kind carry o w p stop s = walk (tables (table_algebra kind carry) o) (λ t. pairs_fault p (w - 2) (pairs_of t)) 0 (before stop (commands_in (reading label_count s))) []

-- what a walk in words answers: where the definition stops, how many tables stand there; or how many it leaves: one at the end, and one at least after any command
abbrev pub Reaches : Tables → Carry → Assumptions → ℕ → ℕ → ℕ → ℕ → List ℕ → List ℕ → List ℕ → List ℕ → List ℕ → Result ℕ Stopped → Type 0
Reaches kind carry o d w p stop s beyond ws vals counts (Err e) =
    (walk_to kind carry o w p stop s ≡ stopped (number_of e.refusal.reason) e.refusal.place) × ((ts : List (List Pair)) × Counted d w p e.tables ts beyond counts ws)
Reaches kind carry o d w p stop s beyond ws vals counts (Ok t) =
    (us : List (List Entry)) × (walk_to kind carry o w p stop s ≡ walked us) × Stands carry d w p us beyond ws vals counts × (length us ≡ t) × (stop ≡ length s → t ≡ 1) × (0 < stop → 1 ≤ t)
