-- Which part a report is of (01, Tables: reports; demand 2), over K labels. Assumes nothing.
use Rattle.std.specs.Prelude.{◌≡◌, List, [], map, ℕ, ◌+◌}
use Rattle.expression.specs.Reading.{reading}
use Rattle.expression.specs.Checks.{Request}
use Rattle.semantics.specs.Expressions.{Expr, act_all, trees}
use Rattle.semantics.specs.AnswerSets.{by_masks}
use Rattle.tables.specs.Algebras.{Algebra, table}
use Rattle.tables.specs.Definitions.{Pair, pairs}
use Rattle.tables.specs.Exactness.{ExactTables}
use Rattle.decisions.specs.Decisions.{assumed, commands_in, first_tree, expression_of}
use Rattle.walks.specs.Walks.{before}

-- the newest part after the command at an offset
unfoldable pub part_at : ℕ → List ℕ → ℕ → Expr
part_at K s at = first_tree (act_all trees 0 (map (λ c. c.command) (before (at + 1) (commands_in (reading K s)))) [])

-- t is that part's table, and so exactly what the part's interpretations give
pub record OfPart {X : Type 0} (A : Algebra X) (K : ℕ) (a : Request) (at : ℕ) (t : List X) : Type 0 where
  pub is : t ≡ table A (assumed a) (part_at K a.bytes at)
  pub exact : ExactTables K (part_at K a.bytes at) (assumed a)

-- the final table of pairs, under two masks
abbrev pub final_table : ℕ → List ℕ → ℕ → ℕ → List Pair
final_table K s i o = table (pairs K) (by_masks i o) (expression_of K s)
