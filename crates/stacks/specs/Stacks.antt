-- Words cleared, and how many entries each table of a stack has, beside its workspace (01, Outcomes and "One command a call"). Assumes nothing.
use Rattle.std.specs.Prelude.{◌≡◌, cond, List, ◌++◌, ℕ, ◌-◌, ◌≤◌, ltb, length, drop, get_or, set}
use Rattle.lists.specs.Lists.{All}
use Rattle.expression.specs.Checks as checked
use Rattle.expression.specs.declared.Effect.{Effect}
use Rattle.expression.specs.declared.Effect.TheVariants.{Push, Unite, Change, Pass}
use Rattle.expression.specs.Effects.{operands_by, depth_by}
use Rattle.expression.specs.Checks.{Request, check, need_of}
use Rattle.tables.specs.Definitions.{Pair}
use Rattle.rows.specs.Parts.{zeros}
use Rattle.workspace.specs.Workspace.{workspace_of, Sound, counts_of}

-- the words with zeros over the first n
abbrev pub cleared : ℕ → List ℕ → List ℕ
cleared n ws = zeros n ++ drop n ws

-- 01, Outcomes: a refusal by a check changes no buffer; after any other outcome the words needed are zero and the rest is untouched
unfoldable pub words_after : ℕ → Request → List ℕ → List ℕ
words_after K a ws = elim (check K a) [ checked.Passed z ↦ cleared (need_of K a) ws | checked.Refused n at ↦ ws ]

-- the count of the k-th newest of t tables; 0 where there is none
abbrev pub count_below : ℕ → ℕ → List ℕ → ℕ
count_below t k counts = cond (ltb t k) 0 (get_or counts (t - k) 0)

-- t tables have the operands that an effect needs, and n counts have room for them and for what it leaves
abbrev pub Applies : Effect → ℕ → ℕ → Type 0
Applies e t n = (operands_by e ≤ t) × (t ≤ n) × (depth_by e t ≤ n)

-- the counts after a command of such an effect on t tables, whose newest table then has r entries
unfoldable pub tallied : Effect → ℕ → ℕ → List ℕ → List ℕ
tallied (Push l) t r counts = set counts t r
tallied Unite t r counts = set (set counts (t - 2) r) (t - 1) 0
tallied Change t r counts = set counts (t - 1) r
tallied Pass t r counts = counts

-- a workspace of d areas holds the t tables, and the first t counts are theirs
pub record Counted (d w p t : ℕ) (ts : List (List Pair)) (beyond counts ws : List ℕ) : Type 0 where
  pub words : ws ≡ workspace_of d w p ts beyond
  pub sound : All (Sound w p) ts
  pub within : length ts ≤ d
  pub tables : length ts ≡ t
  pub room : ℕ
  pub tallies : counts ≡ counts_of room ts
