-- The tables on the way and when one exceeds the limits (01, Tables), and demand 3 from that premise. Assumes nothing.
use Rattle.std.specs.Prelude.{◌≡◌, ◌⊎◌, ◌↔◌, ℕ, suc, ◌<◌, length, take, get_or}
use mathlib.Core.List.{List, [], map, Memᴰ}
use Rattle.expression.specs.declared.Counts.{Counts}
use Rattle.expression.specs.declared.Outcome.{Outcome}
use Rattle.expression.specs.declared.Outcome.TheVariants.{Yes}
use Rattle.expression.specs.Refusals.{subsets_full, plans_full}
use Rattle.expression.specs.Reading.{Placed, reading}
use Rattle.expression.specs.Checks.{Passed, Refused, Request, check}
use Rattle.semantics.specs.Expressions.{act_all}
use Rattle.semantics.specs.AnswerSets.{Assumptions}
use Rattle.tables.specs.Algebras.{tables}
use Rattle.tables.specs.Definitions.{Pair, subsets, pairs}
use Rattle.decisions.specs.Decisions.{Verdict, affirmed, denied, refused, assumed, commands_in, newest, Shows}
use Rattle.decisions.specs.First.{FirstShown}
use Rattle.decisions.specs.Outcomes.{verdict_of, NoAnswerSet}

-- 01: the tables on the way, by bytes and assumptions alone: that of the newest part after k commands
abbrev pub table_after : ℕ → List ℕ → Assumptions → ℕ → List Pair
table_after K s o k = newest (act_all (tables (pairs K) o) 0 (map (λ c. c.command) (take k (commands_in (reading K s)))) [])

-- 01: a pair of the table has over G subsets; it has over P pairs; it exceeds the limits if either holds
abbrev pub OverSubsets : ℕ → List Pair → Type 0
OverSubsets G t = (x : Pair) × Memᴰ x t × (G < length (subsets x))

abbrev pub OverPairs : ℕ → List Pair → Type 0
OverPairs P t = P < length t

abbrev pub Exceeds : ℕ → ℕ → List Pair → Type 0
Exceeds P G t = OverPairs P t ⊎ OverSubsets G t

-- 15 before 16
abbrev pub FullBy : ℕ → ℕ → List Pair → ℕ → Type 0
FullBy P G t n = ((n ≡ subsets_full) × OverSubsets G t) ⊎ ((n ≡ plans_full) × (OverSubsets G t → ⊥) × OverPairs P t)

module _ (K : ℕ) (a : Request) where
  abbrev pub commands : List Placed
  commands = commands_in (reading K a.bytes)

  -- the table after command k, the first being 0
  abbrev pub table_on : ℕ → List Pair
  table_on k = table_after K a.bytes (assumed a) (suc k)

  -- the first command whose table exceeds the limits gives number n and place at
  pub record FirstExceeding (n at : ℕ) : Type 0 where
    pub command : ℕ
    pub among : command < length commands
    pub before : (k : ℕ) → k < command → Exceeds a.pair_limit a.subset_limit (table_on k) → ⊥
    pub number : FullBy a.pair_limit a.subset_limit (table_on command) n
    pub place : at ≡ get_or (map (λ c. c.place) commands) command (length a.bytes)

  -- the request passes its checks, and no table on the way exceeds the limits
  pub record WithinLimits : Type 0 where
    pub counts : Counts
    pub passed : check K a ≡ Passed counts
    pub none : (k : ℕ) → k < length commands → Exceeds a.pair_limit a.subset_limit (table_on k) → ⊥

  -- demand 3 of a verdict
  pub record Demand3 (v : Verdict) : Type 0 where
    -- within the limits: no exactly when no answer set obeys the assumptions, otherwise yes, and then there is one to show
    pub no : WithinLimits → (v ≡ denied) ↔ NoAnswerSet K a
    pub yes : WithinLimits → (v ≡ affirmed) ↔ (NoAnswerSet K a → ⊥)
    pub shown : v ≡ affirmed → (m : ℕ) × Shows K a m
    -- else, and only then, it refuses: by the first check that refuses, or by 15 or 16 at the first command whose table exceeds the limits
    pub refuses : ((n : ℕ) × (at : ℕ) × (v ≡ refused n at)) ↔ (WithinLimits → ⊥)
    pub by_check : (n at : ℕ) → check K a ≡ Refused n at → v ≡ refused n at
    pub by_table : (z : Counts) → check K a ≡ Passed z → (n at : ℕ) → (v ≡ refused n at) ↔ FirstExceeding n at

  -- of an outcome: that of its verdict, and yes shows the first answer set that obeys the assumptions
  pub record Demand3Shown (r : Outcome) : Type 0 where
    pub verdict : Demand3 (verdict_of r)
    pub shows : (m : ℕ) → r ≡ Yes m → FirstShown K a m
