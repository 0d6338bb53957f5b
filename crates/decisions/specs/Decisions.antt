-- The outcome of the grounded and of the plain decision (01, Tables and Outcomes), over K labels. Assumes nothing.
use Rattle.std.specs.Prelude.{Bool, true, false, cond, List, [], ◌∷◌, map, ℕ, zero, suc, ◌+◌, ◌^◌, ◌<◌, ltb, length}
use Rattle.lists.specs.Lists.{some}
use Rattle.expression.specs.Refusals.{subsets_full, plans_full}
use Rattle.expression.specs.Reading.{new_atoms, Placed, Reading, faulty, whole, reading}
use Rattle.expression.specs.Checks.{Passed, Refused, Request, check}
use Rattle.semantics.specs.Expressions.{Expr, rule, Operations, act, act_all, trees}
use Rattle.semantics.specs.Programs.{numbers}
use Rattle.semantics.specs.AnswerSets.{Assumptions, Obeys, AnswerSet, of_mask, by_masks}
use Rattle.tables.specs.Algebras.{Algebra, tables}
use Rattle.tables.specs.Definitions.{Pair, subsets, triples, pairs, plain_accepts, grounded_accepts}

-- yes, no, or a refusal with its number and place
pub data Verdict : Type 0 where
  affirmed : Verdict
  denied : Verdict
  refused : ℕ → ℕ → Verdict

unfoldable pub assumed : Request → Assumptions
assumed a = by_masks a.assumed_true a.assumed_false

unfoldable pub commands_in : Reading → List Placed
commands_in (faulty n at) = []
commands_in (whole cs z) = cs

-- ---- the tables, command by command

-- 15, then 16; 0 where the table exceeds neither limit
unfoldable pub pairs_fault : ℕ → ℕ → List Pair → ℕ
pairs_fault P G t = cond (some (λ x. ltb G (length (subsets x))) t) subsets_full (cond (ltb P (length t)) plans_full 0)

-- a plain table has no subsets
unfoldable pub plain_fault : ℕ → List ℕ → ℕ
plain_fault P t = cond (ltb P (length t)) plans_full 0

-- the first command whose table exceeds a limit, or the tables that all commands leave, the newest first
pub data Walked (X : Type 0) : Type 0 where
  stopped : ℕ → ℕ → Walked X
  walked : List (List X) → Walked X

unfoldable pub answer : Bool → Verdict
answer true = affirmed
answer false = denied

module _ {X : Type 0} where
  abbrev pub newest : List (List X) → List X
  newest [] = []
  newest (t ∷ ts) = t

  -- from a stack of tables on; n is the number of the next atom
  unfoldable pub walk : Operations (List X) → (List X → ℕ) → ℕ → List Placed → List (List X) → Walked X
  walk B f n [] ts = walked ts
  walk B f n (c ∷ cs) ts =
      let us = act B n c.command ts in
      elim (f (newest us)) [ zero ↦ walk B f (n + new_atoms c.command) cs us | suc k ↦ stopped (suc k) c.place ]

  -- what the last table says
  unfoldable pub conclude : (List X → Bool) → Walked X → Verdict
  conclude y (stopped n at) = refused n at
  conclude y (walked ts) = answer (y (newest ts))

  -- the checks, then the tables
  unfoldable pub decide : Algebra X → (List X → ℕ) → (List X → Bool) → ℕ → Request → Verdict
  decide A f y K a =
      elim (check K a) [
        | Passed z ↦ conclude y (walk (tables A (assumed a)) f 0 (commands_in (reading K a.bytes)) [])
        | Refused n at ↦ refused n at
      ]

unfoldable pub grounded : ℕ → Request → Verdict
grounded K a = decide (pairs K) (pairs_fault a.pair_limit a.subset_limit) (grounded_accepts K) K a

unfoldable pub plain : ℕ → Request → Verdict
plain K a = decide (triples K) (plain_fault a.pair_limit) (plain_accepts K) K a

-- ---- the plan shown

abbrev pub first_tree : List Expr → Expr
first_tree [] = rule 0
first_tree (e ∷ es) = e

-- the tree that the commands leave
unfoldable pub tree_of : Reading → Expr
tree_of r = first_tree (act_all trees 0 (map (λ c. c.command) (commands_in r)) [])

unfoldable pub expression_of : ℕ → List ℕ → Expr
expression_of K s = tree_of (reading K s)

-- a mask is an answer set that obeys the assumptions, with no bit beyond the atoms
pub record Shows (K : ℕ) (a : Request) (m : ℕ) : Type 0 where
  pub within : m < 2 ^ length (numbers (expression_of K a.bytes))
  pub obeys : Obeys (assumed a) (numbers (expression_of K a.bytes)) (of_mask m)
  pub answer_set : AnswerSet (expression_of K a.bytes) (of_mask m)
