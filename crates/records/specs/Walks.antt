-- A walk by calls (01, "One command a call"): what a start and the steps after it leave, where nobody else touches record and workspace. Assumes nothing.
use Rattle.std.specs.Prelude.{◌≡◌, List, [], map, ℕ, zero, suc, ◌≤◌, ◌<◌, length, take, get_or}
use Rattle.lists.specs.Lists.{All}
use Rattle.expression.specs.declared.Outcome.{Outcome}
use Rattle.expression.specs.declared.Outcome.TheVariants as outcome
use Rattle.expression.specs.Refusals.{bad_record}
use Rattle.expression.specs.Reading.{Placed, reading}
use Rattle.expression.specs.Checks.{Request}
use Rattle.semantics.specs.Expressions.{act_all, trees}
use Rattle.tables.specs.Algebras.{tables, table}
use Rattle.tables.specs.Definitions.{Pair, pairs}
use Rattle.tables.specs.Exactness.{ExactTables}
use Rattle.decisions.specs.Decisions.{Verdict, affirmed, denied, refused, assumed, commands_in, pairs_fault, Walked, stopped, walked, walk, grounded}
use Rattle.decisions.specs.Outcomes.{without_mask}
use Rattle.records.specs.declared.Record.{Record}
use Rattle.records.specs.Steps.{Step, stays, moves, step, start, verdict}
use Rattle.records.specs.declared.Answer.{Answer}
use Rattle.records.specs.declared.Answer.TheVariants.{Ended, Refused}

-- what calls answer in the end: the decision's refusal, or that there is no command left
abbrev pub last_answer : Verdict → Answer
last_answer affirmed = Ended
last_answer denied = Ended
last_answer (refused f at) = Refused f at

-- the same record and words
abbrev pub still : Answer → Step → Step
still answer x = stays answer x.state x.words

module _ (K : ℕ) (a : Request) where
  abbrev pub commands : List Placed
  commands = commands_in (reading K a.bytes)

  -- where command k starts, the first being 0; behind the last one the end
  abbrev pub place_of : ℕ → ℕ
  place_of k = get_or (map (λ c. c.place) commands) k (length a.bytes)

  -- the decision's tables after k commands, the newest first, or its first refusal by 15 or 16 among them
  abbrev pub tables_after : ℕ → Walked Pair
  tables_after k = walk (tables (pairs K) (assumed a)) (pairs_fault a.pair_limit a.subset_limit) 0 (take k commands) []

  -- n steps, each on the record and the words that the one before left
  unfoldable pub stepped : ℕ → Step → Step
  stepped zero x = x
  stepped (suc n) x = let y = stepped n x in step K a y.state y.words

  -- what the verdict call answers
  abbrev pub verdict_on : Step → Outcome
  verdict_on x = verdict K a x.state x.words

  module _ (r : Record) (ws : List ℕ) where
    -- the walk: what a start and k steps leave
    abbrev pub walking : ℕ → Step
    walking k = stepped k (start K a r ws)

    pub record Walks : Type 0 where
      -- demand 2: those are the tables of the parts that the k commands leave
      pub demand2 : (k : ℕ) (us : List (List Pair)) → tables_after k ≡ walked us
          → us ≡ map (table (pairs K) (assumed a)) (act_all trees 0 (map (λ c. c.command) (take k commands)) [])
      -- and each of those parts has exact tables
      pub exact : (k : ℕ) → All (λ e. ExactTables K e (assumed a)) (act_all trees 0 (map (λ c. c.command) (take k commands)) [])
      -- the record is at command k, and the words hold the tables of the commands before it
      pub holds : (k : ℕ) (us : List (List Pair)) → k ≤ length commands → tables_after k ≡ walked us → walking k ≡ moves K a (place_of k) us ws
      -- command k exceeds a limit: the decision's refusal is at that command, and each further step answers it and changes nothing
      pub refuses : (k : ℕ) (us : List (List Pair)) (f at : ℕ) → tables_after k ≡ walked us → tables_after (suc k) ≡ stopped f at
          → (at ≡ place_of k) × (grounded K a ≡ refused f at) × ((n : ℕ) → stepped (suc n) (walking k) ≡ still (Refused f at) (walking k))
      -- all commands are done: each further step answers that, and changes nothing; the verdict is the decision's yes or no
      pub ends : (us : List (List Pair)) → tables_after (length commands) ≡ walked us
          → (n : ℕ) → stepped (suc n) (walking (length commands)) ≡ still Ended (walking (length commands))
      pub decides : (us : List (List Pair)) → tables_after (length commands) ≡ walked us → verdict_on (walking (length commands)) ≡ without_mask (grounded K a)
      -- before, the verdict is 18
      pub early : (k : ℕ) (us : List (List Pair)) → k < length commands → tables_after k ≡ walked us → verdict_on (walking k) ≡ outcome.Refused bad_record (place_of k)
      -- more steps than commands come to the end or to the decision's refusal
      pub answers : (n : ℕ) → length commands < n → (walking n).answer ≡ last_answer (grounded K a)
