-- What a report answers and writes (01, Outcomes: 14 to 17; Tables: reports), over K labels. Assumes nothing.
use Rattle.std.specs.Prelude.{Bool, true, false, cond, ◌&&◌, List, [], ◌++◌, ℕ, ◌+◌, ltb, length, drop, Option, Some, None}
use Rattle.expression.specs.declared.Counts.{Counts}
use Rattle.expression.specs.Refusals.{offset, report_short}
use Rattle.expression.specs.Reading.{reading}
use Rattle.expression.specs.Checks.{Passed, Refused as Stopped, Request, check, need_of}
use Rattle.expression.specs.Places.{locate}
use Rattle.tables.specs.Algebras.{Algebra, tables}
use Rattle.decisions.specs.Decisions.{assumed, commands_in, newest, Walked, stopped, walked, walk}
use Rattle.walks.specs.Walks.{before}
use Rattle.stacks.specs.Stacks.{cleared}
use Rattle.reporting.specs.declared.Report.{Report}
use Rattle.reporting.specs.declared.Report.TheVariants.{Written, Refused}

abbrev pub is_before : Option Counts → Bool
is_before (Some n) = true
is_before None = false

-- a command starts at the offset
unfoldable pub starts_at : ℕ → List ℕ → ℕ → Bool
starts_at K s at = ltb at (length s) && is_before (locate K s at)

-- a refusal with its number and place, or the table after the command asked
pub data Asked (X : Type 0) : Type 0 where
  refused_at : ℕ → ℕ → Asked X
  table_at : List X → Asked X

module _ {X : Type 0} where
  abbrev pub newest_in : Walked X → Asked X
  newest_in (stopped n at) = refused_at n at
  newest_in (walked us) = table_at (newest us)

  -- the checks, then 14, then the tables up to the command asked
  unfoldable pub asked_table : Algebra X → (List X → ℕ) → ℕ → Request → ℕ → Asked X
  asked_table A f K a at =
      elim (check K a) [
        | Passed z ↦ cond (starts_at K a.bytes at) (newest_in (walk (tables A (assumed a)) f 0 (before (at + 1) (commands_in (reading K a.bytes))) [])) (refused_at offset at)
        | Stopped n p ↦ refused_at n p
      ]

  -- how many entries and words are written into a buffer of so much room; 17 where they do not fit
  abbrev pub report_answer : (List X → List ℕ) → ℕ → ℕ → Asked X → Report
  report_answer words room at (refused_at n p) = Refused n p
  report_answer words room at (table_at t) = cond (ltb room (length (words t))) (Refused report_short at) (Written (length t) (length (words t)))

  -- the buffer then: it changes only in the words written
  abbrev pub report_buffer : (List X → List ℕ) → List ℕ → Asked X → List ℕ
  report_buffer words out (refused_at n p) = out
  report_buffer words out (table_at t) = cond (ltb (length out) (length (words t))) out (words t ++ drop (length (words t)) out)

-- the workspace: untouched after 1 to 14, else the words needed for the whole expression are zero
unfoldable pub words_reported : ℕ → Request → ℕ → List ℕ → List ℕ
words_reported K a at ws =
    elim (check K a) [
      | Passed z ↦ cond (starts_at K a.bytes at) (cleared (need_of K a) ws) ws
      | Stopped n p ↦ ws
    ]
