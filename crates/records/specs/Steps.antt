-- One command a call (01): what starting, a step and the verdict make of a running record and its workspace, over K labels. Assumes nothing.
use Rattle.std.specs.Prelude.{Bool, cond, ◌&&◌, List, [], ℕ, zero, suc, ◌+◌, eqb, length, take, drop, Option, Some, None}
use Rattle.expression.specs.declared.Counts.{Counts}
use Rattle.expression.specs.Checks as checked
use Rattle.expression.specs.declared.Outcome.{Outcome}
use Rattle.expression.specs.declared.Outcome.TheVariants as outcome
use Rattle.expression.specs.Limits.{depth_limit, row_words, areas_for}
use Rattle.expression.specs.Refusals.{bad_record}
use Rattle.expression.specs.Commands.{Got, Fault, read_at}
use Rattle.expression.specs.Checks.{Request, check, depth_of, need_of}
use Rattle.expression.specs.Places.{locate}
use Rattle.semantics.specs.Expressions.{act}
use Rattle.tables.specs.Algebras.{tables}
use Rattle.tables.specs.Definitions.{Pair, pairs, grounded_accepts}
use Rattle.decisions.specs.Decisions.{assumed, pairs_fault, newest}
use Rattle.workspace.specs.Workspace.{workspace_of, counts_of}
use Rattle.stacks.specs.Stacks.{cleared}
use Rattle.forms.specs.Forms.{are_zero, are_tables, tables_in}
use Rattle.records.specs.declared.Record.{Record}
use Rattle.records.specs.declared.Answer.{Answer}
use Rattle.records.specs.declared.Answer.TheVariants.{Moved, Ended, Refused}

-- what a call leaves in record and workspace, and answers
pub record Step : Type 0 where
  pub state : Record
  pub answer : Answer
  pub words : List ℕ

-- nothing changes
unfoldable pub stays : Answer → Record → List ℕ → Step
stays x r ws = record { state = r; answer = x; words = ws }

-- place 0, no tables
unfoldable pub start_record : Record
start_record = record { place = 0; tables = 0; counts = counts_of {X = Pair} depth_limit [] }

module _ (K : ℕ) (a : Request) where
  abbrev need : ℕ
  need = need_of K a

  -- the counts of the tables that the record says are there
  abbrev pub counts_in : Record → List ℕ
  counts_in r = take r.tables r.counts

  -- those tables, the newest first
  abbrev pub found : Record → List ℕ → List (List Pair)
  found r ws = tables_in (row_words a.subset_limit) a.pair_limit (counts_in r) ws

  -- so many tables as the commands before its place leave, counts of no others, and tables of the form asked for in the needed words
  unfoldable pub is_formed : Counts → Record → List ℕ → Bool
  is_formed n r ws =
      eqb r.tables n.depth
      && (are_zero (drop r.tables r.counts)
      && are_tables K (row_words a.subset_limit) a.pair_limit (counts_in r) (take need ws))

  -- the counts before the record's place, unless 18 refuses
  unfoldable pub formed_at : Record → List ℕ → Option Counts
  formed_at r ws = elim (locate K a.bytes r.place) [ None ↦ None | Some n ↦ cond (is_formed n r ws) (Some n) None ]

  -- the tables us after a command, the next of which is at `next`
  unfoldable pub moves : ℕ → List (List Pair) → List ℕ → Step
  moves next us ws = record {
    state = record { place = next; tables = length us; counts = counts_of depth_limit us };
    answer = Moved;
    words = workspace_of (areas_for (depth_of K a.bytes)) (row_words a.subset_limit) a.pair_limit us (drop need ws);
  }

  -- a command that leaves the tables us: 15, 16, or it is done
  unfoldable pub move_to : ℕ → List (List Pair) → Record → List ℕ → Step
  move_to next us r ws =
      elim (pairs_fault a.pair_limit a.subset_limit (newest us)) [ zero ↦ moves next us ws | suc f ↦ stays (Refused (suc f) r.place) r ws ]

  -- the command at the record's place, where n counts what stands before it; at the end there is none
  unfoldable pub command : Counts → Record → List ℕ → Step
  command n r ws =
      elim (read_at K a.bytes r.place) [
        | Fault f ↦ stays Ended r ws
        | Got c next ↦ move_to next (act (tables (pairs K) (assumed a)) n.atoms c (found r ws)) r ws
      ]

  -- 1 to 13, then 18, then the command
  unfoldable pub step : Record → List ℕ → Step
  step r ws =
      elim (check K a) [
        | checked.Refused n at ↦ stays (Refused n at) r ws
        | checked.Passed z ↦ elim (formed_at r ws) [ None ↦ stays (Refused bad_record r.place) r ws | Some n ↦ command n r ws ]
      ]

  -- 1 to 13, then a record without tables beside needed words that are zero
  unfoldable pub start : Record → List ℕ → Step
  start r ws =
      elim (check K a) [
        | checked.Refused n at ↦ stays (Refused n at) r ws
        | checked.Passed z ↦ record { state = start_record; answer = Moved; words = cleared need ws }
      ]

  -- yes or no from the final table; 18 before the end
  unfoldable pub conclusion : Record → List ℕ → Outcome
  conclusion r ws =
      cond (eqb r.place (length a.bytes)) (cond (grounded_accepts K (newest (found r ws))) (outcome.Yes 0) outcome.No) (outcome.Refused bad_record r.place)

  unfoldable pub verdict : Record → List ℕ → Outcome
  verdict r ws =
      elim (check K a) [
        | checked.Refused n at ↦ outcome.Refused n at
        | checked.Passed z ↦ elim (formed_at r ws) [ None ↦ outcome.Refused bad_record r.place | Some n ↦ conclusion r ws ]
      ]
