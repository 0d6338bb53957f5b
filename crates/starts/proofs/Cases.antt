-- What start and step are, by what the checks and the test of the record find. Over K labels. Assumes nothing.
use Rattle.std.specs.Prelude.{Some, None}
use mathlib.Core.Path.{◌≡◌, refl, sym, ap, ◌∙◌}
use mathlib.Core.List.{List, [], ◌∷◌}
use Prim.Native.Nat.{ℕ, zero, suc, ◌<◌}
use native.Mathlib.Omega.{arith}
use Rattle.expression.specs.Checks as checked
use Rattle.expression.specs.declared.Command.{Command}
use Rattle.expression.specs.declared.Counts.{Counts}
use Rattle.expression.specs.Refusals.{bad_record}
use Rattle.expression.specs.Commands.{Got, Fault, read_at}
use Rattle.expression.specs.Checks.{Request, check, need_of}
use Rattle.semantics.specs.Expressions.{act}
use Rattle.tables.specs.Algebras.{tables}
use Rattle.tables.specs.Definitions.{Pair, pairs}
use Rattle.decisions.specs.Decisions.{assumed, pairs_fault, newest}
use Rattle.workspace.specs.Workspace.{stack_counts, counts_of}
use Rattle.stacks.specs.Stacks.{cleared}
use Rattle.records.specs.declared.Record.{Record}
use Rattle.records.specs.Steps.{Step, stays, start_record, found, formed_at, moves, move_to, command, step, start}
use Rattle.records.specs.declared.Answer.{Answer}
use Rattle.records.specs.declared.Answer.TheVariants.{Moved, Ended, Refused}
use Rattle.starts.specs.Stepping.{Follows}

module _ (K : ℕ) (a : Request) (r : Record) (ws : List ℕ) where
  abbrev need : ℕ
  need = need_of K a

  -- ---- a check refuses

  module _ {n at : ℕ} (h : check K a ≡ checked.Refused n at) where
    pub start-refused : start K a r ws ≡ stays (Refused n at) r ws
    unfolding start
    start-refused = rw (h, start)

    pub step-refused : step K a r ws ≡ stays (Refused n at) r ws
    unfolding step
    step-refused = rw (h, step)

  -- ---- all checks pass

  module _ {z : Counts} (h : check K a ≡ checked.Passed z) where
    pub start-passed : start K a r ws ≡ record { state = start_record; answer = Moved; words = cleared need ws }
    unfolding start
    start-passed = rw (h, start)

    -- the record has not the form asked for
    module _ (e : formed_at K a r ws ≡ None) where
      pub step-unformed : step K a r ws ≡ stays (Refused bad_record r.place) r ws
      unfolding step
      step-unformed = rw (h, step, e)

    -- it has
    module _ {n : Counts} (e : formed_at K a r ws ≡ Some n) where
      pub step-formed : step K a r ws ≡ command K a n r ws
      unfolding step
      step-formed = rw (h, step, e)

  -- ---- the command

  pub command-none : {f : ℕ} (n : Counts) → read_at K a.bytes r.place ≡ Fault f → command K a n r ws ≡ stays Ended r ws
  unfolding command
  command-none n e = rw (e, command)

  pub command-read : {c : Command} {next : ℕ} (n : Counts) → read_at K a.bytes r.place ≡ Got c next
      → command K a n r ws ≡ move_to K a next (act (tables (pairs K) (assumed a)) n.atoms c (found K a r ws)) r ws
  unfolding command
  command-read n e = rw (e, command)

  module _ (next : ℕ) (us : List (List Pair)) where
    pub move-done : pairs_fault a.pair_limit a.subset_limit (newest us) ≡ 0 → move_to K a next us r ws ≡ moves K a next us ws
    unfolding move_to
    move-done e = rw (e, move_to)

    pub move-refused : (f : ℕ) → 0 < f → pairs_fault a.pair_limit a.subset_limit (newest us) ≡ f → move_to K a next us r ws ≡ stays (Refused f r.place) r ws
    unfolding move_to
    move-refused zero l e = absurd (omega arith)
    move-refused (suc f) l e = rw (e, move_to)

-- ---- what a call hands back, by what the definition is

pub by-stays : {x : Step} {q : Answer} {r : Record} {ws : List ℕ} → x ≡ stays q r ws → (q' : Answer) → q' ≡ q → Follows x r q' ws
unfolding stays
by-stays e q' f = (sym (ap (λ (y : Step). y.state) e), f ∙ sym (ap (λ (y : Step). y.answer) e), sym (ap (λ (y : Step). y.words) e))

pub by_all : {x y : Step} {r : Record} {q : Answer} {ws : List ℕ} → x ≡ y → Follows y r q ws → Follows x r q ws
by_all e (f, g, h) = (f ∙ sym (ap (λ (y : Step). y.state) e), g ∙ sym (ap (λ (y : Step). y.answer) e), h ∙ sym (ap (λ (y : Step). y.words) e))

-- start's record is the one of no tables
pub start-follows : (K : ℕ) (a : Request) (r : Record) (ws : List ℕ) {z : Counts} {ws' : List ℕ} → check K a ≡ checked.Passed z → ws' ≡ cleared (need_of K a) ws
    → Follows (start K a r ws) (record { place = 0; tables = 0; counts = 0 ∷ 0 ∷ 0 ∷ 0 ∷ 0 ∷ 0 ∷ 0 ∷ 0 ∷ [] }) Moved ws'
unfolding start_record counts_of stack_counts
start-follows K a r ws h e = by_all (start-passed K a r ws h) (refl, refl, e)
