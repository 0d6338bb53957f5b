-- A record and words that hold a stack of tables of the form asked for: they pass 18, and what a step and the verdict make of them. Assumes nothing.
use Rattle.std.specs.Prelude.{Some}
use mathlib.Core.Path.{◌≡◌, sym, ap, ap₂, ◌∙◌}
use mathlib.Core.Bool.{true, cond}
use mathlib.Core.List.{List, [], ◌∷◌, ◌++◌, append_assoc, append-nil}
use Prim.Native.Nat.{ℕ, zero, suc, ◌+◌, ◌-◌, ◌*◌, ◌≤◌, ◌<◌}
use native.Mathlib.Omega.{arith}
use lib.ListN.{length, take, drop}
use lib.Seq.{take_at, drop_at}
use borrow.Author.Tests.{eq-eqb, ne_eqb}
use Rattle.lists.specs.Lists.{All}
use Rattle.expression.specs.declared.Command.{Command}
use Rattle.expression.specs.declared.Counts.{Counts}
use Rattle.expression.specs.declared.Outcome.TheVariants as outcome
use Rattle.expression.specs.Limits.{depth_limit, row_words, areas_for}
use Rattle.expression.specs.Refusals.{bad_record}
use Rattle.expression.specs.Commands.{Got, read_at}
use Rattle.expression.specs.Checks.{Passed, Request, check, depth_of, need_of}
use Rattle.expression.specs.Places.{locate}
use Rattle.expression.proofs.Commands.{past_end}
use Rattle.semantics.specs.Expressions.{act}
use Rattle.tables.specs.Algebras.{tables}
use Rattle.tables.specs.Definitions.{Pair, pairs, grounded_accepts}
use Rattle.decisions.specs.Decisions.{assumed, pairs_fault, newest}
use Rattle.rows.specs.Parts.{zeros}
use Rattle.workspace.specs.Workspace.{stack_words, workspace_of, stack_counts, counts_of, Sound}
use Rattle.workspace.proofs.Areas.{workspace-long}
use Rattle.stacks.proofs.Counts.{counts-long}
use Rattle.forms.specs.Forms.{are_tables, tables_in}
use Rattle.records.specs.Steps.{Step, found, is_formed, formed_at, moves, move_to, command, step, conclusion, verdict}
use Rattle.records.specs.declared.Answer.TheVariants.{Ended, Refused}
use Rattle.records.specs.Walks.{still}
use Rattle.records.proofs.Formed.{Formed, zeros-zero, stack-formed, stack-found}

-- ---- a workspace of d areas: the words of the areas, and the words beyond

module _ (K w p d : ℕ) (us : List (List Pair)) (formed : All (Formed K w p) us) (deep : length us ≤ d) where
  all_sound : (ts : List (List Pair)) → All (Formed K w p) ts → All (Sound w p) ts
  all_sound [] h = tt
  all_sound (t ∷ ts) h = (h.0.sound, all_sound ts h.1)

  areas-long : length (workspace_of d w p us []) ≡ d * (p * w)
  areas-long = omega (arith, workspace-long w p d [] us (all_sound us formed) deep)

  areas-beyond : (beyond : List ℕ) → workspace_of d w p us beyond ≡ workspace_of d w p us [] ++ beyond
  unfolding workspace_of
  areas-beyond beyond = simp (append_assoc, append-nil)

  pub areas-taken : (beyond : List ℕ) → take (d * (p * w)) (workspace_of d w p us beyond) ≡ workspace_of d w p us []
  areas-taken beyond = ap (take (d * (p * w))) (areas-beyond beyond) ∙ take_at (workspace_of d w p us []) beyond (d * (p * w)) areas-long

  pub areas-dropped : (beyond : List ℕ) → drop (d * (p * w)) (workspace_of d w p us beyond) ≡ beyond
  areas-dropped beyond = ap (drop (d * (p * w))) (areas-beyond beyond) ∙ drop_at (workspace_of d w p us []) beyond (d * (p * w)) areas-long

  pub areas-formed : are_tables K w p (stack_counts us) (workspace_of d w p us []) ≡ true
  unfolding workspace_of are_tables
  areas-formed =
      let m : ℕ = (d - length us) * (p * w) in
      ap₂ (are_tables K w p) (sym (append-nil (stack_counts us))) (ap (λ (u : List ℕ). stack_words w p us ++ u) (append-nil (zeros m)))
      ∙ stack-formed K w p us [] (zeros m) formed ∙ zeros-zero m

  pub areas-found : (beyond : List ℕ) → tables_in w p (stack_counts us) (workspace_of d w p us beyond) ≡ us
  unfolding workspace_of tables_in
  areas-found beyond =
      ap (λ (ns : List ℕ). tables_in w p ns (workspace_of d w p us beyond)) (sym (append-nil (stack_counts us)))
      ∙ stack-found K w p us [] (zeros ((d - length us) * (p * w)) ++ beyond) formed

-- the counts of the tables, and zeros
counts-taken : (n : ℕ) (us : List (List Pair)) → take (length us) (counts_of n us) ≡ stack_counts us
unfolding counts_of
counts-taken n us = take_at (stack_counts us) (zeros (n - length us)) (length us) (counts-long us)

counts-dropped : (n : ℕ) (us : List (List Pair)) → drop (length us) (counts_of n us) ≡ zeros (n - length us)
unfolding counts_of
counts-dropped n us = drop_at (stack_counts us) (zeros (n - length us)) (length us) (counts-long us)

-- ---- at an offset that a command starts at, or at the end, with the tables us

module _ (K : ℕ) (a : Request) (us : List (List Pair)) (formed : All (Formed K (row_words a.subset_limit) a.pair_limit) us) (deep : length us ≤ depth_of K a.bytes) (at : ℕ) (ws : List ℕ) where
  abbrev w : ℕ
  w = row_words a.subset_limit

  abbrev p : ℕ
  p = a.pair_limit

  abbrev need : ℕ
  need = need_of K a

  abbrev areas : ℕ
  areas = areas_for (depth_of K a.bytes)

  abbrev held : Step
  held = moves K a at us ws

  is_found : found K a held.state held.words ≡ us
  unfolding moves
  is_found =
      ap (λ (ns : List ℕ). tables_in w p ns held.words) (counts-taken depth_limit us)
      ∙ areas-found K w p areas us formed (omega arith) (drop need ws)

  -- another stack in its place
  pub held-again : (next : ℕ) (vs : List (List Pair)) → moves K a next vs held.words ≡ moves K a next vs ws
  unfolding moves
  held-again next vs = rw (areas-dropped K w p areas us formed (omega arith) (drop need ws))

  module _ (z : Counts) (passed : check K a ≡ Passed z) (n : Counts) (here : locate K a.bytes at ≡ Some n) (counted : length us ≡ n.depth) where
    is-formed : is_formed K a n held.state held.words ≡ true
    unfolding is_formed moves
    is-formed =
        rw (eq-eqb (length us) n.depth counted, counts-dropped depth_limit us, zeros-zero (depth_limit - length us), counts-taken depth_limit us, areas-taken K w p areas us formed (omega arith) (drop need ws))
        (areas-formed K w p areas us formed (omega arith))

    formed-here : formed_at K a held.state held.words ≡ Some n
    unfolding formed_at moves
    formed-here = rw (here, is-formed, formed_at)

    step_is : step K a held.state held.words ≡ command K a n held.state held.words
    unfolding step
    step_is = rw (passed, formed-here, step)

    verdict-is : verdict K a held.state held.words ≡ conclusion K a held.state held.words
    unfolding verdict
    verdict-is = rw (passed, formed-here, verdict)

    module _ (c : Command) (next : ℕ) (got : read_at K a.bytes at ≡ Got c next) where
      abbrev vs : List (List Pair)
      vs = act (tables (pairs K) (assumed a)) n.atoms c us

      abbrev fault : ℕ
      fault = pairs_fault p a.subset_limit (newest vs)

      command-is : command K a n held.state held.words ≡ move_to K a next vs held.state held.words
      unfolding command moves
      command-is = rw (got, is_found, command)

      pub step-moves : fault ≡ 0 → step K a held.state held.words ≡ moves K a next vs ws
      unfolding move_to
      step-moves e = step_is ∙ command-is ∙ rw (e, move_to) (held-again next vs)

      pub step-refuses : (f : ℕ) → 0 < f → fault ≡ f → step K a held.state held.words ≡ still (Refused f at) held
      unfolding move_to moves
      step-refuses zero l e = absurd (omega arith)
      step-refuses (suc f) l e = step_is ∙ command-is ∙ rw (e, move_to)

    pub step-ends : at ≡ length a.bytes → step K a held.state held.words ≡ still Ended held
    unfolding command moves
    step-ends e = step_is ∙ rw (past_end K a.bytes at (omega arith), command)

    pub verdict-ends : at ≡ length a.bytes → verdict K a held.state held.words ≡ cond (grounded_accepts K (newest us)) (outcome.Yes 0) outcome.No
    unfolding conclusion moves
    verdict-ends e = verdict-is ∙ rw (eq-eqb at (length a.bytes) e, is_found)

    pub verdict-early : (at ≡ length a.bytes → ⊥) → verdict K a held.state held.words ≡ outcome.Refused bad_record at
    unfolding conclusion moves
    verdict-early e = verdict-is ∙ rw (ne_eqb at (length a.bytes) e)
