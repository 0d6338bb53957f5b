-- The verdict of a record that has come to the end: its one table is the first of the workspace. Assumes nothing.
use Rattle.std.specs.Prelude.{Option, Some, None, Ok}
use Rattle.std.specs.Option.{option_and}
use mathlib.Core.Path.{◌≡◌, refl, sym, ap, ◌∙◌}
use mathlib.Core.Bool.{Bool, true, false, cond}
use mathlib.Core.List.{List, [], map}
use Prim.Native.Nat.{ℕ, ◌+◌, ◌*◌, ◌≤◌}
use native.Mathlib.Omega.{arith}
use lib.ListN.{length, drop, get_or}
use Rattle.labels.specs.Labels.{label_count}
use Rattle.expression.specs.declared.Counts.{Counts}
use Rattle.expression.specs.declared.Outcome.TheVariants.{Yes, No}
use Rattle.expression.specs.Told.{outcome_of}
use Rattle.expression.specs.Limits.{depth_limit, row_words, areas_for}
use Rattle.expression.specs.Checks.{Passed, Request, check, depth_of, need_of}
use Rattle.expression.proofs.Accepted.{check-accepted}
use Rattle.expression.proofs.Remaining.{remains-end}
use Rattle.tables.specs.Definitions.{accepting, grounded_accepts}
use Rattle.decisions.specs.Decisions.{newest}
use Rattle.rows.specs.Parts.{part}
use Rattle.rows.specs.Rows.{Rows}
use Rattle.entries.specs.declared.Carry.TheVariants.{Nothing}
use Rattle.entries.specs.Carries.{Entry}
use Rattle.making.specs.Making.{entries_at}
use Rattle.workspace.specs.Workspace.{pairs_of}
use Rattle.stacks.specs.Stacks.{count_below}
use Rattle.answers.specs.Answers.{least_of, total_of}
use Rattle.answers.proofs.Accepting.{none-denies, worth-affirms}
use Rattle.advances.specs.Advances.{Stands}
use Rattle.advances.proofs.Last.{last-rows, last-entries}
use Rattle.records.specs.declared.Record.{Record}
use Rattle.records.specs.Steps.{found, formed_at, conclusion}
use Rattle.verdicts.proofs.Cases.{conclusion-ended}
use Rattle.advances.proofs.Bare.{bare, bare-tables, newest-pairs}
use Rattle.record_tests.proofs.Forming.{here, deep, long, bare-many, stands}

-- the count of one table
only-count : (t : ℕ) (counts : List ℕ) → t ≡ 1 → get_or counts 0 0 ≡ count_below t 1 counts
only-count t counts e = rw e

module _ (a : Request) (r : Record) (ws : List ℕ) {z n : Counts} (passed : check label_count a ≡ Passed z) (formed : formed_at label_count a r ws ≡ Some n) (room : a.room ≡ length ws)
    (eight : length r.counts ≡ depth_limit) (end : r.place ≡ length a.bytes) where
  abbrev w : ℕ
  w = row_words a.subset_limit

  abbrev p : ℕ
  p = a.pair_limit

  abbrev us : List (List Entry)
  us = map bare (found label_count a r ws)

  one : r.tables ≡ 1
  one =
      let h = here a r ws passed formed room eight in
      let e = remains-end label_count a.bytes r.place n h.0 z (omega (arith, end)) h.1 in
      deep a r ws passed formed room eight ∙ ap (λ (x : Counts). x.depth) e.1 ∙ (check-accepted label_count a z passed).joined.joined

  abbrev first : ℕ
  first = get_or r.counts 0 0

  pub first-within : 0 + p * w ≤ length ws
  first-within = omega (arith, long a r ws passed formed room eight)

  standing : Stands Nothing (areas_for (depth_of label_count a.bytes)) w p us (drop (need_of label_count a) ws) ws [] r.counts
  standing = stands a r ws passed formed room eight refl

  pub first_rows : Rows w p first (part 0 (p * w) ws)
  first_rows = last-rows standing r.tables (bare-many a r ws passed formed room eight) one first (only-count r.tables r.counts one)

  first-entries : entries_at Nothing w p 0 first [] ws ≡ newest us
  first-entries = last-entries standing r.tables (bare-many a r ws passed formed room eight) one first (only-count r.tables r.counts one)

  first-pairs : pairs_of (newest us) ≡ newest (found label_count a r ws)
  first-pairs = sym (newest-pairs us) ∙ ap newest (bare-tables (found label_count a r ws))

  -- what is found in it
  module _ (x : Option ℕ) (e : total_of x ≡ least_of (accepting label_count) (entries_at Nothing w p 0 first [] ws)) where
    least : least_of (accepting label_count) (newest us) ≡ total_of x
    least = ap (least_of (accepting label_count)) (sym first-entries) ∙ sym e

    by : (b : Bool) → grounded_accepts label_count (pairs_of (newest us)) ≡ b → conclusion label_count a r ws ≡ cond b (Yes 0) No
    by b f = conclusion-ended label_count a r ws end ∙ ap (λ (c : Bool). cond c (Yes 0) No) (ap (grounded_accepts label_count) (sym first-pairs) ∙ f)

    pub concludes-no : x ≡ None → conclusion label_count a r ws ≡ No
    concludes-no f = by false (none-denies label_count (newest us) (least ∙ ap total_of f))

    pub concludes-yes : (v : ℕ) → x ≡ Some v → conclusion label_count a r ws ≡ Yes 0
    concludes-yes v f = by true (worth-affirms label_count (newest us) v (least ∙ ap total_of f))

  -- told without the value
  pub concludes : (x : Option ℕ) → total_of x ≡ least_of (accepting label_count) (entries_at Nothing w p 0 first [] ws) → outcome_of (Ok (option_and x (Some 0))) ≡ conclusion label_count a r ws
  concludes None e = sym (concludes-no None e refl)
  concludes (Some v) e = sym (concludes-yes (Some v) e v refl)
