-- A command on tables that carry nothing is the command of the definition on tables of pairs. Assumes nothing.
use mathlib.Core.Path.{◌≡◌, refl, sym, ap, ap₂, ◌∙◌}
use mathlib.Core.List.{List, map}
use Prim.Native.Nat.{ℕ, ◌+◌, ◌-◌, ◌*◌, ◌≤◌, ◌<◌}
use native.Mathlib.Omega.{arith}
use lib.ListN.{length, drop}
use Rattle.labels.specs.Labels.{label_count}
use Rattle.expression.specs.declared.Command.{Command}
use Rattle.expression.specs.Limits.{depth_limit, areas_for}
use Rattle.expression.specs.Checks.{Request, depth_of}
use Rattle.semantics.specs.Expressions.{act}
use Rattle.semantics.specs.AnswerSets.{by_masks}
use Rattle.tables.specs.Algebras.{tables}
use Rattle.tables.specs.Definitions.{Pair, pairs}
use Rattle.tables.proofs.Answers.{pairs-lawful}
use Rattle.semantics.proofs.Homomorphisms.{act-map}
use Rattle.tables.proofs.Morphisms.{tables-map}
use Rattle.values.proofs.Items.{item-morphism}
use Rattle.decisions.specs.Decisions.{assumed, pairs_fault, newest}
use Rattle.entries.specs.declared.Carry.TheVariants.{Nothing}
use Rattle.entries.specs.Carries.{Entry, carried_by}
use Rattle.leaves.specs.declared.Tables.TheVariants.{Pairs}
use Rattle.leaves.specs.Leaves.{algebra_of, table_algebra}
use Rattle.workspace.specs.Workspace.{workspace_of, pairs_of, counts_of, fault_of}
use Rattle.stacks.proofs.Clearing.{counts-pairs}
use Rattle.advances.specs.Advances.{Advanced}
use Rattle.advances.proofs.Steps.{fault-none, fault-some}
use Rattle.records.specs.declared.Record.{Record}
use Rattle.records.specs.Steps.{moves, move_to}
use Rattle.records.specs.declared.Answer.TheVariants.{Moved, Refused}
use Rattle.starts.specs.Stepping.{Follows}
use Rattle.starts.proofs.Cases.{by-stays, by_all, move-done, move-refused}
use Rattle.advances.proofs.Bare.{bare, bare-tables, newest-pairs}

module _ (a : Request) (n : ℕ) (c : Command) (ts : List (List Pair)) where
  -- the tables that the code makes, and those of the definition
  abbrev pub made : List (List Entry)
  made = act (tables (table_algebra Pairs Nothing) (by_masks a.assumed_true a.assumed_false)) n c (map bare ts)

  abbrev pub meant : List (List Pair)
  meant = act (tables (pairs label_count) (assumed a)) n c ts

  made-meant : map pairs_of made ≡ meant
  unfolding table_algebra algebra_of assumed
  made-meant =
      act-map (tables-map (item-morphism (pairs label_count) (carried_by Nothing) (pairs-lawful label_count).keeps) (assumed a)) n c (map bare ts)
      ∙ ap (act (tables (pairs label_count) (assumed a)) n c) (bare-tables ts)

  abbrev w : ℕ
  w = a.subset_limit + 2

  abbrev p : ℕ
  p = a.pair_limit

  abbrev d : ℕ
  d = areas_for (depth_of label_count a.bytes)

  module _ {beyond : List ℕ} {k : ℕ} {ws counts ws' vals' counts' : List ℕ} (h : Advanced Nothing d w p made beyond k ws counts ws' vals' counts') where
    same-fault : pairs_fault p a.subset_limit (newest meant) ≡ fault_of p k
    same-fault =
        ap (λ (us : List (List Pair)). pairs_fault p a.subset_limit (newest us)) (sym made-meant)
        ∙ ap₂ (pairs_fault p) (let z : a.subset_limit ≡ a.subset_limit + 2 - 2 = omega arith in z) (newest-pairs made) ∙ sym h.fault

    module _ (next : ℕ) (r : Record) where
      -- 15 or 16: nothing changed
      pub refused-follows : p < k → (f : ℕ) → f ≡ fault_of p k → Follows (move_to label_count a next meant r ws) r (Refused f r.place) ws'
      refused-follows l f e =
          let F : pairs_fault p a.subset_limit (newest meant) ≡ f = same-fault ∙ sym e in
          let x = by-stays (move-refused label_count a r ws next meant f (rw e (fault-some p k l)) F) (Refused f r.place) refl in
          (x.0, x.1, (h.same l).0 ∙ x.2)

      -- the tables stand in the words, and their counts
      pub moved-follows : k ≤ p → beyond ≡ drop (d * (p * w)) ws → (t : ℕ) → t ≡ length meant → Follows (move_to label_count a next meant r ws) (record { place = next; tables = t; counts = counts' }) Moved ws'
      unfolding moves
      moved-follows l b t e =
          let S = h.stands l in
          let kept : counts' ≡ counts_of depth_limit meant = S.tallies ∙ sym (counts-pairs depth_limit made) ∙ ap (counts_of depth_limit) made-meant in
          let held : ws' ≡ workspace_of d w p meant (drop (d * (p * w)) ws) = S.holds.words ∙ ap₂ (workspace_of d w p) made-meant b in
          by_all (move-done label_count a r ws next meant (same-fault ∙ fault-none p k l)) (ap₂ (λ (x : ℕ) (y : List ℕ). record { place = next; tables = x; counts = y }) e kept, refl, held)
