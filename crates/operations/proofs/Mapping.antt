-- Relabels, connects and unions with a rule on the newest table of a workspace. Assumes nothing.
use mathlib.Core.Path.{◌≡◌, sym, ap, ap₂, ◌∙◌, subst}
use mathlib.Core.List.{List, [], ◌∷◌, map}
use Prim.Native.Nat.{ℕ, ◌-◌, ◌*◌, ◌≤◌, ◌<◌}
use native.Mathlib.Omega.{arith}
use lib.ListN.{length, length-map}
use Rattle.lists.specs.Lists.{All}
use Rattle.lists.specs.Sorted.{compare_numbers, Rising, set_of}
use Rattle.lists.proofs.Canon.{rising-canon}
use Rattle.lists.proofs.Comparisons.{numbers-lawful}
use Rattle.labels.specs.Labels.{label_count}
use Rattle.expression.specs.declared.Command.{Command}
use Rattle.semantics.specs.Expressions.{change_newest}
use Rattle.tables.specs.Definitions.{Pair, subsets}
use Rattle.batches.specs.Batches.{cleaned, batch_pair}
use Rattle.rows.specs.Parts.{put}
use Rattle.rows.specs.Rows.{table_of}
use Rattle.entries.specs.declared.Carry.{Carry}
use Rattle.entries.specs.Carries.{Entry, value_area}
use Rattle.making.specs.Making.{Finished, entries_at}
use Rattle.maps.specs.Maps.{batched, batched_table}
use Rattle.workspace.specs.Workspace.{pairs_of, values_from, Acted}
use Rattle.workspace.proofs.Areas.{changed}
use Rattle.workspace.proofs.Values.{Moved}
use Rattle.workspace.proofs.Acting.{sound-pairs, acted}
use Rattle.operands.specs.Operands.{Loaded}
use Rattle.operands.proofs.Loads.{newer-stands, stands-area}

-- the candidates of a map
module _ (cs : List Command) where
  batched-filled : (x : Entry) → 0 < length (batched cs x).item
  unfolding batch_pair cleaned
  batched-filled x = omega arith

  pub batched-rising : (x : Pair) → Rising compare_numbers (subsets (batch_pair label_count cs x))
  unfolding batch_pair cleaned set_of
  batched-rising x = rising-canon numbers-lawful _

  each : (Q : Entry → Type 0) → ((x : Entry) → Q (batched cs x)) → (t : List Entry) → All Q (map (batched cs) t)
  each Q h [] = tt
  each Q h (x ∷ t) = (h x, each Q h t)

  filled : (t : List Entry) → All (λ x. 0 < length x.item) (map (batched cs) t)
  filled = each (λ (x : Entry). 0 < length x.item) batched-filled

  ordered : (t : List Entry) → All (λ x. Rising compare_numbers (subsets x.item)) (map (batched cs) t)
  ordered = each (λ (x : Entry). Rising compare_numbers (subsets x.item)) (λ x. batched-rising x.item)

module _ {carry : Carry} {d w p t n m : ℕ} {beyond ws vals : List ℕ} (cs : List Command) (wide : 2 ≤ w) (one : 1 ≤ t) (at : ℕ) (ea : at ≡ (t - 1) * (p * w)) where
  module _ {r : ℕ} {ws' made vals' : List ℕ} (m' : Moved carry d p (t - 1) r vals made vals') (o : ℕ) (eo : o ≡ values_from carry p (t - 1))
      (f : Finished carry w p at (map (batched cs) (entries_at carry w p at n (value_area carry p o vals) ws)) r ws ws ws' (value_area carry p (values_from carry p (d - 1)) made)) where
    pub mapped-acted : (ts : List (List Entry)) → Loaded carry d w p t n m ts beyond ws vals → Acted carry d w p (change_newest (batched_table carry cs) ts) beyond r ws ws' vals'
    unfolding change_newest
    mapped-acted [] h = absurd (omega (arith, h.tables))
    mapped-acted (x ∷ us) h =
        let i : length us ≡ t - 1 = omega (arith, h.tables) in
        let l = length-map us pairs_of in
        let here : at ≡ length (map pairs_of us) * (p * w) = ea ∙ ap (λ (k : ℕ). k * (p * w)) (sym (l ∙ i)) in
        let done : Finished carry w p at (map (batched cs) x) r ws ws ws' (value_area carry p (values_from carry p (d - 1)) made) =
        subst (λ (xs : List Entry). Finished carry w p at (map (batched cs) xs) r ws ws ws' (value_area carry p (values_from carry p (d - 1)) made)) (stands-area (newer-stands (x ∷ us) h one) at n ea h.newer o eo) f in
        acted us (subst (λ (k : ℕ). Moved carry d p k r vals made vals') (sym i) m') wide done beyond (filled cs x) (ordered cs x) h.holds.sound.1 h.holds.free h.holds.values.1 h.holds.roomy
        (λ s. ap₂ (λ (k : ℕ) (v : List ℕ). put k (p * w) v (table_of w p (pairs_of (batched_table carry cs x)))) here h.holds.words
        ∙ changed w p d beyond (map pairs_of us) (sound-pairs w p us h.holds.sound.1) (omega (arith, l, h.holds.free)) (pairs_of x) h.holds.sound.0 (pairs_of (batched_table carry cs x)))
