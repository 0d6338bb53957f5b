-- The union of the two newest tables of a workspace. Assumes nothing.
use mathlib.Core.Path.{◌≡◌, sym, ap, ap₂, ◌∙◌, subst}
use mathlib.Core.List.{List, [], ◌∷◌, map}
use Prim.Native.Nat.{ℕ, suc, ◌-◌, ◌*◌, ◌≤◌, ◌<◌}
use native.Mathlib.Omega.{arith}
use lib.ListN.{length, length-map}
use Rattle.lists.specs.Lists.{All, products}
use Rattle.lists.specs.Sorted.{compare_numbers, Rising}
use Rattle.lists.proofs.Members.{all_of, products-is}
use Rattle.labels.specs.Labels.{label_count}
use Rattle.semantics.specs.Expressions.{unite_newest}
use Rattle.tables.specs.Definitions.{subsets, pairs, unite_pairs}
use Rattle.values.specs.Values.{valued}
use Rattle.candidates.proofs.Uniting.{united-rising}
use Rattle.rows.specs.Parts.{put, zeros}
use Rattle.rows.specs.Rows.{table_of}
use Rattle.entries.specs.declared.Carry.{Carry}
use Rattle.entries.specs.Carries.{Entry, entry_algebra, value_area}
use Rattle.making.specs.Making.{table_of_all, Finished, entries_at}
use Rattle.workspace.specs.Workspace.{workspace_of, pairs_of, values_from, Acted}
use Rattle.workspace.proofs.Areas.{popped, changed}
use Rattle.workspace.proofs.Values.{Moved}
use Rattle.workspace.proofs.Acting.{sound-pairs, acted}
use Rattle.operands.specs.Operands.{Loaded, united_table}
use Rattle.operands.proofs.Loads.{newer-stands, older-stands, stands-area}

-- the candidates of a union
module _ (carry : Carry) (a b : List Entry) where
  abbrev united : Entry → Entry → Entry
  united = (entry_algebra label_count carry).united

  united-filled : (x y : Entry) → 0 < length (united x y).item
  unfolding entry_algebra valued pairs unite_pairs
  united-filled x y = omega arith

  united-ordered : (x y : Entry) → Rising compare_numbers (subsets (united x y).item)
  unfolding entry_algebra valued pairs
  united-ordered x y = united-rising x.item y.item

  -- what holds of each united entry
  each : (Q : Entry → Type 0) → ((x y : Entry) → Q (united x y)) → All Q (products united a b)
  each Q h = all_of Q (products united a b) (λ z m. let r = products-is united a b m in subst Q r.4 (h r.0 r.1))

  filled : All (λ x. 0 < length x.item) (products united a b)
  filled = each (λ (x : Entry). 0 < length x.item) united-filled

  ordered : All (λ x. Rising compare_numbers (subsets x.item)) (products united a b)
  ordered = each (λ (x : Entry). Rising compare_numbers (subsets x.item)) united-ordered

module _ {carry : Carry} {d w p t n m r : ℕ} {beyond ws ws' vals made vals' : List ℕ} (m' : Moved carry d p (t - 2) r vals made vals') (wide : 2 ≤ w) (two : 2 ≤ t)
    (at behind left right : ℕ) (ea : at ≡ (t - 2) * (p * w)) (eb : behind ≡ (t - 1) * (p * w)) (el : left ≡ values_from carry p (t - 2)) (er : right ≡ values_from carry p (t - 1))
    (f : Finished carry w p at (products (entry_algebra label_count carry).united (entries_at carry w p at m (value_area carry p left vals) ws) (entries_at carry w p behind n (value_area carry p right vals) ws)) r
    ws (put behind (p * w) ws (zeros (p * w))) ws' (value_area carry p (values_from carry p (d - 1)) made)) where
  pub united-acted : (ts : List (List Entry)) → Loaded carry d w p t n m ts beyond ws vals → Acted carry d w p (unite_newest (united_table carry) ts) beyond r ws ws' vals'
  unfolding unite_newest
  united-acted [] h = absurd (omega (arith, h.tables))
  united-acted (b ∷ []) h = absurd (omega (arith, h.tables))
  united-acted (b ∷ a ∷ us) h =
      let i : length us ≡ t - 2 = omega (arith, h.tables) in
      let j : suc (length us) ≡ t - 1 = omega (arith, h.tables) in
      let l = length-map us pairs_of in
      let here : at ≡ length (map pairs_of us) * (p * w) = ea ∙ ap (λ (k : ℕ). k * (p * w)) (sym (l ∙ i)) in
      let there : behind ≡ suc (length (map pairs_of us)) * (p * w) = eb ∙ ap (λ (k : ℕ). k * (p * w)) (sym (ap suc l ∙ j)) in
      let cands = products (entry_algebra label_count carry).united a b in
      let done : Finished carry w p at cands r ws (put behind (p * w) ws (zeros (p * w))) ws' (value_area carry p (values_from carry p (d - 1)) made) =
      subst (λ (xs : List Entry). Finished carry w p at xs r ws (put behind (p * w) ws (zeros (p * w))) ws' (value_area carry p (values_from carry p (d - 1)) made))
      (ap₂ (products (entry_algebra label_count carry).united) (stands-area (older-stands (b ∷ a ∷ us) h two) at m ea h.older left el) (stands-area (newer-stands (b ∷ a ∷ us) h (omega arith)) behind n eb h.newer right er)) f in
      let S = sound-pairs w p us h.holds.sound.1.1 in
      let A = h.holds.sound.1.0 in
      let cleared : put behind (p * w) ws (zeros (p * w)) ≡ workspace_of d w p (pairs_of a ∷ map pairs_of us) beyond =
      ap₂ (λ (k : ℕ) (v : List ℕ). put k (p * w) v (zeros (p * w))) there h.holds.words
      ∙ popped w p d beyond (pairs_of a ∷ map pairs_of us) (A, S) (omega (arith, l, h.holds.free)) (pairs_of b) h.holds.sound.0 in
      acted us (subst (λ (k : ℕ). Moved carry d p k r vals made vals') (sym i) m') wide done beyond (filled carry a b) (ordered carry a b) h.holds.sound.1.1 (omega (arith, h.holds.free)) h.holds.values.1.1 h.holds.roomy
      (λ s. ap₂ (λ (k : ℕ) (v : List ℕ). put k (p * w) v (table_of w p (pairs_of (table_of_all carry cands)))) here cleared
      ∙ changed w p d beyond (map pairs_of us) S (omega (arith, l, h.holds.free)) (pairs_of a) A (pairs_of (table_of_all carry cands)))
