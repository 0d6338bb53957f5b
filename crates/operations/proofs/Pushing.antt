-- The table of a leaf as the newest of a workspace. Assumes nothing.
use mathlib.Core.Path.{◌≡◌, refl, sym, ap, ap₂, ◌∙◌, subst}
use mathlib.Core.Bool.{Bool, true, false, cond}
use mathlib.Core.List.{List, [], ◌∷◌, map}
use Prim.Native.Nat.{ℕ, ◌+◌, ◌-◌, ◌*◌, ◌≤◌, ◌<◌}
use native.Mathlib.Omega.{arith}
use lib.ListN.{length, length-map}
use Rattle.lists.specs.Lists.{All}
use Rattle.lists.specs.Sorted.{compare_numbers, Rising}
use Rattle.lists.proofs.Members.{all_append}
use Rattle.expression.specs.declared.NewAtom.{NewAtom}
use Rattle.tables.specs.Definitions.{subsets, pairs, flat}
use Rattle.tables.proofs.Subsets.{left-out-rising}
use Rattle.values.specs.Values.{valued}
use Rattle.rows.specs.Parts.{part, put}
use Rattle.rows.specs.Rows.{table_of}
use Rattle.rows.proofs.Tables.{row_within}
use Rattle.entries.specs.declared.Carry.{Carry}
use Rattle.entries.specs.Carries.{Entry, in_words, Kept}
use Rattle.entries.proofs.ValueAreas.{Back, area-span, only-start, lent_back}
use Rattle.making.specs.Making.{table_of_all, Finished}
use Rattle.leaves.specs.declared.Atom.{Atom}
use Rattle.leaves.specs.declared.Tables.{Tables}
use Rattle.leaves.specs.declared.Tables.TheVariants.{Plain, Pairs}
use Rattle.leaves.specs.Leaves.{algebra_of, table_algebra, present_entry, absent_entry, leaf_entries}
use Rattle.workspace.specs.Workspace.{pairs_of, values_from, placed, Acted}
use Rattle.workspace.proofs.Values.{Moved}
use Rattle.workspace.proofs.Areas as areas
use Rattle.workspace.proofs.Acting.{sound-pairs, acted}
use Rattle.operands.specs.Operands.{Loaded}
use Rattle.operations.specs.Operations.{pushed}
use Rattle.operands.proofs.Loads.{values-apart, none_made, inside}

-- an entry whose pair has a triple, and rising subsets
abbrev Filled : Entry → Type 0
Filled x = 0 < length x.item

abbrev Ordered : Entry → Type 0
Ordered x = Rising compare_numbers (subsets x.item)

-- ---- the candidates of a leaf

where-so : (Q : Entry → Type 0) (b : Bool) (x : Entry) → Q x → All Q (cond b (x ∷ []) [])
where-so Q true x h = (h, tt)
where-so Q false x h = tt

present-filled : (kind : Tables) (x : Atom) (g : NewAtom) → Filled (present_entry kind x g) × Ordered (present_entry kind x g)
unfolding algebra_of pairs flat Rising
present-filled Plain x g = (omega arith, tt)
present-filled Pairs x g = (omega arith, left-out-rising g.role _)

absent-filled : (kind : Tables) (x : Atom) (g : NewAtom) → Filled (absent_entry kind x g) × Ordered (absent_entry kind x g)
unfolding algebra_of pairs flat Rising
absent-filled Plain x g = (omega arith, tt)
absent-filled Pairs x g = (omega arith, tt)

module _ (kind : Tables) (x : Atom) (g : NewAtom) where
  of-leaf : (Q : Entry → Type 0) → Q (present_entry kind x g) → Q (absent_entry kind x g) → All Q (leaf_entries kind x g)
  unfolding leaf_entries
  of-leaf Q h k =
      all_append Q (cond x.may_be_in (present_entry kind x g ∷ []) []) (cond x.may_be_out (absent_entry kind x g ∷ []) [])
      (where-so Q x.may_be_in (present_entry kind x g) h) (where-so Q x.may_be_out (absent_entry kind x g) k)

  pub leaf-filled : All Filled (leaf_entries kind x g)
  leaf-filled = of-leaf Filled (present-filled kind x g).0 (absent-filled kind x g).0

  pub leaf-ordered : All Ordered (leaf_entries kind x g)
  leaf-ordered = of-leaf Ordered (present-filled kind x g).1 (absent-filled kind x g).1

module _ (carry : Carry) where
  unmet-filled : (kind : Tables) (g : ℕ) → Filled ((table_algebra kind carry).unmet g) × Ordered ((table_algebra kind carry).unmet g)
  unfolding table_algebra algebra_of valued pairs flat Rising
  unmet-filled Plain g = (omega arith, tt)
  unmet-filled Pairs g = (omega arith, tt)

  pub rule-filled : (kind : Tables) (g : ℕ) → All Filled ((table_algebra kind carry).unmet g ∷ [])
  rule-filled kind g = ((unmet-filled kind g).0, tt)

  pub rule-ordered : (kind : Tables) (g : ℕ) → All Ordered ((table_algebra kind carry).unmet g ∷ [])
  rule-ordered kind g = ((unmet-filled kind g).1, tt)

-- ---- the table

-- a free area takes it, behind which it is made; its values are made in the last area, of k words at word o
module _ {carry : Carry} {d w p t n m : ℕ} {ts : List (List Entry)} {beyond ws vals : List ℕ} (h : Loaded carry d w p t n m ts beyond ws vals) (free : t + 1 < d) where
  pub one-fits : p * w ≤ length ws
  one-fits = omega (arith, inside h 0 (omega (arith, free)))

  pub new-fits : t * (p * w) + p * w ≤ length ws
  new-fits = inside h t (omega (arith, free))

  pub scratch-fits : (d - 1) * (p * w) + p * w ≤ length ws
  scratch-fits = inside h (d - 1) (omega (arith, free))

  pub new-below : t * (p * w) + p * w ≤ (d - 1) * (p * w)
  new-below = row_within t (d - 1) (p * w) (omega (arith, free))

  module _ (o k : ℕ) (eo : o ≡ values_from carry p (d - 1)) (ek : k ≡ in_words carry p) where
    fits : o + in_words carry p ≤ length vals
    fits = (values-apart h.holds.roomy t free (values_from carry p t) o refl eo).within

    pub values-fit : o + k ≤ length vals
    values-fit = omega (arith, ek, fits)

    pub no-values : Kept carry p 0 (part o (o + k - o) vals)
    no-values = rw (area-span carry p o k ek) (none_made h.holds.roomy o eo)

    -- what comes back from there
    pub made-back : (ys : List ℕ) → length ys ≡ length (part o (o + k - o) vals) → Back carry p (values_from carry p (d - 1)) vals (put o (o + k - o) vals ys) ys
    made-back ys long = subst (λ (j : ℕ). Back carry p j vals (put o (o + k - o) vals ys) ys) eo (lent_back carry p o vals vals (only-start carry p o vals) fits refl k ek ys long)

module _ {carry : Carry} {d w p t n m r : ℕ} {ws ws' vals vals' : List ℕ} {cands : List Entry} (wide : 2 ≤ w) (free : t + 1 < d)
    (o k : ℕ) (eo : o ≡ values_from carry p (d - 1)) (ek : k ≡ in_words carry p) (ys : List ℕ) (long : length ys ≡ length (part o (o + k - o) vals))
    (f : Finished carry w p (t * (p * w)) cands r ws ws ws' ys) (filled : All Filled cands) (ordered : All Ordered cands)
    (moved : r ≤ p → vals' ≡ placed carry d p t r (put o (o + k - o) vals ys)) where
  pub pushed-acted : (ts : List (List Entry)) (beyond : List ℕ) → Loaded carry d w p t n m ts beyond ws vals → Acted carry d w p (pushed (table_of_all carry cands) ts) beyond r ws ws' vals'
  pushed-acted ts beyond h =
      let l = length-map ts pairs_of in
      let here : t * (p * w) ≡ length (map pairs_of ts) * (p * w) = ap (λ (k : ℕ). k * (p * w)) (sym (l ∙ h.tables)) in
      let B = made-back h free o k eo ek ys long in
      let M : Moved carry d p t r vals (put o (o + k - o) vals ys) vals' = record { long = B.long; only = B.only; moved = moved } in
      acted ts (subst (λ (j : ℕ). Moved carry d p j r vals (put o (o + k - o) vals ys) vals') (sym h.tables) M) wide
      (subst (Finished carry w p (t * (p * w)) cands r ws ws ws') (sym B.there) f) beyond filled ordered
      h.holds.sound (omega (arith, h.tables)) h.holds.values h.holds.roomy
      (λ s. ap₂ (λ (k : ℕ) (v : List ℕ). put k (p * w) v (table_of w p (pairs_of (table_of_all carry cands)))) here h.holds.words
      ∙ areas.pushed w p d beyond (map pairs_of ts) (sound-pairs w p ts h.holds.sound) (omega (arith, l, h.tables)) (pairs_of (table_of_all carry cands)))
