-- The values of the tables of a workspace: those of a table that was made put in. Assumes nothing.
use mathlib.Core.Path.{◌≡◌, refl, sym, ap, ◌∙◌, subst}
use mathlib.Core.List.{List, [], ◌∷◌, ◌++◌}
use Prim.Native.Nat.{ℕ, suc, ◌+◌, ◌-◌, ◌≤◌, ◌<◌}
use native.Mathlib.Nat.{mul-le-mul_right}
use native.Mathlib.Omega.{arith}
use lib.ListN.{length, take, drop, length-map}
use lib.Seq.{length-take-le, drop_at}
use Rattle.lists.specs.Lists.{All}
use Rattle.tables.specs.Definitions.{Pair}
use Rattle.values.specs.declared.Value.{Value}
use Rattle.rows.specs.Parts.{part, put, zeros}
use Rattle.rows.proofs.Tables.{row_within}
use Rattle.rows.proofs.Parts.{part-long, part-put, part_low, part-high, put-long, put-part, put-inner, zeros-long, zeros-append}
use Rattle.entries.specs.declared.Carry.{Carry}
use Rattle.entries.specs.declared.Carry.TheVariants.{Nothing}
use Rattle.entries.specs.Carries.{Entry, in_words, values_in, KeptWords, Kept, value_area, OnlyArea}
use Rattle.entries.specs.Entries.{with_values}
use Rattle.entries.proofs.Keeping.{in-rising, values-by}
use Rattle.entries.proofs.ValueAreas.{area-values}
use Rattle.workspace.specs.Workspace.{pairs_of, values_of, values_from, HeldValues, Roomy, Sound, placed}

-- where nothing is carried there is always room
pub roomy-nothing : (d p : ℕ) (vals : List ℕ) → Roomy Nothing d p vals
roomy-nothing d p vals = record { room = omega arith; clear = refl }

-- r values were made in the last of d areas, and moved to area i where they are not too many
pub record Moved (carry : Carry) (d p i r : ℕ) (vals made vals' : List ℕ) : Type 0 where
  pub long : length made ≡ length vals
  pub only : OnlyArea carry p (values_from carry p (d - 1)) vals made
  pub moved : r ≤ p → vals' ≡ placed carry d p i r made

-- ---- the values held

-- those of the tables below stay
below-stay : (carry : Carry) (p j n o l : ℕ) (vals ys : List ℕ) → values_from carry p j + in_words carry p ≤ o → o ≤ length vals → n ≤ p
    → values_in carry n (drop (values_from carry p j) (put o l vals ys)) ≡ values_in carry n (drop (values_from carry p j) vals)
below-stay carry p j n o l vals ys h m g = values-by carry n _ _ (part_low (values_from carry p j) (in_words carry n) o l vals ys (omega (arith, in-rising carry n p g)) m)

held-stay : (carry : Carry) (w p o l : ℕ) (vals ys : List ℕ) (ts : List (List Entry)) → values_from carry p (length ts) ≤ o → o ≤ length vals → All (λ t. Sound w p (pairs_of t)) ts
    → HeldValues carry p ts vals → HeldValues carry p ts (put o l vals ys)
held-stay carry w p o l vals ys [] h m s g = tt
held-stay carry w p o l vals ys (t ∷ ts) h m s g =
    let z = row_within (length ts) (suc (length ts)) (in_words carry p) (omega arith) in
    (below-stay carry p (length ts) (length t) o l vals ys (omega arith) m (omega (arith, s.0.few, length-map t (λ (x : Entry). x.item))) ∙ g.0, held-stay carry w p o l vals ys ts (omega arith) m s.1 g.1)

-- zeros where words were, before zeros
zeros-behind : (k n : ℕ) (area : List ℕ) → KeptWords k n area → n ≤ k → put 0 n area (zeros n) ≡ zeros k
zeros-behind k n area h l =
    let front : length (take n area) ≡ n = length-take-le n area (omega (arith, h.1)) in
    let back : drop n area ≡ zeros (k - n) = ap (drop n) h.0 ∙ drop_at (take n area) (zeros (k - n)) n front in
    ap (λ (t : List ℕ). zeros n ++ t) back ∙ zeros-append n (k - n) ∙ ap zeros (let z : n + (k - n) ≡ k = omega arith in z)

module _ (carry : Carry) (d p i r : ℕ) (vals : List ℕ) (l : i + 1 < d) (few : r ≤ p) (room : values_from carry p d ≤ length vals) where
  abbrev k : ℕ
  k = in_words carry p

  abbrev n : ℕ
  n = in_words carry r

  abbrev to : ℕ
  to = values_from carry p i

  abbrev from : ℕ
  from = values_from carry p (d - 1)

  less : n ≤ k
  less = in-rising carry r p few

  apart : to + k ≤ from
  apart = row_within i (d - 1) k (omega arith)

  within : from + k ≤ length vals
  within = omega (arith, row_within (d - 1) d k (omega arith), room)

  made-long : length (part from n vals) ≡ n
  made-long = part-long from n vals (omega (arith, less, within))

  -- with the values in their place
  abbrev put_in : List ℕ
  put_in = put to n vals (part from n vals)

  put-in-long : length put_in ≡ length vals
  put-in-long = put-long to n vals (part from n vals) (omega (arith, less, apart, within)) made-long

  pub placed-new : values_in carry r (drop (values_from carry p i) (placed carry d p i r vals)) ≡ values_in carry r (value_area carry p (values_from carry p (d - 1)) vals)
  placed-new =
      values-by carry r _ (drop from vals)
      (part_low to n from n put_in (zeros n) (omega (arith, less, apart)) (omega (arith, within, put-in-long)) ∙ part-put to n vals (part from n vals) (omega (arith, apart, within)) made-long)
      ∙ sym (area-values carry p from r vals few)

  pub placed_below : (w : ℕ) (ts : List (List Entry)) → length ts ≤ i → All (λ t. Sound w p (pairs_of t)) ts → HeldValues carry p ts vals → HeldValues carry p ts (placed carry d p i r vals)
  placed_below w ts h s g =
      let z = mul-le-mul_right k h in
      held-stay carry w p from n put_in (zeros n) ts (omega (arith, apart)) (omega (arith, within, put-in-long)) s
      (held-stay carry w p to n vals (part from n vals) ts z (omega (arith, apart, within)) s g)

  pub placed-roomy : Kept carry p r (value_area carry p (values_from carry p (d - 1)) vals) → Roomy carry d p (placed carry d p i r vals)
  placed-roomy h =
      let T : List ℕ = part from k put_in in
      let same : T ≡ part from k vals = part-high from k to n vals (part from n vals) (omega (arith, less, apart)) within made-long in
      let whole : put from n put_in (zeros n) ≡ put from k put_in (zeros k) =
      ap (λ (u : List ℕ). put from n u (zeros n)) (sym (put-part from k put_in)) ∙ ap (λ (j : ℕ). put j n (put from k put_in T) (zeros n)) (let z : from ≡ from + 0 = omega arith in z)
      ∙ put-inner from k 0 n put_in T (zeros n) (omega (arith, within, put-in-long)) (part-long from k put_in (omega (arith, within, put-in-long))) (omega (arith, less))
      ∙ ap (put from k put_in) (ap (λ (u : List ℕ). put 0 n u (zeros n)) same ∙ zeros-behind k n (part from k vals) h less) in
      record {
        room = omega (arith, room, put-in-long, put-long from n put_in (zeros n) (omega (arith, less, within, put-in-long)) (zeros-long n));
        clear = ap (part from k) whole ∙ part-put from k put_in (zeros k) (omega (arith, within, put-in-long)) (zeros-long k);
      }

-- what is made leaves the values of the tables, and is put beside them
module _ {carry : Carry} {d p i r : ℕ} {vals made vals' : List ℕ} (m : Moved carry d p i r vals made vals') (roomy : Roomy carry d p vals) (l : i + 1 < d) where
  enough : values_from carry p d ≤ length made
  enough = omega (arith, m.long, roomy.room)

  module _ (few : r ≤ p) where
    pub moved_new : values_in carry r (drop (values_from carry p i) vals') ≡ values_in carry r (value_area carry p (values_from carry p (d - 1)) made)
    moved_new = rw (m.moved few) (placed-new carry d p i r made l few enough)

    pub moved-below : (w : ℕ) (ts : List (List Entry)) → length ts ≤ i → All (λ t. Sound w p (pairs_of t)) ts → HeldValues carry p ts vals → HeldValues carry p ts vals'
    moved-below w ts h s g =
        let k = in_words carry p in
        let z = mul-le-mul_right k h in
        let y = row_within (d - 1) d k (omega arith) in
        let x = row_within i (d - 1) k (omega arith) in
        rw (m.moved few) (placed_below carry d p i r made l few enough w ts h s
        (subst (HeldValues carry p ts) (sym m.only) (held-stay carry w p (values_from carry p (d - 1)) k vals (value_area carry p (values_from carry p (d - 1)) made) ts (omega arith) (omega (arith, roomy.room)) s g)))

    pub moved-roomy : Kept carry p r (value_area carry p (values_from carry p (d - 1)) made) → Roomy carry d p vals'
    moved-roomy h = rw (m.moved few) (placed-roomy carry d p i r made l few enough h)

-- ---- entries of pairs and values

pub with-both : (t : List Entry) → with_values (pairs_of t) (values_of t) ≡ t
unfolding with_values
with-both [] = refl
with-both (x ∷ t) = ap (λ (l : List Entry). x ∷ l) (with-both t)

pub values-with : (xs : List Pair) (vs : List Value) → length vs ≡ length xs → values_of (with_values xs vs) ≡ vs
unfolding with_values
values-with [] [] e = refl
values-with [] (v ∷ vs) e = absurd (omega arith)
values-with (x ∷ xs) [] e = absurd (omega arith)
values-with (x ∷ xs) (v ∷ vs) e = ap (λ (l : List Value). v ∷ l) (values-with xs vs (omega arith))
