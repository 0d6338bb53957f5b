-- A table written out in its order over another, row by row. Assumes nothing.
use mathlib.Core.Path.{◌≡◌, sym, ap, ap₂, ◌∙◌, subst}
use mathlib.Core.List.{List, [], ◌∷◌, ◌++◌, append_assoc}
use Prim.Native.Nat.{ℕ, suc, ◌+◌, ◌*◌, ◌≤◌, ◌<◌, max}
use native.Mathlib.Numerals.{add-one}
use native.Mathlib.Omega.{arith}
use lib.ListN.{length, take, drop, get_or, length-append, length-drop}
use lib.Seq.{take_all, length-take-le, take_at, drop-append-add, drop-drop, take-suc}
use Rattle.lists.specs.Lists.{All}
use Rattle.lists.proofs.Members.{all_append, all_take, all_drop}
use Rattle.tables.specs.Definitions.{Pair}
use Rattle.candidates.specs.Candidates.{pair_of, Readable}
use Rattle.rows.specs.Parts.{part, put, Apart}
use Rattle.rows.specs.Rows.{row_of, Fit, table_of, rows_in, IsRow, Rows, slot, sorted_of, Indexed}
use Rattle.rows.proofs.Parts.{part-put, part-part, part-high, put-inner, put-part, put-put, put-long}
use Rattle.rows.proofs.Tables.{row_within, length-table, slot_row, table-put, length-rows_in, rows_of}
use Rattle.rows.proofs.Indexing.{sorted-long, sorted-fit, sorted-at, place-lt, slot-readable}

-- a row of the table that is made at `from` lies there
source_within : {w p m to from : ℕ} {index : List ℕ} (ws : List ℕ) (s : ℕ) → Apart to from (p * w) (length ws) → Indexed w p m (part from (p * w) ws) index → s < m
    → from + s * w + w ≤ length ws
source_within {w} {p} ws s a h k = omega (arith, row_within s p w (omega (arith, h.room)), a.within)

-- so does the row that place i of the index names
pub named_within : {w p m to from : ℕ} {index : List ℕ} (ws : List ℕ) (i : ℕ) → Apart to from (p * w) (length ws) → Indexed w p m (part from (p * w) ws) index → i < m
    → from + get_or index i 0 * w + w ≤ length ws
named_within {index = index} ws i a h l = source_within ws (get_or index i 0) a h (place-lt h i l)

module _ (w p m n to from : ℕ) (ws index : List ℕ) (a : Apart to from (p * w) (length ws)) (g : 2 ≤ w) (t : Rows w p n (part to (p * w) ws)) (h : Indexed w p m (part from (p * w) ws) index) where
  abbrev new : List Pair
  new = sorted_of w m (part from (p * w) ws) index

  abbrev old : List Pair
  old = rows_in w n (part to (p * w) ws)

  -- the first i rows are new, the others old
  abbrev pub half : ℕ → List Pair
  half i = take i new ++ drop i old

  abbrev pub Written : ℕ → List ℕ → Type 0
  Written i vs = vs ≡ put to (p * w) ws (table_of w p (half i))

  half-fit : (i : ℕ) → All (Fit w) (half i)
  half-fit i = all_append (Fit w) (take i new) (drop i old) (all_take (Fit w) i new (sorted-fit h)) (all_drop (Fit w) i old t.fit)

  front : (i : ℕ) → i ≤ m → length (take i new) ≡ i
  front i l = length-take-le i new (omega (arith, sorted-long h))

  half-long : (i : ℕ) → i ≤ m → (i ≤ length (half i)) × (length (half i) ≤ p)
  half-long i l =
      let e = length-append (take i new) (drop i old) in
      (omega (arith, front i l), omega (arith, front i l, length-drop i old, length-rows_in w n (part to (p * w) ws), t.room, h.room))

  table-long : (i : ℕ) → i ≤ m → length (table_of w p (half i)) ≡ p * w
  table-long i l = length-table w p (half i) (half-fit i) (half-long i l).1

  pub written-long : (i : ℕ) (vs : List ℕ) → i ≤ m → Written i vs → length vs ≡ length ws
  written-long i vs l e = ap length e ∙ put-long to (p * w) ws (table_of w p (half i)) (omega (arith, a.before, a.within)) (table-long i l)

  pub written_none : Written 0 ws
  written_none = sym (put-part to (p * w) ws) ∙ ap (put to (p * w) ws) t.words

  -- a row of the table that is being made
  pub source_is : (i s : ℕ) (vs : List ℕ) → i ≤ m → s < m → Written i vs → part (from + s * w) w vs ≡ slot w s (part from (p * w) ws)
  source_is i s vs l k e =
      let z = row_within s p w (omega (arith, h.room)) in
      ap (part (from + s * w) w) e
      ∙ part-high (from + s * w) w to (p * w) ws (table_of w p (half i)) (omega (arith, a.before)) (omega (arith, a.within)) (table-long i l)
      ∙ sym (part-part from (p * w) (s * w) w ws (omega arith) a.within)

  pub source-readable : (i s : ℕ) (vs : List ℕ) → i ≤ m → s < m → Written i vs → Readable (part (from + s * w) w vs)
  source-readable i s vs l k e = rw (source_is i s vs l k e) (slot-readable h s k)

  -- the row that place i of the index names is the next one
  pub source-named : (i : ℕ) (vs : List ℕ) → i < m → Written i vs → pair_of (part (from + get_or index i 0 * w) w vs) ≡ get_or new i []
  source-named i vs l e = ap pair_of (source_is i (get_or index i 0) vs (omega arith) (place-lt h i l) e) ∙ sym (sorted-at h i l)

  -- the row that it is written over
  pub target_row : (i : ℕ) (vs : List ℕ) → i < m → Written i vs → IsRow w (part (to + i * w) w vs)
  target_row i vs l e =
      let z = row_within i p w (omega (arith, h.room)) in
      let q : part (to + i * w) w vs ≡ slot w i (table_of w p (half i)) =
      ap (part (to + i * w) w) e
      ∙ sym (part-part to (p * w) (i * w) w (put to (p * w) ws (table_of w p (half i))) (omega arith) (omega (arith, sym (ap length e) ∙ written-long i vs (omega arith) e, a.before, a.within)))
      ∙ ap (part (i * w) w) (part-put to (p * w) ws (table_of w p (half i)) (omega (arith, a.before, a.within)) (table-long i (omega arith))) in
      rw q (slot_row w p (half i) i g (half-fit i) (half-long i (omega arith)).1 (omega (arith, h.room)))

  half-more : (i : ℕ) → i < m → take i (half i) ++ get_or new i [] ∷ drop (suc i) (half i) ≡ half (i + 1)
  half-more i l =
      let e : drop (suc i) (half i) ≡ drop (suc i) old =
      ap (λ (j : ℕ). drop j (half i)) (let z : suc i ≡ length (take i new) + 1 = omega (arith, front i (omega arith)) in z)
      ∙ drop-append-add (take i new) (drop i old) 1 ∙ drop-drop 1 i old ∙ ap (λ (j : ℕ). drop j old) (add-one i) in
      rw (take_at (take i new) (drop i old) i (front i (omega arith)), e, add-one i, take-suc new i [] (omega (arith, sorted-long h)))
      (sym (append_assoc (take i new) (get_or new i [] ∷ []) (drop (suc i) old)))

  pub written-more : (i : ℕ) (vs : List ℕ) → i < m → Written i vs → Written (i + 1) (put (to + i * w) w vs (row_of w (get_or new i [])))
  written-more i vs l e =
      let z = row_within i p w (omega (arith, h.room)) in
      ap (λ (x : List ℕ). put (to + i * w) w x (row_of w (get_or new i []))) e
      ∙ put-inner to (p * w) (i * w) w ws (table_of w p (half i)) (row_of w (get_or new i [])) (omega (arith, a.before, a.within)) (table-long i (omega arith)) (omega arith)
      ∙ ap (put to (p * w) ws) (table-put w p (half i) (get_or new i []) i (half-fit i) (half-long i (omega arith)).0 (omega (arith, h.room)) ∙ ap (table_of w p) (half-more i l))

  -- ---- all rows written: the target has the larger count of rows, the area that they come from is as it was

  all : take m new ≡ new
  all = take_all m new (omega (arith, sorted-long h))

  abbrev pub both : List Pair
  both = new ++ drop m old

  both_is : half m ≡ both
  both_is = ap (λ (t : List Pair). t ++ drop m old) all

  both_long : length both ≡ max m n
  both_long = length-append new (drop m old) ∙ omega (arith, sorted-long h, length-drop m old, length-rows_in w n (part to (p * w) ws))

  both-fit : All (Fit w) both
  both-fit = subst (All (Fit w)) both_is (half-fit m)

  most : max m n ≤ p
  most = omega (arith, t.room, h.room)

  module _ (vs : List ℕ) (e : vs ≡ put to (p * w) ws (table_of w p both)) where
    long' : length (table_of w p both) ≡ p * w
    long' = length-table w p both both-fit (omega (arith, both_long, most))

    target : part to (p * w) vs ≡ table_of w p both
    target = ap (part to (p * w)) e ∙ part-put to (p * w) ws (table_of w p both) (omega (arith, a.before, a.within)) long'

    pub target-rows : Rows w p (max m n) (part to (p * w) vs)
    target-rows = (rows_of w p (max m n) both (part to (p * w) vs) target both_long most both-fit).0

    -- the rows that stay are the new ones
    target_left : take m (rows_in w (max m n) (part to (p * w) vs)) ≡ new
    target_left = ap (take m) (rows_of w p (max m n) both (part to (p * w) vs) target both_long most both-fit).1 ∙ take_at new (drop m old) m (sorted-long h)

    abbrev cleared-to : List ℕ
    cleared-to = put to (p * w) ws (table_of w p new)

    pub target-cleared : (ys : List ℕ) → ys ≡ table_of w p (take m (rows_in w (max m n) (part to (p * w) vs))) → put to (p * w) vs ys ≡ cleared-to
    target-cleared ys q =
        ap₂ (λ (x : List ℕ) (y : List ℕ). put to (p * w) x y) e (q ∙ ap (table_of w p) target_left)
        ∙ put-put to (p * w) ws (table_of w p both) (table_of w p new) (omega (arith, a.before, a.within)) long'

    new-long : length (table_of w p new) ≡ p * w
    new-long = length-table w p new (sorted-fit h) (omega (arith, sorted-long h, h.room))

    source-same : part from (p * w) cleared-to ≡ part from (p * w) ws
    source-same = part-high from (p * w) to (p * w) ws (table_of w p new) a.before a.within new-long

    pub source-rows : Rows w p m (part from (p * w) cleared-to)
    source-rows = rw source-same (rows_of w p m h.arrived (part from (p * w) ws) h.words h.count h.room h.fit).0
