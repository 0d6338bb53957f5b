-- Tables as words: where a row stands, what it reads as, and one row more. Assumes nothing.
use mathlib.Core.Path.{◌≡◌, refl, sym, ap, ap₂, ◌∙◌, subst}
use mathlib.Core.List.{List, [], ◌∷◌, ◌++◌, append_assoc}
use Prim.Native.Nat.{ℕ, zero, suc, ◌+◌, ◌-◌, ◌*◌, ◌≤◌, ◌<◌}
use native.Mathlib.Nat.{le_of_suc-le-suc, not-suc-le-zero, suc-mul, zero-mul, mul-le-mul_right, add_comm}
use native.Mathlib.Decide.{dec_le}
use native.Mathlib.Omega.{arith}
use lib.ListN.{length, take, drop, get_or, replicate, length-append, length-replicate, replicate-append-replicate}
use lib.Seq.{take-take, length-take-le, take_at, drop_at, take-append-add, drop-append-add, drop-drop}
use Rattle.lists.specs.Lists.{All}
use Rattle.lists.proofs.Members.{all-get, all_take, all_append}
use Rattle.tables.specs.Definitions.{Pair}
use Rattle.candidates.specs.Candidates.{pair_of, Readable}
use Rattle.rows.specs.Parts.{part, put, zeros}
use Rattle.rows.specs.Rows.{row_of, Fit, table_of, rows_in, IsRow, Rows, slot}
use Rattle.rows.proofs.Parts.{part-part}
use Rattle.rows.proofs.Single.{length-row, pair_row, zeros-row, row-none, row-readable}

pub row_within : (i n w : ℕ) → i < n → i * w + w ≤ n * w
row_within i n w l = rw (← suc-mul i w) (mul-le-mul_right w l)

-- ---- a table

pub length-table : (w p : ℕ) (xs : List Pair) → All (Fit w) xs → length xs ≤ p → length (table_of w p xs) ≡ p * w
unfolding table_of
length-table w p [] f l = length-replicate (p * w) 0
length-table w zero (x ∷ xs) f l = absurd (not-suc-le-zero l)
length-table w (suc p) (x ∷ xs) f l =
    length-append (row_of w x) (table_of w p xs)
    ∙ rw (length-row w x f.0, length-table w p xs f.1 (le_of_suc-le-suc l), suc-mul p w) (add_comm w (p * w))

-- whole rows taken and dropped off a row and what follows it
take_row : (w i : ℕ) (r t : List ℕ) → length r ≡ w → take (suc i * w) (r ++ t) ≡ r ++ take (i * w) t
take_row w i r t e = ap (λ (j : ℕ). take j (r ++ t)) (suc-mul i w ∙ add_comm (i * w) w ∙ ap (λ (j : ℕ). j + i * w) (sym e)) ∙ take-append-add r t (i * w)

drop-row : (w i : ℕ) (r t : List ℕ) → length r ≡ w → drop (suc i * w) (r ++ t) ≡ drop (i * w) t
drop-row w i r t e = ap (λ (j : ℕ). drop j (r ++ t)) (suc-mul i w ∙ add_comm (i * w) w ∙ ap (λ (j : ℕ). j + i * w) (sym e)) ∙ drop-append-add r t (i * w)

pub slot_at : (w p : ℕ) (xs : List Pair) (i : ℕ) → All (Fit w) xs → length xs ≤ p → i < length xs → slot w i (table_of w p xs) ≡ row_of w (get_or xs i [])
unfolding table_of
slot_at w p [] i f l h = absurd (not-suc-le-zero h)
slot_at w zero (x ∷ xs) i f l h = absurd (not-suc-le-zero l)
slot_at w (suc p) (x ∷ xs) zero f l h = rw (zero-mul w) (take_at (row_of w x) (table_of w p xs) w (length-row w x f.0))
slot_at w (suc p) (x ∷ xs) (suc i) f l h =
    ap (take w) (drop-row w i (row_of w x) (table_of w p xs) (length-row w x f.0)) ∙ slot_at w p xs i f.1 (le_of_suc-le-suc l) (le_of_suc-le-suc h)

zeros-split : (w p : ℕ) → zeros (suc p * w) ≡ zeros w ++ zeros (p * w)
zeros-split w p = ap zeros (suc-mul p w ∙ add_comm (p * w) w) ∙ sym (replicate-append-replicate w (p * w) 0)

-- a row that is free
pub slot-free : (w p : ℕ) (xs : List Pair) (i : ℕ) → All (Fit w) xs → length xs ≤ i → i < p → slot w i (table_of w p xs) ≡ zeros w
unfolding table_of
slot-free w zero xs i f l h = absurd (not-suc-le-zero h)
slot-free w (suc p) [] zero f l h = rw (zero-mul w, zeros-split w p) (take_at (zeros w) (zeros (p * w)) w (length-replicate w 0))
slot-free w (suc p) [] (suc i) f l h =
    ap (λ (t : List ℕ). take w (drop (suc i * w) t)) (zeros-split w p)
    ∙ ap (take w) (drop-row w i (zeros w) (zeros (p * w)) (length-replicate w 0)) ∙ slot-free w p [] i tt (omega arith) (le_of_suc-le-suc h)
slot-free w (suc p) (x ∷ xs) zero f l h = absurd (not-suc-le-zero l)
slot-free w (suc p) (x ∷ xs) (suc i) f l h =
    ap (take w) (drop-row w i (row_of w x) (table_of w p xs) (length-row w x f.0)) ∙ slot-free w p xs i f.1 (le_of_suc-le-suc l) (le_of_suc-le-suc h)

-- a row stored at place i, over the row there or behind the others
pub table-put : (w p : ℕ) (xs : List Pair) (x : Pair) (i : ℕ) → All (Fit w) xs → i ≤ length xs → i < p
    → put (i * w) w (table_of w p xs) (row_of w x) ≡ table_of w p (take i xs ++ x ∷ drop (suc i) xs)
unfolding table_of
table-put w zero xs x i f h l = absurd (not-suc-le-zero l)
table-put w (suc p) [] x zero f h l =
    rw (zero-mul w, zeros-split w p) (ap (λ (t : List ℕ). row_of w x ++ t) (drop_at (zeros w) (zeros (p * w)) w (length-replicate w 0)))
table-put w (suc p) [] x (suc i) f h l = absurd (not-suc-le-zero h)
table-put w (suc p) (y ∷ ys) x zero f h l =
    rw (zero-mul w) (ap (λ (t : List ℕ). row_of w x ++ t) (drop_at (row_of w y) (table_of w p ys) w (length-row w y f.0)))
table-put w (suc p) (y ∷ ys) x (suc i) f h l =
    rw (take_row w i (row_of w y) (table_of w p ys) (length-row w y f.0), drop-row w i (row_of w y) (table_of w p ys) (length-row w y f.0))
    (append_assoc (row_of w y) _ _ ∙ ap (λ (t : List ℕ). row_of w y ++ t) (table-put w p ys x i f.1 (le_of_suc-le-suc h) (le_of_suc-le-suc l)))

-- the last row cleared
pub table-less : (w p : ℕ) (xs : List Pair) (i : ℕ) → All (Fit w) xs → length xs ≡ suc i → i < p → put (i * w) w (table_of w p xs) (zeros w) ≡ table_of w p (take i xs)
unfolding table_of
table-less w zero xs i f h l = absurd (not-suc-le-zero l)
table-less w (suc p) [] i f h l = absurd (omega arith)
table-less w (suc p) (y ∷ []) zero f h l =
    rw (zero-mul w, zeros-split w p) (ap (λ (t : List ℕ). zeros w ++ t) (drop_at (row_of w y) (zeros (p * w)) w (length-row w y f.0)))
table-less w (suc p) (y ∷ z ∷ zs) zero f h l = absurd (omega arith)
table-less w (suc p) (y ∷ ys) (suc i) f h l =
    rw (take_row w i (row_of w y) (table_of w p ys) (length-row w y f.0), drop-row w i (row_of w y) (table_of w p ys) (length-row w y f.0))
    (append_assoc (row_of w y) _ _ ∙ ap (λ (t : List ℕ). row_of w y ++ t) (table-less w p ys i f.1 (omega arith) (le_of_suc-le-suc l)))

-- ---- what rows hold

pub rows_in-table : (w p : ℕ) (xs : List Pair) → All (Fit w) xs → length xs ≤ p → rows_in w (length xs) (table_of w p xs) ≡ xs
unfolding table_of rows_in
rows_in-table w p [] f l = refl
rows_in-table w zero (x ∷ xs) f l = absurd (not-suc-le-zero l)
rows_in-table w (suc p) (x ∷ xs) f l =
    rw (take_at (row_of w x) (table_of w p xs) w (length-row w x f.0), drop_at (row_of w x) (table_of w p xs) w (length-row w x f.0), pair_row w x f.0, rows_in-table w p xs f.1 (le_of_suc-le-suc l))

pub length-rows_in : (w n : ℕ) (area : List ℕ) → length (rows_in w n area) ≡ n
unfolding rows_in
length-rows_in w zero area = refl
length-rows_in w (suc n) area = ap suc (length-rows_in w n (drop w area))

pub rows_in-at : (w n : ℕ) (area : List ℕ) (i : ℕ) → i < n → get_or (rows_in w n area) i [] ≡ pair_of (slot w i area)
unfolding rows_in
rows_in-at w zero area i l = absurd (not-suc-le-zero l)
rows_in-at w (suc n) area zero l = rw (zero-mul w)
rows_in-at w (suc n) area (suc i) l =
    rows_in-at w n (drop w area) i (le_of_suc-le-suc l)
    ∙ ap (λ (t : List ℕ). pair_of (take w t)) (drop-drop (i * w) w area ∙ ap (λ (j : ℕ). drop j area) (add_comm w (i * w) ∙ sym (suc-mul i w)))

-- rows that a table holds
pub rows_of : (w p n : ℕ) (xs : List Pair) (area : List ℕ) → area ≡ table_of w p xs → length xs ≡ n → n ≤ p → All (Fit w) xs → Rows w p n area × (rows_in w n area ≡ xs)
rows_of w p n xs area e c l f =
    let k : rows_in w n area ≡ xs = ap (λ (j : ℕ). rows_in w j area) (sym c) ∙ ap (rows_in w (length xs)) e ∙ rows_in-table w p xs f (omega arith) in
    (record { words = rw k e; room = l; fit = rw k f }, k)

-- each row of a table is one, those that are free too
pub slot_row : (w p : ℕ) (xs : List Pair) (i : ℕ) → 2 ≤ w → All (Fit w) xs → length xs ≤ p → i < p → IsRow w (slot w i (table_of w p xs))
slot_row w p xs i h f l g = step (dec_le (suc i) (length xs))
  where
    step : Dec (suc i ≤ length xs) → IsRow w (slot w i (table_of w p xs))
    step (yes k) =
        let fx : Fit w (get_or xs i []) = all-get (Fit w) [] xs i f k in
        let e : pair_of (row_of w (get_or xs i [])) ≡ get_or xs i [] = pair_row w (get_or xs i []) fx in
        rw (slot_at w p xs i f l k) (record { words = rw e; fit = rw e fx })
    step (no k) = rw (slot-free w p xs i f (omega arith) g) (zeros-row w h)

-- ---- free rows are rows of zeros

free-rows : (w p k : ℕ) → 2 ≤ w → k ≤ p → table_of w p (replicate k (0 ∷ [])) ≡ zeros (p * w)
unfolding table_of
free-rows w p zero g l = refl
free-rows w zero (suc k) g l = absurd (not-suc-le-zero l)
free-rows w (suc p) (suc k) g l = ap₂ (λ (x : List ℕ) (y : List ℕ). x ++ y) (row-none w g) (free-rows w p k g (le_of_suc-le-suc l)) ∙ sym (zeros-split w p)

padded : (w p k : ℕ) (xs : List Pair) → 2 ≤ w → length xs + k ≤ p → table_of w p (xs ++ replicate k (0 ∷ [])) ≡ table_of w p xs
unfolding table_of
padded w p k [] g l = free-rows w p k g (omega arith)
padded w zero k (x ∷ xs) g l = absurd (omega arith)
padded w (suc p) k (x ∷ xs) g l = ap (λ (t : List ℕ). row_of w x ++ t) (padded w p k xs g (omega arith))

none-fit : (w k : ℕ) → 2 ≤ w → All (Fit w) (replicate k (0 ∷ []))
unfolding Fit
none-fit w zero g = tt
none-fit w (suc k) g = ((omega arith, omega arith), none-fit w k g)

-- so an area of p rows has p rows
pub rows_all : (w p : ℕ) (xs : List Pair) (area : List ℕ) → 2 ≤ w → area ≡ table_of w p xs → length xs ≤ p → All (Fit w) xs → Rows w p p area
rows_all w p xs area g e l f =
    let k : ℕ = p - length xs in
    let ys : List Pair = xs ++ replicate k (0 ∷ []) in
    (rows_of w p p ys area (e ∙ sym (padded w p k xs g (omega arith))) (length-append xs (replicate k (0 ∷ [])) ∙ omega (arith, length-replicate {A = Pair} k (0 ∷ []))) (omega arith)
    (all_append (Fit w) xs (replicate k (0 ∷ [])) f (none-fit w k g))).0

-- ---- the rows from place i on cleared, the last first

module _ (w p i : ℕ) (xs : List Pair) (area : List ℕ) (f : All (Fit w) xs) (l : length xs ≤ p) (h : i ≤ length xs) (e : area ≡ table_of w p (take i xs)) where
  taken : length (take i xs) ≡ i
  taken = length-take-le i xs h

  pub left-long : length area ≡ p * w
  left-long = ap length e ∙ length-table w p (take i xs) (all_take (Fit w) i xs f) (omega (arith, taken))

  pub left-row : (j : ℕ) → j < p → 2 ≤ w → IsRow w (slot w j area)
  left-row j g k = rw e (slot_row w p (take i xs) j k (all_take (Fit w) i xs f) (omega (arith, taken)) g)

  pub left_less : (j : ℕ) → suc j ≡ i → put (j * w) w area (zeros w) ≡ table_of w p (take j xs)
  left_less j q =
      ap (λ (a : List ℕ). put (j * w) w a (zeros w)) e
      ∙ table-less w p (take i xs) j (all_take (Fit w) i xs f) (taken ∙ sym q) (omega arith)
      ∙ ap (table_of w p) (take-take j i xs (omega arith))

-- ---- the rows of an area that lies among other words

module _ (w p b n : ℕ) (ws : List ℕ) (within : b + p * w ≤ length ws) (t : Rows w p n (part b (p * w) ws)) (j : ℕ) (l : j < n) where
  pub slot_is : slot w j (part b (p * w) ws) ≡ part (b + j * w) w ws
  slot_is = let z = row_within j p w (omega (arith, t.room)) in part-part b (p * w) (j * w) w ws (omega arith) within

  pub readable-slot : Readable (part (b + j * w) w ws)
  readable-slot =
      let xs : List Pair = rows_in w n (part b (p * w) ws) in
      let k = length-rows_in w n (part b (p * w) ws) in
      let e = sym (slot_at w p xs j t.fit (omega (arith, k, t.room)) (omega (arith, k))) ∙ ap (slot w j) (sym t.words) ∙ slot_is in
      subst Readable e (row-readable w (get_or xs j []) (all-get (Fit w) [] xs j t.fit (omega (arith, k))))
