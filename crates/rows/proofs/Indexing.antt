-- A table that is being made: what its index names, and one row more. Assumes nothing.
use mathlib.Core.Path.{◌≡◌, refl, sym, ap, ap₂, ◌∙◌, subst}
use mathlib.Core.List.{List, [], ◌∷◌, ◌++◌, map, append_assoc, map-append}
use Prim.Native.Nat.{ℕ, zero, suc, ◌+◌, ◌-◌, ◌*◌, ◌≤◌, ◌<◌}
use native.Mathlib.Nat.{le_of_suc-le-suc, not-suc-le-zero}
use native.Mathlib.Omega.{arith}
use lib.ListN.{length, take, drop, get_or, length-append, length-take, length-drop, length-map, drop_of_length-le}
use lib.Seq.{take-length, length-take-le, take_at, drop_at, take-take, take-add, get_or-take}
use borrow.Rule.Slice.PartMut.{put_mid, mid_of, Post-is}
use Rattle.std.specs.declared.cmp.Ordering.TheVariants.{Equal}
use Rattle.lists.specs.Lists.{All}
use Rattle.lists.specs.Sorted.{compare_lists, second, rank, Rising}
use Rattle.lists.proofs.Members.{all_append, all-get, all_take, all_drop, all_map, map-take, map-drop}
use Rattle.lists.proofs.Comparisons.{lists-lawful}
use Rattle.lists.proofs.Canon.{rising-insert}
use Rattle.lists.proofs.Ranks.{rank-le, insert-absent}
use Rattle.tables.specs.Definitions.{Pair}
use Rattle.candidates.specs.Candidates.{pair_of, Readable}
use Rattle.rows.specs.Parts.{put}
use Rattle.rows.specs.Rows.{row_of, Fit, table_of, IsRow, Rows, slot, sorted_of, Indexed}
use Rattle.rows.specs.declared.Placed.TheVariants.{New}
use Rattle.rows.specs.Inserted.{There, Inserted}
use Rattle.rows.proofs.Single.{pair_row, row-readable}
use Rattle.rows.proofs.Tables.{row_within, length-table, slot_at, slot_row, table-put, rows_all}

-- ---- maps over lists

map-all : {A B : Type 0} (f g : A → B) (P : A → Type 0) → ((x : A) → P x → f x ≡ g x) → (xs : List A) → All P xs → map f xs ≡ map g xs
map-all f g P h [] a = refl
map-all {A} {B} f g P h (x ∷ xs) a = ap₂ {C = List B} (λ y t. y ∷ t) (h x a.0) (map-all f g P h xs a.1)

pub get_d_map : {A B : Type 0} (f : A → B) (d : A) (e : B) (xs : List A) (i : ℕ) → i < length xs → get_or (map f xs) i e ≡ f (get_or xs i d)
get_d_map f d e [] i l = absurd (not-suc-le-zero l)
get_d_map f d e (x ∷ xs) zero l = refl
get_d_map f d e (x ∷ xs) (suc i) l = get_d_map f d e xs i (le_of_suc-le-suc l)

all-weaken : {A : Type 0} (P Q : A → Type 0) → ((x : A) → P x → Q x) → (xs : List A) → All P xs → All Q xs
all-weaken P Q f [] a = tt
all-weaken P Q f (x ∷ xs) a = (f x a.0, all-weaken P Q f xs a.1)

get_or-last : {A : Type 0} (d x : A) (xs : List A) → get_or (xs ++ x ∷ []) (length xs) d ≡ x
get_or-last d x [] = refl
get_or-last d x (y ∷ ys) = get_or-last d x ys

get_d_front : {A : Type 0} (d : A) (xs ys : List A) (i : ℕ) → i < length xs → get_or (xs ++ ys) i d ≡ get_or xs i d
get_d_front d [] ys i l = absurd (not-suc-le-zero l)
get_d_front d (x ∷ xs) ys zero l = refl
get_d_front d (x ∷ xs) ys (suc i) l = get_d_front d xs ys i (le_of_suc-le-suc l)

-- ---- a number put into a list at place k, the next ones one place up, the last of m + 1 falling out

drop-take : (k m : ℕ) (l : List ℕ) → k ≤ length l → drop k (take (k + m) l) ≡ take m (drop k l)
drop-take k m l h = rw (take-add k m l) (drop_at (take k l) (take m (drop k l)) k (length-take-le k l h))

pub pushed : (k m x : ℕ) (l ys : List ℕ) → k ≤ m → m < length l → ys ≡ take (length (mid_of k (m + 1 - k) l)) (x ∷ mid_of k (m + 1 - k) l)
    → put_mid k (m + 1 - k) l ys ≡ (take k (take m l) ++ x ∷ drop k (take m l)) ++ drop (m + 1) l
pushed k m x l ys h g ey =
    let n : ℕ = m - k in
    let em : m + 1 - k ≡ suc n = omega arith in
    let long : length (take (suc n) (drop k l)) ≡ suc n = length-take-le (suc n) (drop k l) (simp length-drop (omega arith)) in
    let mid : ys ≡ x ∷ take n (drop k l) = ey ∙ rw em (rw long (ap (λ (t : List ℕ). x ∷ t) (take-take n (suc n) (drop k l) (omega arith)))) in
    let rest : drop k (take m l) ≡ take n (drop k l) = ap (λ (j : ℕ). drop k (take j l)) (let z : m ≡ k + n = omega arith in z) ∙ drop-take k n l (omega arith) in
    rw (Post-is k (m + 1) l (omega arith), mid, rest, take-take k m l h) (sym (append_assoc (take k l) (x ∷ take n (drop k l)) (drop (m + 1) l)))

-- ---- what the index names

module _ {w p m : ℕ} {area index : List ℕ} (h : Indexed w p m area index) where
  arrivals : length h.arrived ≤ p
  arrivals = omega (arith, h.count, h.room)

  pub area-long : length area ≡ p * w
  area-long = ap length h.words ∙ length-table w p h.arrived h.fit arrivals

  pub count_long : length (take m index) ≡ m
  count_long = length-take-le m index (omega (arith, h.room, h.long))

  pub sorted-long : length (sorted_of w m area index) ≡ m
  unfolding sorted_of
  sorted-long = length-map (take m index) (λ i. pair_of (slot w i area)) ∙ count_long

  -- the place that the index names at k
  pub place-lt : (k : ℕ) → k < m → get_or index k 0 < m
  place-lt k l =
      let e : get_or (take m index) k 0 ≡ get_or index k 0 = get_or-take m index k 0 l in
      subst (λ (i : ℕ). i < m) e (all-get (λ i. i < m) 0 (take m index) k h.places (omega (arith, count_long)))

  row_at : (i : ℕ) → i < m → slot w i area ≡ row_of w (get_or h.arrived i [])
  row_at i l = ap (slot w i) h.words ∙ slot_at w p h.arrived i h.fit arrivals (omega (arith, h.count))

  pub fit_at : (i : ℕ) → i < m → Fit w (get_or h.arrived i [])
  fit_at i l = all-get (Fit w) [] h.arrived i h.fit (omega (arith, h.count))

  pub slot-readable : (i : ℕ) → i < m → Readable (slot w i area)
  slot-readable i l = rw (row_at i l) (row-readable w (get_or h.arrived i []) (fit_at i l))

  pub slot-is-row : (i : ℕ) → i < m → slot w i area ≡ row_of w (pair_of (slot w i area))
  slot-is-row i l = row_at i l ∙ ap (row_of w) (sym (pair_row w (get_or h.arrived i []) (fit_at i l)) ∙ ap pair_of (sym (row_at i l)))

  pub slot-fits : (i : ℕ) → i < m → Fit w (pair_of (slot w i area))
  slot-fits i l = subst (Fit w) (sym (pair_row w (get_or h.arrived i []) (fit_at i l)) ∙ ap pair_of (sym (row_at i l))) (fit_at i l)

  -- the pairs fit their rows
  pub sorted-fit : All (Fit w) (sorted_of w m area index)
  unfolding sorted_of
  sorted-fit = all_map (λ i. i < m) (Fit w) (λ i. pair_of (slot w i area)) slot-fits (take m index) h.places

  pub slot-within : (i : ℕ) → i < m → i * w + w ≤ length area
  slot-within i l = let k = row_within i p w (omega (arith, h.room)) in omega (arith, area-long)

  -- the row behind them
  pub free-row : m < p → 2 ≤ w → IsRow w (slot w m area)
  free-row l g = rw h.words (slot_row w p h.arrived m g h.fit arrivals l)

  pub free-within : m < p → m * w + w ≤ length area
  free-within l = let k = row_within m p w l in omega (arith, area-long)

  -- all p rows of the area, the free ones too
  pub padded-rows : 2 ≤ w → Rows w p p area
  padded-rows g = rows_all w p h.arrived area g h.words arrivals h.fit

  -- the pair at place k of the rising order
  pub sorted-at : (k : ℕ) → k < m → get_or (sorted_of w m area index) k [] ≡ pair_of (slot w (get_or index k 0) area)
  unfolding sorted_of
  sorted-at k l =
      get_d_map (λ i. pair_of (slot w i area)) 0 [] (take m index) k (omega (arith, count_long))
      ∙ ap (λ (i : ℕ). pair_of (slot w i area)) (get_or-take m index k 0 l)

  -- a pair that is there, and the row that the index names at its rank
  module _ (x : Pair) (k : ℕ) (kr : k ≡ rank compare_lists x (sorted_of w m area index)) where
    pub rank-low : k ≤ m
    rank-low = omega (arith, kr, rank-le compare_lists x (sorted_of w m area index), sorted-long)

    pub there-named : There x (sorted_of w m area index) → (k < m) × (compare_lists x (pair_of (slot w (get_or index k 0) area)) ≡ Equal)
    there-named t =
        let l : k < m = omega (arith, t.0, kr, sorted-long) in
        (l, ap (compare_lists x) (sym (sorted-at k l)) ∙ rw kr t.1)

    pub named-there : k < m → compare_lists x (pair_of (slot w (get_or index k 0) area)) ≡ Equal → There x (sorted_of w m area index)
    named-there l e = (omega (arith, kr, sorted-long), rw (← kr, sorted-at k l) e)

  -- ---- one row more, at place k of the rising order

  module _ (x : Pair) (fx : Fit w x) (k : ℕ) (kr : k ≡ rank compare_lists x (sorted_of w m area index)) (new : There x (sorted_of w m area index) → ⊥) (free : m < p) where
    abbrev area' : List ℕ
    area' = put (m * w) w area (row_of w x)

    -- the index with m put in at k
    abbrev named : List ℕ
    named = take k (take m index) ++ m ∷ drop k (take m index)

    abbrev index' : List ℕ
    index' = named ++ drop (m + 1) index

    low : k ≤ m
    low = rank-low x k kr

    named-long : length named ≡ m + 1
    named-long = simp (length-append, length-take, length-drop) (omega (arith, low, h.long))

    index-taken : take (m + 1) index' ≡ named
    index-taken = take_at named (drop (m + 1) index) (m + 1) named-long

    words' : area' ≡ table_of w p (h.arrived ++ x ∷ [])
    words' =
        ap₂ (λ (i : ℕ) (a : List ℕ). put (i * w) w a (row_of w x)) (sym h.count) h.words
        ∙ table-put w p h.arrived x (length h.arrived) h.fit (omega arith) (omega (arith, h.count))
        ∙ ap₂ (λ (a : List Pair) (b : List Pair). table_of w p (a ++ x ∷ b)) (take-length h.arrived) (drop_of_length-le h.arrived {i = suc (length h.arrived)} (omega arith))

    fits' : All (Fit w) (h.arrived ++ x ∷ [])
    fits' = all_append (Fit w) h.arrived (x ∷ []) h.fit (fx, tt)

    count' : length (h.arrived ++ x ∷ []) ≡ m + 1
    count' = length-append h.arrived (x ∷ []) ∙ omega (arith, h.count)

    slot' : (i : ℕ) → i < m + 1 → pair_of (slot w i area') ≡ get_or (h.arrived ++ x ∷ []) i []
    slot' i l =
        ap (λ (a : List ℕ). pair_of (slot w i a)) words'
        ∙ ap pair_of (slot_at w p (h.arrived ++ x ∷ []) i fits' (omega (arith, count')) (omega (arith, count')))
        ∙ pair_row w (get_or (h.arrived ++ x ∷ []) i []) (all-get (Fit w) [] (h.arrived ++ x ∷ []) i fits' (omega (arith, count')))

    slot-old : (i : ℕ) → i < m → pair_of (slot w i area') ≡ pair_of (slot w i area)
    slot-old i l =
        slot' i (omega arith) ∙ get_d_front [] h.arrived (x ∷ []) i (omega (arith, h.count))
        ∙ sym (ap pair_of (row_at i l) ∙ pair_row w (get_or h.arrived i []) (fit_at i l))

    slot-new : pair_of (slot w m area') ≡ x
    slot-new = slot' m (omega arith) ∙ ap (λ (i : ℕ). get_or (h.arrived ++ x ∷ []) i []) (sym h.count) ∙ get_or-last [] x h.arrived

    pub sorted_more : sorted_of w (m + 1) area' index' ≡ take k (sorted_of w m area index) ++ x ∷ drop k (sorted_of w m area index)
    unfolding sorted_of
    sorted_more =
        let f : ℕ → Pair = λ i. pair_of (slot w i area) in
        let g : ℕ → Pair = λ i. pair_of (slot w i area') in
        let same : map g (take m index) ≡ map f (take m index) = map-all g f (λ i. i < m) slot-old (take m index) h.places in
        ap (map g) index-taken ∙ map-append g (take k (take m index)) (m ∷ drop k (take m index))
        ∙ ap₂ (λ (a : List Pair) (b : List Pair). a ++ b) (map-take g k (take m index) ∙ ap (take k) same)
        (ap₂ {C = List Pair} (λ y t. y ∷ t) slot-new (map-drop g k (take m index) ∙ ap (drop k) same))

    pub indexed-more : Indexed w p (m + 1) area' index'
    indexed-more = record {
      arrived = h.arrived ++ x ∷ [];
      words = words';
      count = count';
      room = omega arith;
      fit = fits';
      long = omega (arith, length-append named (drop (m + 1) index), named-long, length-drop (m + 1) index, h.long);
      places = rw index-taken (all_append (λ i. i < m + 1) (take k (take m index)) (m ∷ drop k (take m index))
          (all-weaken (λ i. i < m) (λ i. i < m + 1) (λ i l. omega arith) (take k (take m index)) (all_take (λ i. i < m) k (take m index) h.places))
          (omega arith, all-weaken (λ i. i < m) (λ i. i < m + 1) (λ i l. omega arith) (drop k (take m index)) (all_drop (λ i. i < m) k (take m index) h.places)));
      rising = rw sorted_more (subst (Rising compare_lists) (rw kr (insert-absent compare_lists second [] x (sorted_of w m area index) (λ l e. new (l, e)))) (rising-insert lists-lawful x (sorted_of w m area index) h.rising));
    }

    -- what storing the row and pushing m into the index leaves
    pub row-inserted : (area'' index'' ys : List ℕ) → area'' ≡ area' → index'' ≡ put_mid k (m + 1 - k) index ys → ys ≡ take (length (mid_of k (m + 1 - k) index)) (m ∷ mid_of k (m + 1 - k) index)
        → Inserted w p m x area index area'' index'' (New k)
    row-inserted area'' index'' ys ea ei ey =
        let e : index'' ≡ index' = ei ∙ pushed k m m index ys low (omega (arith, h.long)) ey in
        rw (ea, e) (indexed-more, kr, new, sorted_more)
