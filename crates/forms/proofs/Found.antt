-- What words of the form hold: they are the words of the tables that stand there, and those tables are sound. Assumes nothing.
use mathlib.Core.Path.{◌≡◌, refl, sym, ap, ap₂, ◌∙◌}
use mathlib.Core.Bool.{true, false, false≢true}
use mathlib.Core.List.{List, [], ◌∷◌, ◌++◌, append_assoc, append-nil}
use Prim.Native.Nat.{ℕ, zero, suc, ◌+◌, ◌-◌, ◌*◌, ◌^◌, ◌≤◌}
use native.Mathlib.Nat.{zero-mul, le_of_suc-le-suc, not-suc-le-zero}
use native.Mathlib.Omega.{arith}
use lib.Dec.{eqb, ltb, leb}
use lib.ListN.{length, take, drop, get_or, get_or-replicate, length-append, length-drop, take-append-drop}
use lib.Seq.{length-take-le, take-take, take-add, drop_at}
use borrow.Author.Tests.{eqb-true, leb-true}
use Rattle.std.specs.declared.cmp.Ordering.{Ordering}
use Rattle.std.specs.declared.cmp.Ordering.TheVariants.{Less, Equal, Greater}
use Rattle.lists.specs.Lists.{every, All}
use Rattle.lists.specs.Sorted.{by_order, compare_numbers, compare_lists, Rising}
use Rattle.lists.proofs.Members.{and_both, all_append}
use Rattle.lists.proofs.Comparisons.{Lawful, numbers-lawful, lists-lawful}
use Rattle.tables.specs.Definitions.{Pair, subsets}
use Rattle.candidates.specs.Candidates.{pair_of, Readable}
use Rattle.rows.specs.Parts.{zeros}
use Rattle.rows.specs.Rows.{Fit, table_of, rows_in, IsRow}
use Rattle.rows.proofs.Parts.{drop-zeros}
use Rattle.rows.proofs.Single.{read_fits, stored-long, zeros-row}
use Rattle.rows.proofs.Tables.{length-rows_in}
use Rattle.workspace.specs.Workspace.{stack_words, workspace_of, Sound, stack_counts}
use Rattle.forms.specs.Forms.{are_zero, rises_from, is_rising, is_row, are_rows, is_table, are_tables, tables_in}

-- ---- what the tests tell

pub zero_is : (ws : List ℕ) → are_zero ws ≡ true → ws ≡ zeros (length ws)
unfolding are_zero every
zero_is [] h = refl
zero_is (x ∷ xs) h =
    let b = and_both (eqb x 0) (every (λ v. eqb v 0) xs) h in
    ap₂ {C = List ℕ} (λ y l. y ∷ l) (eqb-true x 0 b.0) (zero_is xs b.1)

before-is : (o : Ordering) → by_order o true false false ≡ true → o ≡ Less
before-is Less h = refl
before-is Equal h = absurd (false≢true h)
before-is Greater h = absurd (false≢true h)

-- an element that comes before the next one comes before all later ones
module _ {A : Type 0} {cmp : A → A → Ordering} {merge : A → A → A} (L : Lawful cmp merge) where
  below : (x y : A) (ys : List A) → cmp x y ≡ Less → All (λ z. cmp y z ≡ Less) ys → All (λ z. cmp x z ≡ Less) ys
  below x y [] h a = tt
  below x y (z ∷ zs) h a = (L.trans x y z h a.0, below x y zs h a.1)

  rises-from : (x : A) (xs : List A) → rises_from cmp x xs ≡ true → Rising cmp (x ∷ xs)
  unfolding rises_from Rising
  rises-from x [] h = (tt, tt)
  rises-from x (y ∷ ys) h =
      let b = and_both (by_order (cmp x y) true false false) (rises_from cmp y ys) h in
      let e : cmp x y ≡ Less = before-is (cmp x y) b.0 in
      let r : Rising cmp (y ∷ ys) = rises-from y ys b.1 in
      ((e, below x y ys e r.0), r)

  pub rising-is : (xs : List A) → is_rising cmp xs ≡ true → Rising cmp xs
  unfolding is_rising Rising
  rising-is [] h = tt
  rising-is (x ∷ xs) h = rises-from x xs h

-- ---- a row

module _ (K : ℕ) (row : List ℕ) (h : is_row K row ≡ true) where
  parts : Readable row × (is_rising compare_numbers (subsets (pair_of row)) ≡ true) × (are_zero (drop (2 + get_or row 1 0) row) ≡ true)
  unfolding is_row
  parts =
      let a = and_both (leb (2 + get_or row 1 0) (length row)) _ h in
      let b = and_both (every (λ v. ltb v (2 ^ (3 * K))) (pair_of row)) _ a.1 in
      let c = and_both (is_rising compare_numbers (subsets (pair_of row))) _ b.1 in
      (leb-true _ _ a.0, c.0, c.1)

  pub row-readable : Readable row
  row-readable = parts.0

  pub row-ordered : Rising compare_numbers (subsets (pair_of row))
  row-ordered = rising-is numbers-lawful (subsets (pair_of row)) parts.1

  -- it is what a row of zeros becomes when its pair is stored there
  pub row_is : (w : ℕ) → length row ≡ w → IsRow w row
  row_is w e =
      let n : ℕ = 2 + get_or row 1 0 in
      let two : 2 ≤ w = omega (arith, parts.0, e) in
      let back : drop n row ≡ drop (length (take n row)) (zeros w) =
      zero_is (drop n row) parts.2 ∙ ap zeros (length-drop n row ∙ ap (λ (j : ℕ). j - n) e)
      ∙ sym (ap (λ (j : ℕ). drop j (zeros w)) (length-take-le n row parts.0) ∙ drop-zeros n w (omega (arith, parts.0, e))) in
      record {
        words = sym (take-append-drop n row) ∙ ap (λ (t : List ℕ). take n row ++ t) back ∙ stored-long (zeros-row w two) row parts.0 e (omega (arith, get_or-replicate {A = ℕ} w 1 0 0 (omega (arith, two))));
        fit = read_fits row parts.0 e;
      }

-- ---- a table

-- one row taken off an area of rows
area-less : (p w : ℕ) → suc p * w ≡ w + p * w
area-less p w = omega arith

module _ (K w : ℕ) where
  pub rows_are : (n p : ℕ) (area : List ℕ) → are_rows K w n area ≡ true → n ≤ p → length area ≡ p * w
      → (area ≡ table_of w p (rows_in w n area)) × All (Fit w) (rows_in w n area) × All (λ x. Rising compare_numbers (subsets x)) (rows_in w n area)
  unfolding are_rows rows_in table_of
  rows_are zero p area h l e = (zero_is area h ∙ ap zeros e, tt, tt)
  rows_are (suc n) zero area h l e = absurd (not-suc-le-zero l)
  rows_are (suc n) (suc p) area h l e =
      let b = and_both (is_row K (take w area)) (are_rows K w n (drop w area)) h in
      let f : length (take w area) ≡ w = length-take-le w area (omega (arith, e, area-less p w)) in
      let r : IsRow w (take w area) = row_is K (take w area) b.0 w f in
      let t = rows_are n p (drop w area) b.1 (le_of_suc-le-suc l) (length-drop w area ∙ omega (arith, e, area-less p w)) in (
        sym (take-append-drop w area) ∙ ap₂ (λ (x : List ℕ) (y : List ℕ). x ++ y) r.words t.0,
        (r.fit, t.1),
        (row-ordered K (take w area) b.0, t.2),
      )

  module _ (p n : ℕ) (area : List ℕ) (h : is_table K w p n area ≡ true) where
    tested : (n ≤ p) × (are_rows K w n area ≡ true) × (is_rising compare_lists (rows_in w n area) ≡ true)
    unfolding is_table
    tested =
        let a = and_both (ltb 0 n) _ h in
        let b = and_both (leb n p) _ a.1 in
        let c = and_both (are_rows K w n area) _ b.1 in
        (leb-true n p b.0, c.0, c.1)

    pub table-words : length area ≡ p * w → area ≡ table_of w p (rows_in w n area)
    table-words e = (rows_are n p area tested.1 tested.0 e).0

    pub table-sound : length area ≡ p * w → Sound w p (rows_in w n area)
    table-sound e =
        let r = rows_are n p area tested.1 tested.0 e in
        record {
          few = omega (arith, length-rows_in w n area, tested.0);
          fit = r.1;
          rising = rising-is lists-lawful (rows_in w n area) tested.2;
          ordered = r.2;
        }

-- ---- the tables of a workspace

-- the oldest table is last in the list and first in the words
stack-oldest : (w p : ℕ) (ts : List (List Pair)) (t : List Pair) → stack_words w p (ts ++ (t ∷ [])) ≡ table_of w p t ++ stack_words w p ts
unfolding stack_words
stack-oldest w p [] t = sym (append-nil (table_of w p t))
stack-oldest w p (u ∷ ts) t = ap (λ (l : List ℕ). l ++ table_of w p u) (stack-oldest w p ts t) ∙ append_assoc (table_of w p t) (stack_words w p ts) (table_of w p u)

counts-oldest : (ts : List (List Pair)) (t : List Pair) → stack_counts (ts ++ (t ∷ [])) ≡ length t ∷ stack_counts ts
unfolding stack_counts
counts-oldest [] t = refl
counts-oldest (u ∷ ts) t = ap (λ (l : List ℕ). l ++ (length u ∷ [])) (counts-oldest ts t)

module _ (w p : ℕ) where
  abbrev k : ℕ
  k = p * w

  pub found-counts : (ns ws : List ℕ) → stack_counts (tables_in w p ns ws) ≡ ns
  unfolding tables_in stack_counts
  found-counts [] ws = refl
  found-counts (n ∷ ns) ws =
      counts-oldest (tables_in w p ns (drop k ws)) (rows_in w n (take k ws))
      ∙ ap₂ {C = List ℕ} (λ x l. x ∷ l) (length-rows_in w n (take k ws)) (found-counts ns (drop k ws))

  pub found-length : (ns ws : List ℕ) → length (tables_in w p ns ws) ≡ length ns
  unfolding tables_in
  found-length [] ws = refl
  found-length (n ∷ ns) ws = length-append (tables_in w p ns (drop k ws)) _ ∙ omega (arith, found-length ns (drop k ws))

  areas-less : (n : ℕ) → suc n * k ≡ k + n * k
  areas-less n = omega arith

  areas-split : (m n : ℕ) → (m + n) * k ≡ m * k + n * k
  areas-split m n = omega arith

  -- only the words of those areas are looked at
  found_front : (ns ws : List ℕ) (m : ℕ) → length ns * k ≤ m → m ≤ length ws → tables_in w p ns (take m ws) ≡ tables_in w p ns ws
  unfolding tables_in
  found_front [] ws m h l = refl
  found_front (n ∷ ns) ws m h l =
      let g : k + (m - k) ≡ m = omega (arith, areas-less (length ns)) in
      let rest : drop k (take m ws) ≡ take (m - k) (drop k ws) =
      ap (λ (j : ℕ). drop k (take j ws)) (sym g) ∙ ap (drop k) (take-add k (m - k) ws)
      ∙ drop_at (take k ws) (take (m - k) (drop k ws)) k (length-take-le k ws (omega (arith, areas-less (length ns)))) in
      ap₂ (λ (ts : List (List Pair)) (t : List ℕ). ts ++ (rows_in w n t ∷ []))
      (ap (tables_in w p ns) rest ∙ found_front ns (drop k ws) (m - k) (omega (arith, areas-less (length ns))) (omega (arith, length-drop k ws)))
      (take-take k m ws (omega (arith, areas-less (length ns))))

  module _ (K : ℕ) where
    all_sound : (ns ws : List ℕ) → are_tables K w p ns ws ≡ true → length ns * k ≤ length ws → All (Sound w p) (tables_in w p ns ws)
    unfolding are_tables tables_in
    all_sound [] ws h l = tt
    all_sound (n ∷ ns) ws h l =
        let b = and_both (is_table K w p n (take k ws)) (are_tables K w p ns (drop k ws)) h in
        let f : length (take k ws) ≡ k = length-take-le k ws (omega (arith, areas-less (length ns))) in
        all_append (Sound w p) (tables_in w p ns (drop k ws)) (rows_in w n (take k ws) ∷ [])
        (all_sound ns (drop k ws) b.1 (omega (arith, length-drop k ws, areas-less (length ns))))
        (table-sound K w p n (take k ws) b.0 f, tt)

    words_are : (ns ws : List ℕ) (m : ℕ) → are_tables K w p ns ws ≡ true → length ns * k + m ≡ length ws → ws ≡ stack_words w p (tables_in w p ns ws) ++ zeros m
    unfolding are_tables tables_in stack_words
    words_are [] ws m h l = zero_is ws h ∙ ap zeros (let z : length ws ≡ m = omega (arith, l, zero-mul k) in z)
    words_are (n ∷ ns) ws m h l =
        let b = and_both (is_table K w p n (take k ws)) (are_tables K w p ns (drop k ws)) h in
        let f : length (take k ws) ≡ k = length-take-le k ws (omega (arith, areas-less (length ns))) in
        let ts : List (List Pair) = tables_in w p ns (drop k ws) in
        let t : List Pair = rows_in w n (take k ws) in
        sym (take-append-drop k ws)
        ∙ ap₂ (λ (x : List ℕ) (y : List ℕ). x ++ y) (table-words K w p n (take k ws) b.0 f)
        (words_are ns (drop k ws) m b.1 (omega (arith, length-drop k ws, areas-less (length ns))))
        ∙ sym (ap (λ (x : List ℕ). x ++ zeros m) (stack-oldest w p ts t) ∙ append_assoc (table_of w p t) (stack_words w p ts) (zeros m))

    module _ (d : ℕ) (ns ws : List ℕ) (h : are_tables K w p ns (take (d * k) ws) ≡ true) (few : length ns ≤ d) (long : d * k ≤ length ws) where
      abbrev front : List ℕ
      front = take (d * k) ws

      areas-left : length ns * k + (d - length ns) * k ≡ d * k
      areas-left = sym (areas-split (length ns) (d - length ns)) ∙ ap (λ (j : ℕ). j * k) (let z : length ns + (d - length ns) ≡ d = omega arith in z)

      front_long : length front ≡ d * k
      front_long = length-take-le (d * k) ws long

      front-tables : tables_in w p ns front ≡ tables_in w p ns ws
      front-tables = found_front ns ws (d * k) (omega (arith, areas-left)) long

      pub found-sound : All (Sound w p) (tables_in w p ns ws)
      found-sound = rw (← front-tables) (all_sound ns front h (omega (arith, front_long, areas-left)))

      pub found-words : ws ≡ workspace_of d w p (tables_in w p ns ws) (drop (d * k) ws)
      unfolding workspace_of
      found-words =
          let left : ℕ = (d - length (tables_in w p ns ws)) * k in
          let e : (d - length ns) * k ≡ left = ap (λ (j : ℕ). (d - j) * k) (sym (found-length ns ws)) in
          sym (take-append-drop (d * k) ws)
          ∙ ap (λ (t : List ℕ). t ++ drop (d * k) ws)
          (words_are ns front left h (omega (arith, front_long, areas-left, e)) ∙ ap (λ (ts : List (List Pair)). stack_words w p ts ++ zeros left) front-tables)
          ∙ append_assoc (stack_words w p (tables_in w p ns ws)) (zeros left) (drop (d * k) ws)
