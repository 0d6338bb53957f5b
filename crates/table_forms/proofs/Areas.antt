-- The tests of a table and of tables as loops make them, from a row and from an area on. Assumes nothing.
use mathlib.Core.Path.{◌≡◌, sym, ap, ap₂, ◌∙◌}
use mathlib.Core.Bool.{Bool, true, false, ◌&&◌}
use mathlib.Core.List.{List}
use Prim.Native.Nat.{ℕ, zero, suc, ◌+◌, ◌-◌, ◌*◌, ◌≤◌, ◌<◌}
use native.Mathlib.Nat.{zero-mul}
use native.Mathlib.Numerals.{add-one}
use native.Mathlib.Omega.{arith}
use lib.ListN.{length, take, drop, get_or, drop_of_length-le}
use lib.Seq.{drop-cons, drop-drop}
use borrow.Author.Tests.{lt-ltb, le-ltb, le-leb, lt-leb}
use Rattle.lists.specs.Sorted.{by_order, compare_lists}
use Rattle.lists.proofs.Members.{and_both}
use Rattle.tables.specs.Definitions.{Pair}
use Rattle.candidates.specs.Candidates.{pair_of, Readable}
use Rattle.rows.specs.Parts.{part}
use Rattle.rows.specs.Rows.{rows_in}
use Rattle.forms.specs.Forms.{are_zero, rises_from, is_rising, is_row, are_rows, is_table, are_tables}
use Rattle.forms.proofs.Found.{row-readable}
use Rattle.forms.proofs.Scans.{and_right, and_assoc, and-swap}

-- the words behind those of i parts of k words and one part more
behind : (i k : ℕ) (xs : List ℕ) → drop k (drop (i * k) xs) ≡ drop ((i + 1) * k) xs
behind i k xs = drop-drop k (i * k) xs ∙ ap (λ (j : ℕ). drop j xs) (let z : i * k + k ≡ (i + 1) * k = omega arith in z)

-- how long the range of the k words before a is
pub span-back : (a k : ℕ) → k ≤ a → a - (a - k) ≡ k
span-back a k l = omega arith

-- ---- a table

-- a row whose pair comes after x
abbrev pub follows : ℕ → Pair → List ℕ → Bool
follows K x row = is_row K row && by_order (compare_lists x (pair_of row)) true false false

module _ (K w : ℕ) where
  -- n such rows, each after the one before, the first after x; zeros behind them
  unfoldable pub follow : Pair → ℕ → List ℕ → Bool
  follow x zero area = are_zero area
  follow x (suc n) area = follows K x (take w area) && follow (pair_of (take w area)) n (drop w area)

  follow-is : (x : Pair) (n : ℕ) (area : List ℕ) → follow x n area ≡ (are_rows K w n area && rises_from compare_lists x (rows_in w n area))
  unfolding follow are_rows rises_from rows_in
  follow-is x zero area = and_right (are_zero area)
  follow-is x (suc n) area =
      let y : Pair = pair_of (take w area) in
      ap (λ b. follows K x (take w area) && b) (follow-is y n (drop w area))
      ∙ and-swap (is_row K (take w area)) (by_order (compare_lists x y) true false false) (are_rows K w n (drop w area)) (rises_from compare_lists y (rows_in w n (drop w area)))

  table_is : (p n : ℕ) (area : List ℕ) → suc n ≤ p → is_table K w p (suc n) area ≡ (is_row K (take w area) && follow (pair_of (take w area)) n (drop w area))
  unfolding is_table are_rows is_rising rows_in
  table_is p n area g =
      rw (lt-ltb 0 (suc n) (omega arith), le-leb (suc n) p g, follow-is (pair_of (take w area)) n (drop w area))
      (and_assoc (is_row K (take w area)) (are_rows K w n (drop w area)) (rises_from compare_lists (pair_of (take w area)) (rows_in w n (drop w area))))

  module _ (p n : ℕ) (area : List ℕ) where
    pub none-no-table : n ≡ 0 → false ≡ is_table K w p n area
    unfolding is_table
    none-no-table e = rw (le-ltb 0 n (omega arith))

    pub many-no-table : (n ≡ 0 → ⊥) → p < n → false ≡ is_table K w p n area
    unfolding is_table
    many-no-table h l = rw (lt-ltb 0 n (omega arith), lt-leb n p l)

    -- the rows from row i on
    abbrev pub rest : ℕ → Bool
    rest i = follow (pair_of (part (i * w - w) w area)) (n - i) (drop (i * w) area)

    module _ (l : (n ≡ 0 → ⊥)) (g : n ≤ p) where
      first : is_table K w p n area ≡ (is_row K (take w area) && rest 1)
      first =
          let e : n ≡ suc (n - 1) = omega arith in
          let z : 1 * w - w ≡ 0 = omega arith in
          let o : 1 * w ≡ w = omega arith in
          ap (λ (j : ℕ). is_table K w p j area) e ∙ table_is p (n - 1) area (omega arith)
          ∙ ap₂ (λ (j : ℕ) (m : ℕ). is_row K (take w area) && follow (pair_of (part j w area)) (n - 1) (drop m area)) (sym z) (sym o)

      pub first-bad : is_row K (take w area) ≡ false → false ≡ is_table K w p n area
      first-bad e = sym (first ∙ ap (λ b. b && rest 1) e)

      pub first_good : is_row K (take w area) ≡ true → Readable (part (1 * w - w) w area) × (rest 1 ≡ is_table K w p n area)
      first_good e =
          let z : 1 * w - w ≡ 0 = omega arith in
          (rw z (row-readable K (take w area) e), sym (first ∙ ap (λ b. b && rest 1) e))

    module _ (i : ℕ) (h : rest i ≡ is_table K w p n area) where
      pub rows-ended : n ≤ i → (b : Bool) → b ≡ are_zero (drop (i * w) area) → b ≡ is_table K w p n area
      unfolding follow
      rows-ended l b e =
          let z : n - i ≡ 0 = omega arith in
          e ∙ sym (ap (λ (j : ℕ). follow (pair_of (part (i * w - w) w area)) j (drop (i * w) area)) z) ∙ h

      module _ (l : i < n) where
        abbrev next : Bool
        next = follows K (pair_of (part (i * w - w) w area)) (part (i * w) w area)

        rest_at : rest i ≡ (next && rest (i + 1))
        unfolding follow
        rest_at =
            let e : n - i ≡ suc (n - (i + 1)) = omega arith in
            let o : i * w ≡ (i + 1) * w - w = omega arith in
            ap (λ (j : ℕ). follow (pair_of (part (i * w - w) w area)) j (drop (i * w) area)) e
            ∙ ap₂ (λ (j : ℕ) (t : List ℕ). next && follow (pair_of (part j w area)) (n - (i + 1)) t) o (behind i w area)

        pub next-bad : next ≡ false → false ≡ is_table K w p n area
        next-bad e = sym (rest_at ∙ ap (λ b. b && rest (i + 1)) e) ∙ h

        pub next-good : next ≡ true → Readable (part ((i + 1) * w - w) w area) × (rest (i + 1) ≡ is_table K w p n area)
        next-good e =
            let o : (i + 1) * w - w ≡ i * w = omega arith in
            (rw o (row-readable K (part (i * w) w area) (and_both (is_row K (part (i * w) w area)) _ e).0), sym (rest_at ∙ ap (λ b. b && rest (i + 1)) e) ∙ h)

-- ---- tables

module _ (K w p : ℕ) (ns ws : List ℕ) where
  abbrev k : ℕ
  k = p * w

  -- the tables from table i on
  abbrev pub later : ℕ → Bool
  later i = are_tables K w p (drop i ns) (drop (i * k) ws)

  pub tables_start : later 0 ≡ are_tables K w p ns ws
  tables_start = rw (zero-mul k)

  module _ (i : ℕ) (h : later i ≡ are_tables K w p ns ws) where
    pub tables-ended : length ns ≤ i → (b : Bool) → b ≡ are_zero (drop (i * k) ws) → b ≡ are_tables K w p ns ws
    unfolding are_tables
    tables-ended l b e = e ∙ sym (ap (λ (ms : List ℕ). are_tables K w p ms (drop (i * k) ws)) (drop_of_length-le ns l)) ∙ h

    module _ (l : i < length ns) where
      abbrev table : Bool
      table = is_table K w p (get_or ns i 0) (part (i * k) k ws)

      later-at : later i ≡ (table && later (i + 1))
      unfolding are_tables
      later-at =
          ap (λ (ms : List ℕ). are_tables K w p ms (drop (i * k) ws)) (drop-cons ns i 0 l)
          ∙ ap₂ (λ (j : ℕ) (t : List ℕ). table && are_tables K w p (drop j ns) t) (sym (add-one i)) (behind i k ws)

      pub table-bad : table ≡ false → false ≡ are_tables K w p ns ws
      table-bad e = sym (later-at ∙ ap (λ b. b && later (i + 1)) e) ∙ h

      pub table-good : table ≡ true → later (i + 1) ≡ are_tables K w p ns ws
      table-good e = sym (later-at ∙ ap (λ b. b && later (i + 1)) e) ∙ h
