-- The form that the tables in a running record's workspace must have (01: 18), over K labels. Assumes nothing.
use Rattle.std.specs.Prelude.{Bool, true, false, ◌&&◌, List, [], ◌∷◌, ◌++◌, ℕ, zero, suc, ◌+◌, ◌*◌, ◌^◌, eqb, ltb, leb, length, take, drop, get_or}
use Rattle.std.specs.declared.cmp.Ordering.{Ordering}
use Rattle.lists.specs.Lists.{every}
use Rattle.lists.specs.Sorted.{by_order, compare_numbers, compare_lists}
use Rattle.tables.specs.Definitions.{Pair, subsets}
use Rattle.candidates.specs.Candidates.{pair_of}
use Rattle.rows.specs.Rows.{rows_in}

unfoldable pub are_zero : List ℕ → Bool
are_zero ws = every (λ v. eqb v 0) ws

-- each element comes before the next
module _ {A : Type 0} (cmp : A → A → Ordering) where
  unfoldable pub rises_from : A → List A → Bool
  rises_from x [] = true
  rises_from x (y ∷ ys) = by_order (cmp x y) true false false && rises_from y ys

  unfoldable pub is_rising : List A → Bool
  is_rising [] = true
  is_rising (x ∷ xs) = rises_from x xs

-- a row of G + 2 words: at most G subsets, triples under 2 ^ (3 * K), which is 2^30 at ten labels, the subsets strictly rising, zeros behind them
unfoldable pub is_row : ℕ → List ℕ → Bool
is_row K row =
    leb (2 + get_or row 1 0) (length row)
    && (every (λ v. ltb v (2 ^ (3 * K))) (pair_of row)
    && (is_rising compare_numbers (subsets (pair_of row))
    && are_zero (drop (2 + get_or row 1 0) row)))

-- n such rows, and zeros behind them
unfoldable pub are_rows : ℕ → ℕ → ℕ → List ℕ → Bool
are_rows K w zero area = are_zero area
are_rows K w (suc n) area = is_row K (take w area) && are_rows K w n (drop w area)

-- a table: 1 to p pairs in strictly rising report order
unfoldable pub is_table : ℕ → ℕ → ℕ → ℕ → List ℕ → Bool
is_table K w p n area = ltb 0 n && (leb n p && (are_rows K w n area && is_rising compare_lists (rows_in w n area)))

-- tables of so many pairs each, the oldest first, in areas of p rows; zeros behind them
unfoldable pub are_tables : ℕ → ℕ → ℕ → List ℕ → List ℕ → Bool
are_tables K w p [] ws = are_zero ws
are_tables K w p (n ∷ ns) ws = is_table K w p n (take (p * w) ws) && are_tables K w p ns (drop (p * w) ws)

-- the tables that stand there, the newest first
unfoldable pub tables_in : ℕ → ℕ → List ℕ → List ℕ → List (List Pair)
tables_in w p [] ws = []
tables_in w p (n ∷ ns) ws = tables_in w p ns (drop (p * w) ws) ++ (rows_in w n (take (p * w) ws) ∷ [])
