-- Tables of pairs as words (01, "One command a call"): rows of w = G + 2 words, the pair's Q, how many subsets, the subsets, zeros. Assumes nothing.
use Rattle.std.specs.Prelude.{◌≡◌, List, [], ◌∷◌, ◌++◌, map, ℕ, zero, suc, ◌+◌, ◌-◌, ◌*◌, ◌≤◌, ◌<◌, length, take, drop}
use Rattle.lists.specs.Lists.{All}
use Rattle.lists.specs.Sorted.{compare_lists, Rising}
use Rattle.tables.specs.Definitions.{Pair, own_triple, subsets}
use Rattle.candidates.specs.Candidates.{pair_of}
use Rattle.rows.specs.Parts.{part, zeros}

unfoldable pub row_of : ℕ → Pair → List ℕ
row_of w x = own_triple x ∷ length (subsets x) ∷ subsets x ++ zeros (w - (2 + length (subsets x)))

-- a pair that fits a row of w words
unfoldable pub Fit : ℕ → Pair → Type 0
Fit w x = (0 < length x) × (length x < w)

-- an area of p rows that holds the pairs, and zeros behind them
unfoldable pub table_of : ℕ → ℕ → List Pair → List ℕ
table_of w p [] = zeros (p * w)
table_of w zero (x ∷ xs) = []
table_of w (suc p) (x ∷ xs) = row_of w x ++ table_of w p xs

-- the pairs of the first n rows
unfoldable pub rows_in : ℕ → ℕ → List ℕ → List Pair
rows_in w zero area = []
rows_in w (suc n) area = pair_of (take w area) ∷ rows_in w n (drop w area)

-- a row that holds a pair, zeros behind it; a row of zeros is one too
pub record IsRow (w : ℕ) (row : List ℕ) : Type 0 where
  pub words : row ≡ row_of w (pair_of row)
  pub fit : Fit w (pair_of row)

-- an area of p rows whose first n hold pairs, zeros behind them
pub record Rows (w p n : ℕ) (area : List ℕ) : Type 0 where
  pub words : area ≡ table_of w p (rows_in w n area)
  pub room : n ≤ p
  pub fit : All (Fit w) (rows_in w n area)

-- the words of row i
abbrev pub slot : ℕ → ℕ → List ℕ → List ℕ
slot w i area = part (i * w) w area

-- ---- a table that is being made: rows stand in order of arrival, and an index names them in rising order

-- the pairs that the first m places of the index name
unfoldable pub sorted_of : ℕ → ℕ → List ℕ → List ℕ → List Pair
sorted_of w m area index = map (λ i. pair_of (slot w i area)) (take m index)

pub record Indexed (w p m : ℕ) (area index : List ℕ) : Type 0 where
  pub arrived : List Pair
  pub words : area ≡ table_of w p arrived
  pub count : length arrived ≡ m
  pub room : m ≤ p
  pub fit : All (Fit w) arrived
  pub long : p ≤ length index
  pub places : All (λ i. i < m) (take m index)
  pub rising : Rising compare_lists (sorted_of w m area index)
