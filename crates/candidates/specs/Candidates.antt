-- Rows of words that hold pairs, and what commands make of pairs, over K labels. Assumes nothing.
use Rattle.std.specs.Prelude.{◌≡◌, List, ◌∷◌, ℕ, ◌+◌, ◌≤◌, ◌<◌, length, take, drop, get_or}
use Rattle.expression.specs.declared.Command.{Command}
use Rattle.expression.specs.declared.Command.TheVariants.{Atom, Rule, Union, Relabel, Connect, Name}
use Rattle.tables.specs.Triples.{relabel_triple, connect_triple}
use Rattle.tables.specs.Definitions.{Pair}

-- the pair that a row's words hold: Q, how many subsets, the subsets; what stands behind them is not looked at
unfoldable pub pair_of : List ℕ → Pair
pair_of row = get_or row 0 0 ∷ take (get_or row 1 0) (drop 2 row)

-- its subsets are within the row
abbrev pub Readable : List ℕ → Type 0
Readable row = 2 + get_or row 1 0 ≤ length row

-- a row of w words is made to hold the pair x, and r says how many subsets; or x has too many, and r says so
pub record Made (w r : ℕ) (x : Pair) (row' : List ℕ) : Type 0 where
  pub fits : r + 2 ≤ w → (get_or row' 1 0 ≡ r) × (pair_of row' ≡ x)
  pub full : w < r + 2 → w ≤ length x

-- what a relabel or a connect makes of a triple r, where q is the interpretation's own
unfoldable pub map_triple : ℕ → Command → ℕ → ℕ → ℕ
map_triple K (Atom g) q r = r
map_triple K (Rule g) q r = r
map_triple K Union q r = r
map_triple K (Relabel i j) q r = relabel_triple K i j r
map_triple K (Connect k i j) q r = connect_triple K k i j q r
map_triple K (Name at) q r = r
