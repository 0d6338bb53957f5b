-- The least value that is found among the rows of a table, as a sum of values. Assumes nothing.
use Rattle.std.specs.Prelude.{Bool, List, map, Option, Some, None, ℕ}
use Rattle.tables.specs.Definitions.{Pair}
use Rattle.values.specs.Values.{Total, none, worth, lowered, sum_by}
use Rattle.values.specs.First.{firsts, passing}
use Rattle.entries.specs.Carries.{Entry}

-- the least number, in low words, of the entries that pass a test
abbrev pub least_of : (Pair → Bool) → List Entry → Total ℕ
least_of f t = sum_by firsts (passing f) (map lowered t)

abbrev pub total_of : Option ℕ → Total ℕ
total_of None = none
total_of (Some v) = worth v
