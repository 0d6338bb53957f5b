-- The report of a table (01, Tables: "Reports list pairs .."). Assumes nothing.
use Rattle.std.specs.Prelude.{List, [], ◌∷◌, ◌++◌, ℕ, ◌+◌, length}
use Rattle.tables.specs.Definitions.{Pair, own_triple, subsets}
use Rattle.leaves.specs.declared.Tables.{Tables}
use Rattle.leaves.specs.declared.Tables.TheVariants.{Plain, Pairs}

-- a pair is written as Q, number of subsets, subsets; of a plain table an entry is its triple alone
unfoldable pub entry_words : Tables → Pair → List ℕ
entry_words Plain x = own_triple x ∷ []
entry_words Pairs x = own_triple x ∷ length (subsets x) ∷ subsets x

-- how many words an entry of n subsets takes
abbrev pub entry_length : Tables → ℕ → ℕ
entry_length Plain n = 1
entry_length Pairs n = 2 + n

unfoldable pub report_of : Tables → List Pair → List ℕ
report_of kind [] = []
report_of kind (x ∷ t) = entry_words kind x ++ report_of kind t
