-- The candidates of a union. Assumes nothing.
use Rattle.std.specs.Prelude.{List, map, ℕ}
use Rattle.lists.specs.Lists.{products}
use Rattle.labels.specs.Labels.{label_count}
use Rattle.tables.specs.Definitions.{unite_pairs}
use Rattle.values.specs.declared.Value.{Value}
use Rattle.candidates.specs.Candidates.{pair_of}
use Rattle.rows.specs.Parts.{part}
use Rattle.entries.specs.declared.Carry.{Carry}
use Rattle.entries.specs.Carries.{Entry, entry_algebra, value_area}
use Rattle.making.specs.Making.{entry_at, entries_at}

-- the pairs at words ra and rb united, with a value
abbrev pub united_at : ℕ → ℕ → ℕ → Value → List ℕ → Entry
united_at w ra rb v ws = record { item = unite_pairs (pair_of (part ra w ws)) (pair_of (part rb w ws)); value = v }

-- the entry of the row at word ra, with value va, united with each of the n entries at word b, whose values stand at word `right` of vals
abbrev pub united_with : Carry → ℕ → ℕ → ℕ → Value → ℕ → ℕ → ℕ → List ℕ → List ℕ → List Entry
united_with carry w p ra va b right n vals ws = map ((entry_algebra label_count carry).united (entry_at w ra va ws)) (entries_at carry w p b n (value_area carry p right vals) ws)

-- each of the na entries at word a united with each of the nb entries at word b; their values stand at words `left` and `right` of vals
abbrev pub united_all : Carry → ℕ → ℕ → ℕ → ℕ → ℕ → ℕ → ℕ → ℕ → List ℕ → List ℕ → List Entry
united_all carry w p a left na b right nb vals ws =
    products (entry_algebra label_count carry).united (entries_at carry w p a na (value_area carry p left vals) ws) (entries_at carry w p b nb (value_area carry p right vals) ws)
