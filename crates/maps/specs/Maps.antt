-- What relabels, connects and unions with a rule make of entries (01: move, 31; link, 41 to 43; join, 21). Assumes nothing.
use Rattle.std.specs.Prelude.{◌≡◌, List, map, ℕ, ◌^◌, ◌<◌}
use Rattle.labels.specs.Labels.{label_count}
use Rattle.expression.specs.declared.Command.{Command}
use Rattle.values.specs.declared.Value.{Value}
use Rattle.values.specs.Values.{no_value}
use Rattle.batches.specs.Batches.{batch_pair, words_pair}
use Rattle.entries.specs.declared.Carry.{Carry}
use Rattle.entries.specs.declared.Carry.TheVariants.{Nothing, First, Consequences}
use Rattle.entries.specs.Carries.{Entry, value_area}
use Rattle.making.specs.Making.{table_of_all, entry_at, entries_at}

-- the entry with its pair mapped; its value stays
abbrev pub batched : List Command → Entry → Entry
batched cs x = record { item = batch_pair label_count cs x.item; value = x.value }

-- the same by words of code
abbrev pub worded : List ℕ → Entry → Entry
worded code x = record { item = words_pair label_count code x.item; value = x.value }

-- the entry of the row at word ra, with a value, mapped
abbrev pub worded_at : ℕ → ℕ → Value → List ℕ → List ℕ → Entry
worded_at w ra v code ws = worded code (entry_at w ra v ws)

-- the n entries at word a, whose values stand at word `old` of vals, each mapped
abbrev pub worded_all : Carry → ℕ → ℕ → ℕ → ℕ → ℕ → List ℕ → List ℕ → List ℕ → List Entry
worded_all carry w p a old n code vals ws = map (worded code) (entries_at carry w p a n (value_area carry p old vals) ws)

abbrev pub batched_all : Carry → ℕ → ℕ → ℕ → ℕ → ℕ → List Command → List ℕ → List ℕ → List Entry
batched_all carry w p a old n cs vals ws = map (batched cs) (entries_at carry w p a n (value_area carry p old vals) ws)

-- the table of the entries mapped
abbrev pub batched_table : Carry → List Command → List Entry → List Entry
batched_table carry cs t = table_of_all carry (map (batched cs) t)

-- a value that stays as it is together with that of a rule: as words hold it
abbrev pub Small : Carry → Entry → Type 0
Small Nothing x = x.value ≡ no_value
Small First x = (x.value.high ≡ 0) × (x.value.low < 2 ^ 64)
Small Consequences x = Unit {0}
