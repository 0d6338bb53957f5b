-- What is carried beside the rows of a table in 64-bit words: nothing, in one word the value of the first interpretation, or in two the atoms that some
-- interpretation has and those that all have. Assumes nothing.
use Rattle.std.specs.Prelude.{◌≡◌, ℕ, ◌-◌, ◌*◌, ◌≤◌, List, [], ◌∷◌, ◌++◌, map, length, take, replicate}
use Rattle.tables.specs.Algebras.{Algebra}
use Rattle.tables.specs.Definitions.{Pair, pairs}
use Rattle.values.specs.declared.Value.{Value}
use Rattle.values.specs.Values.{Values, Valued, valued, no_value, in_low, low_words}
use Rattle.values.specs.First.{first_words}
use Rattle.values.specs.Consequences.{consequences}
use Rattle.rows.specs.Parts.{part, put, zeros}
use Rattle.entries.specs.declared.Carry.{Carry}
use Rattle.entries.specs.declared.Carry.TheVariants.{Nothing, First, Consequences}

-- the values as 64-bit words keep them
abbrev pub carried_by : Carry → Values Value
carried_by Nothing = record { unit = no_value; either = λ a b. no_value; together = λ a b. no_value; present = λ c. no_value; absent = λ c. no_value }
carried_by First = low_words first_words
carried_by Consequences = consequences

-- a value that the words keep
abbrev pub Keeps : Carry → Value → Type 0
Keeps Nothing v = v ≡ no_value
Keeps First v = v.high ≡ 0
Keeps Consequences v = Unit {0}

-- how many words m values take
abbrev pub in_words : Carry → ℕ → ℕ
in_words Nothing m = 0
in_words First m = m
in_words Consequences m = 2 * m

-- values of two words each, the high one first
unfoldable pub twos : List ℕ → List Value
twos [] = []
twos (x ∷ []) = []
twos (x ∷ y ∷ xs) = record { high = x; low = y } ∷ twos xs

-- the values of the first m rows
abbrev pub values_in : Carry → ℕ → List ℕ → List Value
values_in Nothing m vals = replicate m no_value
values_in First m vals = map in_low (take m vals)
values_in Consequences m vals = twos (take (2 * m) vals)

-- the words that hold the values of m rows, and perhaps more
abbrev pub Beside : Carry → ℕ → List ℕ → Type 0
Beside carry m vals = in_words carry m ≤ length vals

-- p words, m of them taken: zeros behind them
abbrev pub KeptWords : ℕ → ℕ → List ℕ → Type 0
KeptWords p m vals = (vals ≡ take m vals ++ zeros (p - m)) × (length vals ≡ p)

-- the words of the values of an area of p rows, m of them taken
abbrev pub Kept : Carry → ℕ → ℕ → List ℕ → Type 0
Kept carry p m vals = KeptWords (in_words carry p) (in_words carry m) vals

-- the words of the values of an area of p rows, from word o on
abbrev pub value_area : Carry → ℕ → ℕ → List ℕ → List ℕ
value_area carry p o vals = part o (in_words carry p) vals

-- no other word changed
abbrev pub OnlyArea : Carry → ℕ → ℕ → List ℕ → List ℕ → Type 0
OnlyArea carry p o vals vals' = vals' ≡ put o (in_words carry p) vals (value_area carry p o vals')

-- a row with its value
abbrev pub Entry : Type 0
Entry = Valued Pair Value

-- tables of pairs with values
unfoldable pub entry_algebra : ℕ → Carry → Algebra Entry
entry_algebra K carry = valued (pairs K) (carried_by carry)
