-- The entries of a table mapped one after the other: the next candidate, and that there are no more candidates than rows. Assumes nothing.
use mathlib.Core.Path.{◌≡◌, refl, sym, ap, ap₂}
use mathlib.Core.List.{List, [], ◌∷◌, map}
use Prim.Native.Nat.{ℕ, ◌+◌, ◌-◌, ◌*◌, ◌≤◌, ◌<◌}
use native.Mathlib.Decide.{dec_le}
use native.Mathlib.Omega.{arith}
use lib.ListN.{length, take, drop, get_or, get_or-map}
use Rattle.lists.specs.Lists.{All}
use Rattle.lists.proofs.Canon.{length-canon-map}
use Rattle.labels.specs.Labels.{label_count}
use Rattle.tables.specs.Definitions.{Pair}
use Rattle.values.specs.declared.Value.{Value}
use Rattle.values.specs.Values.{no_value, in_low}
use Rattle.rows.specs.Parts.{part}
use Rattle.marks.specs.Marks.{Marked}
use Rattle.rows.specs.Rows.{Rows}
use Rattle.batches.specs.Batches.{commands_of, steps, cleaned, batch_pair, word_steps, words_pair}
use Rattle.entries.specs.declared.Carry.{Carry}
use Rattle.entries.specs.declared.Carry.TheVariants.{Nothing, First, Consequences}
use Rattle.entries.specs.Carries.{in_words, value_area, Keeps, values_in, Beside, Entry, entry_algebra}
use Rattle.entries.specs.Entries.{with_values}
use Rattle.entries.proofs.Keeping.{no_value-get}
use Rattle.making.specs.Making.{Making, table_of_all, entries_at, entry_at}
use Rattle.making.proofs.Held.{entries-long}
use Rattle.making.proofs.Underway.{Underway, Operand, row-value, next-held}
use Rattle.maps.specs.Maps.{batched, worded}

-- the value of a row is one that words keep
pub keeps-value : (carry : Carry) (n j : ℕ) (old : List ℕ) → Keeps carry (get_or (values_in carry n old) j no_value)
keeps-value Nothing n j old = sym (no_value-get n j)
keeps-value First n j old = ap (λ (v : Value). v.high) (get_or-map in_low (take n old) j 0)
keeps-value Consequences n j old = tt

-- an entry with its pair mapped
abbrev pub by : (Pair → Pair) → Entry → Entry
by f x = record { item = f x.item; value = x.value }

-- words that do what commands do on pairs with no marks but those of m
pub worded-is : (code ops : List ℕ) (m : ℕ) → ((x : List ℕ) → Marked m x → word_steps label_count code x ≡ steps label_count (commands_of ops) x)
    → (xs : List Pair) (vs : List Value) → All (Marked m) xs → map (worded code) (with_values xs vs) ≡ map (batched (commands_of ops)) (with_values xs vs)
unfolding words_pair batch_pair with_values
worded-is code ops m e [] vs h = refl
worded-is code ops m e (x ∷ xs) [] h =
    ap₂ {C = List Entry} (λ y l. y ∷ l) (ap (λ (y : List ℕ). record { item = cleaned label_count y; value = no_value }) (e x h.0)) (worded-is code ops m e xs [] h.1)
worded-is code ops m e (x ∷ xs) (v ∷ vs) h =
    ap₂ {C = List Entry} (λ y l. y ∷ l) (ap (λ (y : List ℕ). record { item = cleaned label_count y; value = v }) (e x h.0)) (worded-is code ops m e xs vs h.1)

-- the n entries of the area at word a
module _ (carry : Carry) (w p a n : ℕ) (old wsₛ : List ℕ) (within : a + p * w ≤ length wsₛ) (t : Rows w p n (part a (p * w) wsₛ)) (beside : Beside carry n old) (f : Pair → Pair) where
  abbrev xs : List Entry
  xs = entries_at carry w p a n old wsₛ

  -- their table has no more than p rows
  pub few-mapped : length (table_of_all carry (map (by f) xs)) ≤ p
  unfolding table_of_all
  few-mapped =
      omega (arith, length-canon-map (entry_algebra label_count carry).order (entry_algebra label_count carry).merge (by f) xs, entries-long carry w p a n old wsₛ within t beside, t.room)

-- the j-th of them is the next candidate
module _ {carry : Carry} {w p to made a o n : ℕ} {cands left : List Entry} {m r : ℕ} {ws₀ index₀ vals₀ ws index vals : List ℕ}
    (d : Operand carry w p to made a o n ws₀ vals₀) (h : Underway carry w p to made cands left m r ws₀ index₀ vals₀ ws index vals) (f : Pair → Pair) (j : ℕ) (l : j < n) where
  pub next-is : (many : ℕ) → many ≡ in_words carry p → (v : Value) → v ≡ get_or (values_in carry n (part o (o + many - o) vals)) j no_value
      → map (by f) (drop j (entries_at carry w p a n (value_area carry p o vals₀) ws₀)) ≡ by f (entry_at w (a + j * w) v ws) ∷ map (by f) (drop (j + 1) (entries_at carry w p a n (value_area carry p o vals₀) ws₀))
  next-is many is v e = ap (map (by f)) (next-held d h j l v (row-value d h j l many is v e))

-- a table whose candidates come to no more than p rows is not over
pub not-over : {carry : Carry} {w p to : ℕ} {cands rest : List Entry} {r : ℕ} {ws₀ ws index vals : List ℕ} → Making carry w p to cands rest r ws₀ ws index vals
    → length (table_of_all carry cands) ≤ p → r ≤ p
not-over {p} {r} h l = step (dec_le r p)
  where
    step : Dec (r ≤ p) → r ≤ p
    step (yes k) = k
    step (no k) = absurd (omega (arith, h.over (omega arith)))
