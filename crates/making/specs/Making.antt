-- A table that a command makes entry by entry in the scratch area, by candidate entries. Assumes nothing.
use Rattle.std.specs.Prelude.{◌≡◌, List, ◌++◌, map, ℕ, ◌+◌, ◌*◌, ◌≤◌, ◌<◌, min, length}
use Rattle.lists.specs.Lists.{All}
use Rattle.lists.specs.Sorted.{insert_all, canon}
use Rattle.labels.specs.Labels.{label_count}
use Rattle.values.specs.declared.Value.{Value}
use Rattle.candidates.specs.Candidates.{pair_of}
use Rattle.rows.specs.Parts.{part, put, zeros}
use Rattle.rows.specs.Rows.{Fit, rows_in, table_of, sorted_of, Rows, Indexed}
use Rattle.entries.specs.declared.Carry.{Carry}
use Rattle.entries.specs.Carries.{Entry, entry_algebra, values_in, Kept}
use Rattle.entries.specs.Entries.{with_values, entries_of}

-- all candidates put in; the table of all candidates
unfoldable pub entered_all : Carry → List Entry → List Entry → List Entry
entered_all carry xs acc = insert_all (entry_algebra label_count carry).order (entry_algebra label_count carry).merge xs acc

unfoldable pub table_of_all : Carry → List Entry → List Entry
table_of_all carry xs = canon (entry_algebra label_count carry).order (entry_algebra label_count carry).merge xs

-- an entry whose pair fits a row of w words
abbrev pub FitEntry : ℕ → Entry → Type 0
FitEntry w x = Fit w x.item

-- how far a table is made: of the candidates cands, those of rest are left, m rows stand at word `to` (p + 1 where there are more than p)
pub record Making (carry : Carry) (w p to : ℕ) (cands rest : List Entry) (m : ℕ) (ws₀ ws index vals : List ℕ) : Type 0 where
  pub bound : m ≤ p + 1
  pub frame : ws ≡ put to (p * w) ws₀ (part to (p * w) ws)
  pub as_long : length ws ≡ length ws₀
  pub indexed : Indexed w p (min m p) (part to (p * w) ws) index
  pub kept : Kept carry p (min m p) vals
  pub going : m ≤ p → entered_all carry rest (entries_of carry w m (part to (p * w) ws) index vals) ≡ table_of_all carry cands
  pub over : p < m → p < length (table_of_all carry cands)
  pub fit : All (FitEntry w) rest → All (FitEntry w) cands

-- the candidates xs are put in: the count then, as in Making; p + 2 where one of them does not fit
pub record Stepped (carry : Carry) (w p to : ℕ) (cands rest xs : List Entry) (r : ℕ) (ws₀ ws index vals : List ℕ) : Type 0 where
  pub most : r ≤ p + 2
  pub same_length : length ws ≡ length ws₀
  pub made : r ≤ p + 1 → Making carry w p to cands rest r ws₀ ws index vals
  pub wide : p + 1 < r → All (FitEntry w) xs → ⊥
  pub scratch : ws ≡ put to (p * w) ws₀ (part to (p * w) ws)
  pub rows : Rows w p p (part to (p * w) ws)

-- a table is being made, and xs are the next candidates
abbrev pub Next : Carry → ℕ → ℕ → ℕ → ℕ → List Entry → List ℕ → List ℕ → List ℕ → Type 0
Next carry w p to m xs ws index vals = (cands : List Entry) × (rest : List Entry) × (ws₀ : List ℕ) × Making carry w p to cands (xs ++ rest) m ws₀ ws index vals

-- whatever table is being made, the candidates xs, which fit, are put in
abbrev pub Puts : Carry → ℕ → ℕ → ℕ → ℕ → List Entry → ℕ → List ℕ → List ℕ → List ℕ → List ℕ → List ℕ → List ℕ → Type 0
Puts carry w p to m xs r ws index vals ws' index' vals' =
    (cands rest : List Entry) (ws₀ : List ℕ) → Making carry w p to cands (xs ++ rest) m ws₀ ws index vals → Making carry w p to cands rest r ws₀ ws' index' vals'

-- whatever table is being made, xs are put in, or one of them does not fit
abbrev pub Steps : Carry → ℕ → ℕ → ℕ → ℕ → List Entry → ℕ → List ℕ → List ℕ → List ℕ → List ℕ → List ℕ → List ℕ → Type 0
Steps carry w p to m xs r ws index vals ws' index' vals' =
    (cands rest : List Entry) (ws₀ : List ℕ) → Making carry w p to cands (xs ++ rest) m ws₀ ws index vals → Stepped carry w p to cands rest xs r ws₀ ws' index' vals'

-- r rows made at word `to` are put in order at word `at`, unless they are more than p; the words they were made in are zero
pub record Settled (w p r at to : ℕ) (index ws ws' : List ℕ) : Type 0 where
  pub table : r ≤ p → ws' ≡ put to (p * w) (put at (p * w) ws (table_of w p (sorted_of w r (part to (p * w) ws) index))) (zeros (p * w))
  pub none : p < r → ws' ≡ put to (p * w) ws (zeros (p * w))

-- what a command whose candidates are cands leaves: the table of all candidates at word `at`, of r rows, and its values; nothing changes where it has more
-- than p rows, r is p + 1, or where a candidate does not fit, r is p + 2. The words cleared are those with the operands gone.
pub record Finished (carry : Carry) (w p at : ℕ) (cands : List Entry) (r : ℕ) (ws cleared ws' vals' : List ℕ) : Type 0 where
  pub most : r ≤ p + 2
  pub wide : p + 1 < r → All (FitEntry w) cands → ⊥
  pub fit : r ≤ p + 1 → All (FitEntry w) cands
  pub over : r ≡ p + 1 → p < length (table_of_all carry cands)
  pub stays : p < r → ws' ≡ ws
  pub count : r ≤ p → length (table_of_all carry cands) ≡ r
  pub table : r ≤ p → ws' ≡ put at (p * w) cleared (table_of w p (map (λ x. x.item) (table_of_all carry cands)))
  pub kept : r ≤ p → Kept carry p r vals'
  pub values : r ≤ p → with_values (map (λ x. x.item) (table_of_all carry cands)) (values_in carry r vals') ≡ table_of_all carry cands

-- the entry of a row, with a value; of the row at word a
abbrev pub entry_of : List ℕ → Value → Entry
entry_of row v = record { item = pair_of row; value = v }

abbrev pub entry_at : ℕ → ℕ → Value → List ℕ → Entry
entry_at w a v ws = entry_of (part a w ws) v

-- the entries of the n rows of the area at word a, with their values
abbrev pub entries_at : Carry → ℕ → ℕ → ℕ → ℕ → List ℕ → List ℕ → List Entry
entries_at carry w p a n vals ws = with_values (rows_in w n (part a (p * w) ws)) (values_in carry n vals)
