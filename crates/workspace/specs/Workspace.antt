-- A stack of tables in a lent workspace (01, "One command a call"): areas of p rows of w words, the oldest table first; the last area is scratch. Values
-- stand beside in areas of their own, laid out in the same way. Assumes nothing.
use Rattle.std.specs.Prelude.{◌≡◌, cond, List, [], ◌∷◌, ◌++◌, map, ℕ, ◌+◌, ◌-◌, ◌*◌, ◌≤◌, ◌<◌, ltb, length, drop}
use Rattle.lists.specs.Lists.{All}
use Rattle.lists.specs.Sorted.{compare_numbers, compare_lists, Rising}
use Rattle.expression.specs.Refusals.{subsets_full, plans_full}
use Rattle.tables.specs.Definitions.{Pair, subsets}
use Rattle.values.specs.declared.Value.{Value}
use Rattle.decisions.specs.Decisions.{pairs_fault, newest}
use Rattle.rows.specs.Parts.{part, put, zeros}
use Rattle.rows.specs.Rows.{Fit, table_of}
use Rattle.entries.specs.declared.Carry.{Carry}
use Rattle.entries.specs.Carries.{Entry, in_words, values_in, value_area}

-- the areas of the tables; the newest is first in the list and last in the words
unfoldable pub stack_words : ℕ → ℕ → List (List Pair) → List ℕ
stack_words w p [] = []
stack_words w p (t ∷ ts) = stack_words w p ts ++ table_of w p t

-- a workspace of d areas that holds the tables, zeros in the areas left; the words beyond are none of them
unfoldable pub workspace_of : ℕ → ℕ → ℕ → List (List Pair) → List ℕ → List ℕ
workspace_of d w p ts beyond = stack_words w p ts ++ (zeros ((d - length ts) * (p * w)) ++ beyond)

-- a table as an area keeps it: at most p pairs, each fits a row, they rise, and so do their subsets
pub record Sound (w p : ℕ) (t : List Pair) : Type 0 where
  pub few : length t ≤ p
  pub fit : All (Fit w) t
  pub rising : Rising compare_lists t
  pub ordered : All (λ x. Rising compare_numbers (subsets x)) t

-- the pairs of a table with values, and the values
abbrev pub pairs_of : List Entry → List Pair
pairs_of t = map (λ x. x.item) t

abbrev pub values_of : List Entry → List Value
values_of t = map (λ x. x.value) t

-- where the values of the i-th area begin: each area has the words of p values
abbrev pub values_from : Carry → ℕ → ℕ → ℕ
values_from carry p i = i * in_words carry p

-- the values of each table stand there
abbrev pub HeldValues : Carry → ℕ → List (List Entry) → List ℕ → Type 0
HeldValues carry p [] vals = Unit {0}
HeldValues carry p (t ∷ ts) vals = (values_in carry (length t) (drop (values_from carry p (length ts)) vals) ≡ values_of t) × HeldValues carry p ts vals

-- d areas of values fit; the last of them, in which values are made, is zero
pub record Roomy (carry : Carry) (d p : ℕ) (vals : List ℕ) : Type 0 where
  pub room : values_from carry p d ≤ length vals
  pub clear : value_area carry p (values_from carry p (d - 1)) vals ≡ zeros (in_words carry p)

-- the stack of tables that a workspace of d areas and the words of values hold; one area at least is free
pub record Holds (carry : Carry) (d w p : ℕ) (ts : List (List Entry)) (beyond ws vals : List ℕ) : Type 0 where
  pub words : ws ≡ workspace_of d w p (map pairs_of ts) beyond
  pub sound : All (λ t. Sound w p (pairs_of t)) ts
  pub free : length ts < d
  pub values : HeldValues carry p ts vals
  pub roomy : Roomy carry d p vals

-- how many entries each table has, the oldest first; of k counts the others are 0
unfoldable pub stack_counts : {X : Type 0} → List (List X) → List ℕ
stack_counts [] = []
stack_counts (t ∷ ts) = stack_counts ts ++ (length t ∷ [])

unfoldable pub counts_of : {X : Type 0} → ℕ → List (List X) → List ℕ
counts_of k ts = stack_counts ts ++ zeros (k - length ts)

-- the n words at word `from` moved to word `to`; zeros stay behind
abbrev pub moved_to : ℕ → ℕ → ℕ → List ℕ → List ℕ
moved_to to from n vals = put from n (put to n vals (part from n vals)) (zeros n)

-- the r values that were made, in the last of d areas, moved to area i
abbrev pub placed : Carry → ℕ → ℕ → ℕ → ℕ → List ℕ → List ℕ
placed carry d p i r vals = moved_to (values_from carry p i) (values_from carry p (d - 1)) (in_words carry r) vals

-- 15, then 16, or 0, by the count that a command answers: p + 2 where a pair has too many subsets, p + 1 where there are too many pairs
unfoldable pub fault_of : ℕ → ℕ → ℕ
fault_of p r = cond (ltb (p + 1) r) subsets_full (cond (ltb p r) plans_full 0)

-- a command whose stack is us then answers r: the tables are held, r is how many entries the newest has; or it is refused and no word of the workspace changed
pub record Acted (carry : Carry) (d w p : ℕ) (us : List (List Entry)) (beyond : List ℕ) (r : ℕ) (ws ws' vals' : List ℕ) : Type 0 where
  pub most : r ≤ p + 2
  pub fault : fault_of p r ≡ pairs_fault p (w - 2) (pairs_of (newest us))
  pub count : r ≤ p → length (newest us) ≡ r
  pub holds : r ≤ p → Holds carry d w p us beyond ws' vals'
  pub same : p < r → ws' ≡ ws
