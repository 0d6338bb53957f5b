-- A stack of tables that can be kept passes the form test (01: 18) in the words that hold it, and is what is found there; over K labels. Assumes nothing.
use mathlib.Core.Path.{◌≡◌, refl, sym, ap, ap₂, ◌∙◌}
use mathlib.Core.Bool.{true}
use mathlib.Core.List.{List, [], ◌∷◌, ◌++◌, append_assoc, append-nil}
use Prim.Native.Nat.{ℕ, zero, suc, ◌+◌, ◌-◌, ◌*◌, ◌^◌, ◌≤◌, ◌<◌}
use native.Mathlib.Nat.{le_of_suc-le-suc, not-suc-le-zero}
use native.Mathlib.Omega.{arith}
use lib.Dec.{ltb}
use lib.ListN.{length, drop, get_or}
use lib.Seq.{take_at, drop_at}
use borrow.Author.Tests.{lt-ltb, le-leb}
use Rattle.std.specs.declared.cmp.Ordering.{Ordering}
use Rattle.std.specs.declared.cmp.Ordering.TheVariants.{Less}
use Rattle.lists.specs.Lists.{every, All}
use Rattle.lists.specs.Sorted.{compare_numbers, compare_lists, Rising}
use Rattle.tables.specs.Definitions.{Pair, subsets}
use Rattle.rows.specs.Parts.{zeros}
use Rattle.rows.specs.Rows.{row_of, Fit, table_of}
use Rattle.rows.proofs.Single.{length-row, pair_row, row_count, row-zeros}
use Rattle.rows.proofs.Tables.{rows_in-table}
use Rattle.workspace.specs.Workspace.{stack_words, stack_counts, Sound}
use Rattle.workspace.proofs.Areas.{table-long}
use Rattle.forms.specs.Forms.{are_zero, rises_from, is_rising, is_row, are_rows, is_table, are_tables, tables_in}

-- a table of pairs as a record's tables must be: one pair at least, sound, triples of K labels
pub record Formed (K w p : ℕ) (t : List Pair) : Type 0 where
  pub filled : 0 < length t
  pub sound : Sound w p t
  pub low : All (All (λ v. v < 2 ^ (3 * K))) t

pub zeros-zero : (n : ℕ) → are_zero (zeros n) ≡ true
unfolding are_zero every
zeros-zero zero = refl
zeros-zero (suc n) = zeros-zero n

-- ---- strictly rising lists

module _ {A : Type 0} (cmp : A → A → Ordering) where
  rises : (x : A) (xs : List A) → All (λ y. cmp x y ≡ Less) xs → Rising cmp xs → rises_from cmp x xs ≡ true
  unfolding rises_from Rising
  rises x [] h r = refl
  rises x (y ∷ ys) h r = rw h.0 (rises y ys r.0 r.1)

  rising : (xs : List A) → Rising cmp xs → is_rising cmp xs ≡ true
  unfolding is_rising Rising
  rising [] r = refl
  rising (x ∷ xs) r = rises x xs r.0 r.1

-- ---- one table

module _ (K w : ℕ) where
  every-low : (x : List ℕ) → All (λ v. v < 2 ^ (3 * K)) x → every (λ v. ltb v (2 ^ (3 * K))) x ≡ true
  unfolding every
  every-low [] h = refl
  every-low (v ∷ x) h = rw (lt-ltb v (2 ^ (3 * K)) h.0) (every-low x h.1)

  -- the words that a row uses
  row-used : (x : Pair) → Fit w x → 1 + length x ≤ 2 + get_or (row_of w x) 1 0
  unfolding row_of Fit
  row-used [] f = absurd (omega (arith, f.0))
  row-used (q ∷ s) f = omega arith

  row-formed : (x : Pair) → Fit w x → Rising compare_numbers (subsets x) → All (λ v. v < 2 ^ (3 * K)) x → is_row K (row_of w x) ≡ true
  unfolding is_row
  row-formed x f r l =
      let n : ℕ = 2 + get_or (row_of w x) 1 0 in
      let rest : are_zero (drop n (row_of w x)) ≡ true = ap are_zero (row-zeros w x f n (row-used x f) (row_count w x f)) ∙ zeros-zero (w - n) in
      rw (length-row w x f, le-leb n w (row_count w x f), pair_row w x f, every-low x l, rising compare_numbers (subsets x) r) rest

  rows-formed : (p : ℕ) (t : List Pair) → length t ≤ p → All (Fit w) t → All (λ x. Rising compare_numbers (subsets x)) t → All (All (λ v. v < 2 ^ (3 * K))) t
      → are_rows K w (length t) (table_of w p t) ≡ true
  unfolding are_rows table_of
  rows-formed p [] few f r l = zeros-zero (p * w)
  rows-formed zero (x ∷ t) few f r l = absurd (not-suc-le-zero few)
  rows-formed (suc p) (x ∷ t) few f r l =
      rw (take_at (row_of w x) (table_of w p t) w (length-row w x f.0), drop_at (row_of w x) (table_of w p t) w (length-row w x f.0), row-formed x f.0 r.0 l.0, rows-formed p t (le_of_suc-le-suc few) f.1 r.1 l.1)

  module _ (p : ℕ) where
    table-formed : (t : List Pair) → Formed K w p t → is_table K w p (length t) (table_of w p t) ≡ true
    unfolding is_table
    table-formed t h =
        let s = h.sound in
        rw (lt-ltb 0 (length t) h.filled, le-leb (length t) p s.few, rows-formed p t s.few s.fit s.ordered h.low, rows_in-table w p t s.fit s.few, rising compare_lists t s.rising)

    -- ---- a stack of tables, with counts and words behind it

    pub stack-formed : (ts : List (List Pair)) (ns ws : List ℕ) → All (Formed K w p) ts → are_tables K w p (stack_counts ts ++ ns) (stack_words w p ts ++ ws) ≡ are_tables K w p ns ws
    unfolding stack_counts stack_words are_tables
    stack-formed [] ns ws h = refl
    stack-formed (t ∷ ts) ns ws h =
        let long = table-long w p t h.0.sound in
        ap₂ (are_tables K w p) (append_assoc (stack_counts ts) (length t ∷ []) ns) (append_assoc (stack_words w p ts) (table_of w p t) ws)
        ∙ stack-formed ts (length t ∷ ns) (table_of w p t ++ ws) h.1
        ∙ rw (take_at (table_of w p t) ws (p * w) long, drop_at (table_of w p t) ws (p * w) long, table-formed t h.0)

    pub stack-found : (ts : List (List Pair)) (ns ws : List ℕ) → All (Formed K w p) ts → tables_in w p (stack_counts ts ++ ns) (stack_words w p ts ++ ws) ≡ tables_in w p ns ws ++ ts
    unfolding stack_counts stack_words tables_in
    stack-found [] ns ws h = sym (append-nil (tables_in w p ns ws))
    stack-found (t ∷ ts) ns ws h =
        let long = table-long w p t h.0.sound in
        let s = h.0.sound in
        ap₂ (tables_in w p) (append_assoc (stack_counts ts) (length t ∷ []) ns) (append_assoc (stack_words w p ts) (table_of w p t) ws)
        ∙ stack-found ts (length t ∷ ns) (table_of w p t ++ ws) h.1
        ∙ rw (take_at (table_of w p t) ws (p * w) long, drop_at (table_of w p t) ws (p * w) long, rows_in-table w p t s.fit s.few) (append_assoc (tables_in w p ns ws) (t ∷ []) ts)
