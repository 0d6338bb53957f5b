-- The rows of a table that are left, summed onto the best so far. Assumes nothing.
use mathlib.Core.Path.{◌≡◌, refl, sym, ap, ◌∙◌}
use mathlib.Core.Bool.{Bool, true, false}
use mathlib.Core.List.{List, ◌∷◌}
use Prim.Native.Nat.{ℕ, ◌+◌, ◌*◌, ◌≤◌, ◌<◌}
use lib.ListN.{length, drop, get_or}
use Rattle.tables.specs.Definitions.{Pair}
use Rattle.values.specs.declared.Value.{Value}
use Rattle.values.specs.Values.{Total, worth, no_value, add, sum_by}
use Rattle.values.specs.First.{firsts}
use Rattle.values.proofs.Semirings.{add_none}
use Rattle.candidates.specs.Candidates.{pair_of}
use Rattle.rows.specs.Parts.{part}
use Rattle.rows.specs.Rows.{Rows}
use Rattle.entries.specs.declared.Carry.{Carry}
use Rattle.entries.specs.Carries.{values_in, Beside, Entry}
use Rattle.making.specs.Making.{entry_at, entries_at}
use Rattle.making.proofs.Held.{entry-at, entries_from, none_left}
use Rattle.answers.specs.Answers.{least_of}
use Rattle.answers.proofs.Leasts.{least-with, least-past}

module _ (f : Pair → Bool) (carry : Carry) (w p a n : ℕ) (vals ws : List ℕ) where
  abbrev xs : List Entry
  xs = entries_at carry w p a n vals ws

  -- those from row j on
  abbrev pub Remains : ℕ → Total ℕ → Type 0
  Remains j best = add firsts best (least_of f (drop j xs)) ≡ least_of f xs

  module _ (within : a + p * w ≤ length ws) (t : Rows w p n (part a (p * w) ws)) (beside : Beside carry n vals) (best : Total ℕ) (j : ℕ) (h : Remains j best) where
    from_row : j < n → (v : Value) → v ≡ get_or (values_in carry n vals) j no_value
        → add firsts best (least_of f (entry_at w (a + j * w) v ws ∷ drop (j + 1) xs)) ≡ least_of f xs
    from_row l v e =
        let here : drop j xs ≡ entry_at w (a + j * w) v ws ∷ drop (j + 1) xs =
        entries_from carry w p a n vals ws within t beside j l ∙ ap (λ (y : Entry). y ∷ drop (j + 1) xs) (entry-at carry w p a n vals ws within t beside j l v e ws refl) in
        sym (ap (λ (y : List Entry). add firsts best (least_of f y)) here) ∙ h

    -- row j passes; it does not
    pub row-passes : j < n → f (pair_of (part (a + j * w) w ws)) ≡ true → (v : Value) → v ≡ get_or (values_in carry n vals) j no_value → (best' : Total ℕ) → best' ≡ add firsts best (worth v.low) → Remains (j + 1) best'
    row-passes l g v e best' k = rw k (sym (least-with f best (entry_at w (a + j * w) v ws) (drop (j + 1) xs) g) ∙ from_row l v e)

    pub row-fails : j < n → f (pair_of (part (a + j * w) w ws)) ≡ false → (best' : Total ℕ) → best' ≡ best → Remains (j + 1) best'
    row-fails l g best' k =
        let v : Value = get_or (values_in carry n vals) j no_value in
        rw k (sym (least-past f best (entry_at w (a + j * w) v ws) (drop (j + 1) xs) g) ∙ from_row l v refl)

    pub none-remain : j ≤ n → (j < n → ⊥) → best ≡ least_of f xs
    unfolding sum_by
    none-remain l g =
        sym (add_none firsts best) ∙ sym (ap (λ (y : List Entry). add firsts best (least_of f y)) (none_left carry w p a n vals ws within t beside j l g)) ∙ h
