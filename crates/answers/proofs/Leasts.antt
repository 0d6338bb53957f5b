-- The least value of the entries that pass a test, entry by entry. Assumes nothing.
use mathlib.Core.Path.{◌≡◌, refl, sym, ap, ◌∙◌}
use mathlib.Core.Bool.{Bool, true, false, cond}
use mathlib.Core.List.{List, ◌∷◌}
use Prim.Native.Nat.{ℕ}
use native.Mathlib.Nat.{add-zero}
use Rattle.tables.specs.Definitions.{Pair}
use Rattle.values.specs.Values.{Total, none, worth, add, multiply, sum_by}
use Rattle.values.specs.First.{least_by, firsts, first_weight, passing}
use Rattle.values.proofs.Semirings.{add_assoc}
use Rattle.values.proofs.First.{least-semiring}
use Rattle.entries.specs.Carries.{Entry}
use Rattle.answers.specs.Answers.{least_of}

module _ (f : Pair → Bool) where
  abbrev least : List Entry → Total ℕ
  least xs = least_of f xs

  pub least-cons : (x : Entry) (xs : List Entry) → least (x ∷ xs) ≡ add firsts (cond (f x.item) (worth x.value.low) none) (least xs)
  unfolding sum_by passing
  least-cons x xs = ap (λ t. add firsts t (least xs)) (step (f x.item))
    where
      step : (b : Bool) → multiply firsts (worth x.value.low) (cond b (worth 0) none) ≡ cond b (worth x.value.low) none
      step true = unfold multiply firsts least_by in (ap worth (add-zero x.value.low))
      step false = unfold multiply in refl

  -- the best so far, with an entry that passes and with one that does not
  pub least-with : (best : Total ℕ) (x : Entry) (xs : List Entry) → f x.item ≡ true → add firsts best (least (x ∷ xs)) ≡ add firsts (add firsts best (worth x.value.low)) (least xs)
  unfolding firsts
  least-with best x xs e =
      ap (add firsts best) (least-cons x xs ∙ ap (λ b. add firsts (cond b (worth x.value.low) none) (least xs)) e)
      ∙ sym (add_assoc (least-semiring first_weight) best (worth x.value.low) (least xs))

  pub least-past : (best : Total ℕ) (x : Entry) (xs : List Entry) → f x.item ≡ false → add firsts best (least (x ∷ xs)) ≡ add firsts best (least xs)
  unfolding add
  least-past best x xs e = ap (add firsts best) (least-cons x xs ∙ ap (λ b. add firsts (cond b (worth x.value.low) none) (least xs)) e)
