-- There is a least value among the entries that accept exactly if the table accepts. Assumes nothing.
use mathlib.Core.Path.{◌≡◌, refl, sym, ap, ◌∙◌}
use mathlib.Core.Bool.{Bool, true, false, cond, ◌||◌, true≢false}
use mathlib.Core.List.{List, [], ◌∷◌, map}
use Prim.Native.Nat.{ℕ}
use Rattle.lists.specs.Lists.{some}
use Rattle.tables.specs.Definitions.{Pair, accepting, grounded_accepts}
use Rattle.values.specs.Values.{Total, none, worth, add, sum_by}
use Rattle.values.specs.First.{firsts}
use Rattle.entries.specs.Carries.{Entry}
use Rattle.answers.specs.Answers.{least_of}
use Rattle.answers.proofs.Leasts.{least-cons}

is_worth : Total ℕ → Bool
is_worth none = false
is_worth (worth v) = true

worth-some : (f : Pair → Bool) (xs : List Entry) → is_worth (least_of f xs) ≡ some f (map (λ x. x.item) xs)
unfolding some is_worth add
worth-some f [] = unfold sum_by in refl
worth-some f (x ∷ xs) = ap is_worth (least-cons f x xs) ∙ step (f x.item) (least_of f xs) ∙ ap (λ b. f x.item || b) (worth-some f xs)
  where
    step : (b : Bool) (t : Total ℕ) → is_worth (add firsts (cond b (worth x.value.low) none) t) ≡ (b || is_worth t)
    step true none = refl
    step true (worth v) = refl
    step false t = refl

module _ (K : ℕ) (xs : List Entry) where
  abbrev least : Total ℕ
  least = least_of (accepting K) xs

  abbrev accepts : Bool
  accepts = grounded_accepts K (map (λ x. x.item) xs)

  worth-accepts : is_worth least ≡ accepts
  unfolding grounded_accepts
  worth-accepts = worth-some (accepting K) xs

  -- from what is found to the table
  pub none-denies : least ≡ none → accepts ≡ false
  unfolding is_worth
  none-denies e = sym worth-accepts ∙ ap is_worth e

  pub worth-affirms : (v : ℕ) → least ≡ worth v → accepts ≡ true
  unfolding is_worth
  worth-affirms v e = sym worth-accepts ∙ ap is_worth e

  -- and back
  pub denied-none : accepts ≡ false → least ≡ none
  unfolding is_worth
  denied-none e = step least (worth-accepts ∙ e)
    where
      step : (t : Total ℕ) → is_worth t ≡ false → t ≡ none
      step none h = refl
      step (worth v) h = absurd (true≢false h)

  pub affirmed-worth : accepts ≡ true → (v : ℕ) × (least ≡ worth v)
  unfolding is_worth
  affirmed-worth e = step least (worth-accepts ∙ e)
    where
      step : (t : Total ℕ) → is_worth t ≡ true → (v : ℕ) × (t ≡ worth v)
      step none h = absurd (true≢false (sym h))
      step (worth v) h = (v, refl)
