-- A loop that looks for an element of a list: what is left tells of the whole. Assumes nothing.
use mathlib.Core.Path.{◌≡◌, sym, ap, ◌∙◌}
use mathlib.Core.Bool.{Bool, true, false, ◌||◌}
use mathlib.Core.List.{List}
use Prim.Native.Nat.{ℕ, ◌+◌, ◌<◌}
use native.Mathlib.Numerals.{add-one}
use lib.ListN.{length, get_or, drop}
use lib.Seq.{drop-cons}
use Rattle.lists.specs.Lists.{some}

module _ (f : ℕ → Bool) (xs : List ℕ) (i : ℕ) (h : i < length xs) where
  some_at : some f (drop i xs) ≡ (f (get_or xs i 0) || some f (drop (i + 1) xs))
  unfolding some
  some_at = rw (add-one i, drop-cons xs i 0 h)

  pub found : some f (drop i xs) ≡ some f xs → f (get_or xs i 0) ≡ true → true ≡ some f xs
  found e t = sym (ap (λ b. b || some f (drop (i + 1) xs)) t) ∙ sym some_at ∙ e

  pub passed : some f (drop i xs) ≡ some f xs → f (get_or xs i 0) ≡ false → some f (drop (i + 1) xs) ≡ some f xs
  passed e t = sym (ap (λ b. b || some f (drop (i + 1) xs)) t) ∙ sym some_at ∙ e
