-- Tests over the elements of a list, and two lists combined. Assumes nothing.
use Rattle.std.specs.Prelude.{Bool, List, [], ◌∷◌, ◌++◌, map, ℕ, zero, suc}
use Rattle.std.specs.List.{list_any, list_all, filter, AllByRecursion}

module _ {A : Type 0} where
  -- some element passes the test; every one does
  unfoldable pub some : (A → Bool) → List A → Bool
  some f xs = list_any f xs

  unfoldable pub every : (A → Bool) → List A → Bool
  every f xs = list_all f xs

  -- those that pass the test
  unfoldable pub keep : (A → Bool) → List A → List A
  keep f xs = filter f xs

  -- every element has the property
  abbrev pub All : (A → Type 0) → List A → Type 0
  All P xs = AllByRecursion P xs

-- f at each element of the first list with each of the second
unfoldable pub products : {A B C : Type 0} → (A → B → C) → List A → List B → List C
products f [] ys = []
products f (x ∷ xs) ys = map (f x) ys ++ products f xs ys

-- n numbers in a row, from lo
unfoldable pub run : ℕ → ℕ → List ℕ
run lo zero = []
run lo (suc n) = lo ∷ run (suc lo) n
