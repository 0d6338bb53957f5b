-- A filter of numbers that need not be put in again, and numbers gathered in any order. Assumes nothing.
use Rattle.std.specs.Prelude.{◌≡◌, ℕ, ◌≤◌, ◌<◌, length, take, get_or}
use mathlib.Core.List.{List, Memᴰ}
use Rattle.lists.specs.Sorted.{set_of}
use Rattle.runs.specs.Runs.{Grown}

-- each of the filter's 1024 numbers stands in xs
pub record Known (seen xs : List ℕ) : Type 0 where
  pub each : (j : ℕ) → j < 1024 → Memᴰ (get_or seen j 0) xs

-- the same with a filter, which is good for xs where xs fits
pub record GrownKnown (xs : List ℕ) (r : ℕ) (run run' seen' : List ℕ) : Type 0 where
  pub grown : Grown xs r run run'
  pub known : r ≤ length run → Known seen' xs

-- where r fits the slice, its first r numbers, in any order, are the set xs, and the filter is good for it; else xs does not fit
pub record Gathered (xs : List ℕ) (r : ℕ) (run' seen' : List ℕ) : Type 0 where
  pub set : r ≤ length run' → set_of (take r run') ≡ xs
  pub known : r ≤ length run' → Known seen' xs
  pub full : length run' < r → length run' < length xs
