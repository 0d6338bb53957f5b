-- Parts of a list of words. Assumes nothing.
use Rattle.std.specs.Prelude.{List, ◌++◌, ℕ, ◌+◌, ◌≤◌, take, drop, replicate}

-- the k words from word a on
abbrev pub part : ℕ → ℕ → List ℕ → List ℕ
part a k xs = take k (drop a xs)

-- the words with ys in the place of those
abbrev pub put : ℕ → ℕ → List ℕ → List ℕ → List ℕ
put a k xs ys = take a xs ++ (ys ++ drop k (drop a xs))

abbrev pub zeros : ℕ → List ℕ
zeros n = replicate n 0

-- k words at a, k words at b behind them, both within n
pub record Apart (a b k n : ℕ) : Type 0 where
  pub before : a + k ≤ b
  pub within : b + k ≤ n
