-- A set of numbers as one number: m is in the set a if a has the binary digit 2 ^ m. The union of two sets is `bit_or`. Assumes nothing.
use Rattle.std.specs.Prelude.{◌≡◌, Bool, true, cond, ℕ, ◌-◌, ◌/◌, ◌%◌, ◌^◌, eqb}
use Rattle.std.specs.Int.Bits.{bit_or}

unfoldable pub has : ℕ → ℕ → Bool
has m a = eqb (a / 2 ^ m % 2) 1

unfoldable pub without : ℕ → ℕ → ℕ
without m a = cond (has m a) (a - 2 ^ m) a

-- m, where it is in the set, gives way to n
unfoldable pub replace : ℕ → ℕ → ℕ → ℕ
replace m n a = cond (has m a) (bit_or (2 ^ n) (without m a)) a

-- the set a has no number that b has not
pub record Within (b a : ℕ) : Type 0 where
  pub at : (m : ℕ) → has m a ≡ true → has m b ≡ true
