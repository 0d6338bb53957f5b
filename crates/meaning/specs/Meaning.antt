-- What 01 and 02, Item 9 say of plans, rules and pins, over sets of copies as masks: bit c is copy c (01, "Trade and terms" and "The sheet").
-- Assumes nothing.
use Rattle.std.specs.Prelude.{Bool, not, ◌&&◌, ◌||◌, ℕ, eqb}
use Rattle.std.specs.Int.Bits.{bit_and}

-- some copy of a is in s; some copy of a is missing from s
unfoldable pub has_some : ℕ → ℕ → Bool
has_some a s = not (eqb (bit_and a s) 0)

unfoldable pub lacks_some : ℕ → ℕ → Bool
lacks_some a s = not (eqb (bit_and a s) a)

-- a plan meets a rule if some needed copy is missing, or some barring copy is present, or some head copy is present; of a smaller plan the needed and the
-- head copies are looked for in it, the barring ones in the plan, by which rules are reduced
unfoldable pub is_met : ℕ → ℕ → ℕ → ℕ → ℕ → Bool
is_met head positive negative plan smaller = has_some negative plan || (lacks_some positive smaller || has_some head smaller)

-- a smaller plan: it has no copy that the plan lacks, lacks some copy that the plan has, and agrees with it on every granted copy (02, Item 9)
unfoldable pub is_smaller : ℕ → ℕ → ℕ → Bool
is_smaller granted plan smaller = not (lacks_some smaller plan) && (lacks_some plan smaller && eqb (bit_and granted smaller) (bit_and granted plan))

-- a plan of these copies obeys the pins if it has every in-copy among them and no out-copy
unfoldable pub obeys_pins : ℕ → ℕ → ℕ → ℕ → Bool
obeys_pins plan copies pins_in pins_out = not (lacks_some plan copies) && (not (lacks_some (bit_and pins_in copies) plan) && not (has_some pins_out plan))
