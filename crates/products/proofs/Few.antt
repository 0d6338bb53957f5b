-- Products with few numbers. Assumes nothing.
use mathlib.Core.Path.{◌≡◌, refl, ap, ◌∙◌}
use mathlib.Core.List.{List, [], ◌∷◌, ◌++◌, map, append-nil}
use Prim.Native.Nat.{ℕ}
use native.Mathlib.Omega.{arith}
use lib.Bits.{bit_or, or_comm}
use lib.ListN.{length, get_or, take}
use Rattle.lists.specs.Lists.{products}
use Rattle.runs.specs.Runs.{Grown}
use Rattle.runs.proofs.Growing.{joined, Going, last}

-- with none
pub alone : (q : ℕ) (a b : List ℕ) → length b ≡ 0 → map (bit_or q) a ++ products bit_or a b ≡ map (bit_or q) a
unfolding products
alone q a [] e = ap (λ (t : List ℕ). map (bit_or q) a ++ t) (none a) ∙ append-nil (map (bit_or q) a)
  where
    none : (a : List ℕ) → products bit_or a [] ≡ []
    none [] = refl
    none (x ∷ a) = none a
alone q a (y ∷ b) e = absurd (omega arith)

-- with one
pub single : (a b : List ℕ) → length b ≡ 1 → products bit_or a b ≡ map (bit_or (get_or b 0 0)) a
unfolding products
single a [] e = absurd (omega arith)
single [] (y ∷ []) e = refl
single (x ∷ a) (y ∷ []) e = ap (λ (z : ℕ). z ∷ products bit_or a (y ∷ [])) (or_comm x y) ∙ ap (λ (t : List ℕ). bit_or y x ∷ t) (single a (y ∷ []) e)
single a (y ∷ z ∷ b) e = absurd (omega arith)

-- what is left is this batch
pub ends : (goal rest xs : List ℕ) (m r : ℕ) (run run' run₀ : List ℕ) → rest ≡ xs → Going goal rest m run run₀ → Grown (joined xs (take m run)) r run run' → Grown goal r run₀ run'
ends goal rest xs m r run run' run₀ e g w = last goal xs m r run run' run₀ (rw e at g) w
