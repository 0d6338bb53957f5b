-- The answer's words, written one by one. Assumes nothing.
use mathlib.Core.Path.{◌≡◌, refl, ap, ◌∙◌}
use mathlib.Core.List.{List, [], ◌∷◌}
use Prim.Native.Nat.{ℕ, ◌≤◌}
use native.Mathlib.Omega.{arith}
use lib.ListN.{length, set, drop}

pub three-set : (xs : List ℕ) (a b c : ℕ) → 3 ≤ length xs → set (set (set xs 0 a) 1 b) 2 c ≡ a ∷ b ∷ c ∷ drop 3 xs
three-set [] a b c h = absurd (omega arith)
three-set (x ∷ []) a b c h = absurd (omega arith)
three-set (x ∷ y ∷ []) a b c h = absurd (omega arith)
three-set (x ∷ y ∷ z ∷ xs) a b c h = refl

pub three-same : {xs ys : List ℕ} {a b c a' b' c' : ℕ} → a ≡ a' → b ≡ b' → c ≡ c' → ys ≡ a ∷ b ∷ c ∷ xs → ys ≡ a' ∷ b' ∷ c' ∷ xs
three-same {xs} {ys} {a} {b} {c} {a'} {b'} ea eb ec e = e ∙ ap (λ x. x ∷ b ∷ c ∷ xs) ea ∙ ap (λ x. a' ∷ x ∷ c ∷ xs) eb ∙ ap (λ x. a' ∷ b' ∷ x ∷ xs) ec
