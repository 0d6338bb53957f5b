-- A loop that writes a list place by place: below i stands what is wanted (A), from i on what was there (B). Assumes nothing.
use mathlib.Core.Path.{◌≡◌, refl, sym, ap}
use mathlib.Core.List.{List, [], ◌∷◌, ◌++◌}
use Prim.Native.Nat.{ℕ, zero, suc, ◌+◌, ◌≤◌, ◌<◌}
use native.Mathlib.Nat.{le_of_suc-le-suc, not-suc-le-zero}
use native.Mathlib.Numerals.{add-one}
use native.Mathlib.Omega.{arith}
use lib.ListN.{length, take, drop, get_or, set, length-append, length-take, length-drop}
use lib.Seq.{drop-nil}

abbrev pub mix : ℕ → List ℕ → List ℕ → List ℕ
mix i a b = take i a ++ drop i b

set-mix : (i v : ℕ) (a b : List ℕ) → i < length a → i < length b → get_or a i 0 ≡ v → set (mix i a b) i v ≡ mix (suc i) a b
set-mix i v [] b l k e = absurd (not-suc-le-zero l)
set-mix i v (x ∷ a) [] l k e = absurd (not-suc-le-zero k)
set-mix zero v (x ∷ a) (y ∷ b) l k e = ap (λ (z : ℕ). z ∷ b) (sym e)
set-mix (suc i) v (x ∷ a) (y ∷ b) l k e = ap (λ (t : List ℕ). x ∷ t) (set-mix i v a b (le_of_suc-le-suc l) (le_of_suc-le-suc k) e)

-- a store of A's element at i: one place more
pub mix-more : (i v : ℕ) (a b : List ℕ) → i < length a → i < length b → get_or a i 0 ≡ v → set (mix i a b) i v ≡ mix (i + 1) a b
mix-more i v a b l k e = rw (add-one i) (set-mix i v a b l k e)

-- a read at or past i finds B's
pub mix-get-high : (i j : ℕ) (a b : List ℕ) → i ≤ j → i ≤ length a → i ≤ length b → get_or (mix i a b) j 0 ≡ get_or b j 0
mix-get-high zero j a b l k m = refl
mix-get-high (suc i) j [] b l k m = absurd (not-suc-le-zero k)
mix-get-high (suc i) j (x ∷ a) [] l k m = absurd (not-suc-le-zero m)
mix-get-high (suc i) zero (x ∷ a) (y ∷ b) l k m = absurd (not-suc-le-zero l)
mix-get-high (suc i) (suc j) (x ∷ a) (y ∷ b) l k m = mix-get-high i j a b (le_of_suc-le-suc l) (le_of_suc-le-suc k) (le_of_suc-le-suc m)

-- a read below i finds A's
pub mix-get-low : (i j : ℕ) (a b : List ℕ) → j < i → i ≤ length a → get_or (mix i a b) j 0 ≡ get_or a j 0
mix-get-low zero j a b l k = absurd (not-suc-le-zero l)
mix-get-low (suc i) j [] b l k = absurd (not-suc-le-zero k)
mix-get-low (suc i) zero (x ∷ a) b l k = refl
mix-get-low (suc i) (suc j) (x ∷ a) [] l k = rw (← drop-nil {A = ℕ} i) (mix-get-low i j a [] (le_of_suc-le-suc l) (le_of_suc-le-suc k))
mix-get-low (suc i) (suc j) (x ∷ a) (y ∷ b) l k = mix-get-low i j a b (le_of_suc-le-suc l) (le_of_suc-le-suc k)

pub mix-length : (i : ℕ) (a b : List ℕ) → length a ≡ length b → length (mix i a b) ≡ length b
mix-length i a b e = simp (length-append, length-take, length-drop) (omega arith)

-- all of it written
pub mix_all : (i : ℕ) (a b : List ℕ) → length a ≡ length b → length b ≤ i → mix i a b ≡ a
mix_all zero [] [] e l = refl
mix_all zero (x ∷ a) [] e l = absurd (omega arith)
mix_all zero a (y ∷ b) e l = absurd (not-suc-le-zero l)
mix_all (suc i) [] [] e l = refl
mix_all (suc i) (x ∷ a) [] e l = absurd (omega arith)
mix_all (suc i) [] (y ∷ b) e l = absurd (omega arith)
mix_all (suc i) (x ∷ a) (y ∷ b) e l = ap (λ (t : List ℕ). x ∷ t) (mix_all i a b (omega arith) (le_of_suc-le-suc l))

-- going down: a store of B's element at i - 1
pub mix-down : (i v : ℕ) (a b : List ℕ) → i < length a → i < length b → get_or b i 0 ≡ v → set (mix (suc i) a b) i v ≡ mix i a b
mix-down i v [] b l k e = absurd (not-suc-le-zero l)
mix-down i v (x ∷ a) [] l k e = absurd (not-suc-le-zero k)
mix-down zero v (x ∷ a) (y ∷ b) l k e = ap (λ (z : ℕ). z ∷ b) (sym e)
mix-down (suc i) v (x ∷ a) (y ∷ b) l k e = ap (λ (t : List ℕ). x ∷ t) (mix-down i v a b (le_of_suc-le-suc l) (le_of_suc-le-suc k) e)
