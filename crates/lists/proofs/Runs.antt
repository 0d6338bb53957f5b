-- Runs of numbers. Assumes nothing.
use mathlib.Core.Path.{◌≡◌, refl, sym, ap, ap₂, ◌∙◌}
use mathlib.Core.Logic.{◌⊎◌, inl, inr}
use mathlib.Core.List.Memᴰ
use mathlib.Core.List.{List, ◌∷◌, ◌++◌, Memᴰ}
use Prim.Native.Nat.{ℕ, zero, suc, ◌+◌, ◌≤◌, ◌<◌}
use native.Mathlib.Nat.{add-zero, zero-add, add-suc, suc-add}
use native.Mathlib.Decide.{ℕ_discrete}
use native.Mathlib.Omega.{arith}
use lib.ListN.{length}
use Rattle.lists.specs.Lists.{run}

pub run-append : (lo n m : ℕ) → run lo n ++ run (lo + n) m ≡ run lo (n + m)
unfolding run
run-append lo zero m = ap₂ run (add-zero lo) (sym (zero-add m))
run-append lo (suc n) m =
    ap {B = List ℕ} (λ l. lo ∷ l) (ap (λ k. run (suc lo) n ++ run k m) (add-suc lo n ∙ sym (suc-add lo n)) ∙ run-append (suc lo) n m)
    ∙ ap (run lo) (sym (suc-add n m))

pub length_run : (lo n : ℕ) → length (run lo n) ≡ n
unfolding run
length_run lo zero = refl
length_run lo (suc n) = ap suc (length_run (suc lo) n)

pub run_in : (lo n : ℕ) {c : ℕ} → lo ≤ c → c < lo + n → Memᴰ c (run lo n)
unfolding run
run_in lo zero h k = absurd (omega arith)
run_in lo (suc n) {c} h k = step (ℕ_discrete c lo) (λ l. run_in (suc lo) n l (omega arith))
  where
    step : Dec (c ≡ lo) → (suc lo ≤ c → Memᴰ c (run (suc lo) n)) → Memᴰ c (lo ∷ run (suc lo) n)
    step (yes e) f = Memᴰ.head e
    step (no e) f = Memᴰ.tail (f (omega arith))

pub run-bounds : (lo n : ℕ) {c : ℕ} → Memᴰ c (run lo n) → (lo ≤ c) × (c < lo + n)
unfolding run
run-bounds lo zero m = absurd (Memᴰ.not-nil m)
run-bounds lo (suc n) {c} m = step (λ k. run-bounds (suc lo) n k) (Memᴰ.cases_cons m)
  where
    step : (Memᴰ c (run (suc lo) n) → (suc lo ≤ c) × (c < suc lo + n)) → (c ≡ lo) ⊎ Memᴰ c (run (suc lo) n) → (lo ≤ c) × (c < lo + suc n)
    step f (inl e) = (omega arith, omega arith)
    step f (inr k) = let h = f k in (omega arith, omega arith)
