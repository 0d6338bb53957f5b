-- The subsets of two united interpretations, put in batch by batch, are those of the definition: a set goes by its members. Assumes nothing.
use mathlib.Core.Path.{◌≡◌, refl, sym, ◌∙◌}
use mathlib.Core.Logic.{⊎_elim}
use mathlib.Core.List.Memᴰ
use mathlib.Core.List.{List, [], ◌∷◌, ◌++◌, map, Memᴰ}
use Prim.Native.Nat.{ℕ, ◌≤◌, ◌<◌}
use native.Mathlib.Decide.{ℕ_discrete}
use native.Mathlib.Omega.{arith}
use lib.Bits.{bit_or, or_comm}
use lib.ListN.{length, take, drop, length-map}
use lib.Seq.{take_at}
use Rattle.lists.specs.Lists.{products}
use Rattle.lists.specs.Sorted.{compare_numbers, second, Rising, insert, insert_all, canon, set_of}
use Rattle.lists.proofs.Canon.{length-insert, length-insert_all, rising-canon, canon-ext}
use Rattle.lists.proofs.Comparisons.{numbers-lawful}
use Rattle.tables.specs.Definitions.{Pair, subsets, unite_pairs}
use Rattle.runs.specs.Runs.{Grown, Filled}
use Rattle.runs.proofs.Growing.{joined, Going, empty}

-- the batches in the order in which they are put in
abbrev pub batches : ℕ → List ℕ → ℕ → List ℕ → List ℕ
batches p a q b = map (bit_or p) b ++ (map (bit_or q) a ++ products bit_or a b)

module _ (p : ℕ) (a : List ℕ) (q : ℕ) (b : List ℕ) where
  turned : {z : ℕ} → Memᴰ z (map (bit_or q) a) → Memᴰ z (map (λ s. bit_or s q) a)
  turned m = let r = Memᴰ.of_map (bit_or q) a m in Memᴰ.cast (sym r.2 ∙ or_comm q r.0) (Memᴰ.map (λ s. bit_or s q) r.1)

  back : {z : ℕ} → Memᴰ z (map (λ s. bit_or s q) a) → Memᴰ z (map (bit_or q) a)
  back m = let r = Memᴰ.of_map (λ s. bit_or s q) a m in Memᴰ.cast (sym r.2 ∙ or_comm r.0 q) (Memᴰ.map (bit_or q) r.1)

  to : (z : ℕ) → Memᴰ z (batches p a q b) → Memᴰ z (products bit_or a b ++ map (bit_or p) b ++ map (λ s. bit_or s q) a)
  to z m =
      ⊎_elim
      (λ n. Memᴰ.append_left (map (λ s. bit_or s q) a) (Memᴰ.append_right (products bit_or a b) n))
      (λ n. ⊎_elim
      (λ k. Memᴰ.append_right (products bit_or a b ++ map (bit_or p) b) (turned k))
      (λ k. Memᴰ.append_left (map (λ s. bit_or s q) a) (Memᴰ.append_left (map (bit_or p) b) k))
      (Memᴰ.append_cases (map (bit_or q) a) n))
      (Memᴰ.append_cases (map (bit_or p) b) m)

  from : (z : ℕ) → Memᴰ z (products bit_or a b ++ map (bit_or p) b ++ map (λ s. bit_or s q) a) → Memᴰ z (batches p a q b)
  from z m =
      ⊎_elim
      (λ n. ⊎_elim
      (λ k. Memᴰ.append_right (map (bit_or p) b) (Memᴰ.append_right (map (bit_or q) a) k))
      (λ k. Memᴰ.append_left (map (bit_or q) a ++ products bit_or a b) k)
      (Memᴰ.append_cases (products bit_or a b) n))
      (λ n. Memᴰ.append_right (map (bit_or p) b) (Memᴰ.append_left (products bit_or a b) (back n)))
      (Memᴰ.append_cases (products bit_or a b ++ map (bit_or p) b) m)

  pub batched : joined (batches p a q b) [] ≡ subsets (unite_pairs (p ∷ a) (q ∷ b))
  unfolding unite_pairs set_of canon
  batched = canon-ext numbers-lawful (batches p a q b) (products bit_or a b ++ map (bit_or p) b ++ map (λ s. bit_or s q) a) to from

pub united-rising : (x y : Pair) → Rising compare_numbers (subsets (unite_pairs x y))
unfolding unite_pairs set_of
united-rising x y = rising-canon numbers-lawful _

-- the run is empty, and with all batches to come it becomes the definition's set
pub begins : (p : ℕ) (a : List ℕ) (q : ℕ) (b run : List ℕ) → Going (subsets (unite_pairs (p ∷ a) (q ∷ b))) (batches p a q b) 0 run run
begins p a q b run = rw (← batched p a q b) (empty (batches p a q b) run)

-- where nothing stands in the run, nothing was put in
none : (xs acc : List ℕ) → length (joined xs acc) ≡ 0 → length xs ≡ 0
unfolding insert_all insert
none [] acc h = refl
none (x ∷ xs) acc h = absurd (omega (arith, length-insert_all compare_numbers second xs (insert compare_numbers second x acc), some acc))
  where
    some : (acc : List ℕ) → 0 < length (insert compare_numbers second x acc)
    some [] = omega arith
    some (y ∷ ys) = omega (arith, length-insert compare_numbers second x (y ∷ ys))

-- so where b has subsets, the run is not empty
pub some_left : (p : ℕ) (b : List ℕ) (r : ℕ) (run run' : List ℕ) → Grown (joined (map (bit_or p) b) []) r run run' → r ≤ length run → 0 < length b → 0 < r
some_left p b r run run' w l h = go (ℕ_discrete r 0)
  where
    go : Dec (r ≡ 0) → 0 < r
    go (yes e) = absurd (omega (arith, length-map b (bit_or p), none (map (bit_or p) b) [] (sym (w.fits l).0 ∙ e)))
    go (no n) = omega arith

-- all is put in
pub finishes : (goal rest : List ℕ) (m r : ℕ) (run run' run₀ : List ℕ) → Going goal rest m run run₀ → Filled (joined rest (take m run)) r run' → Filled goal r run'
finishes goal rest m r run run' run₀ g f = rw g.left at f

-- the same where what stands behind is as it was
pub behind-is : (goal : List ℕ) (r : ℕ) (run run' : List ℕ) → length run' ≡ length run → Grown goal r run run' → Filled goal r run'
behind-is goal r run run' e g = record {
  fits = λ l. let f = g.fits (omega (arith, e)) in (f.0, rw f.1 (take_at goal (drop r run) r (sym f.0)));
  full = λ l. omega (arith, e, g.full (omega (arith, e)));
}
