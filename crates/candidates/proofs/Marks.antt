-- The marks of one label become those of another, in the three sets of a triple at once; for any number K of labels. Assumes nothing.
use mathlib.Core.Path.{◌≡◌, refl, sym, ap, ap₂, ◌∙◌}
use mathlib.Core.Bool.{Bool, true, false, not, ◌&&◌, ◌||◌, and-true, and-false, or-false, or_assoc}
use Prim.Native.Nat.{ℕ, ◌+◌, ◌*◌, ◌/◌, ◌%◌, ◌^◌, ◌≤◌, ◌<◌}
use native.Mathlib.Nat.{zero-add}
use native.Mathlib.Omega.{arith}
use lib.Bits.{bit_and, bit_or, or_lt}
use lib.Dec.{eqb}
use lib.Pow.{pow-lt}
use borrow.Author.Tests.{eqb-true, ne_eqb}
use Rattle.labels.specs.Sets.{has, replace}
use Rattle.labels.proofs.Sets.{has-or, has-replace, set-ext}
use Rattle.labels.proofs.Masks.{less, has-less, has-shl-or, has-shl-pow, shifted, has-shifted-or, has-shifted-pow, moved, moved_word}
use Rattle.tables.specs.Triples.{relabel_triple}

-- the marks of label 0
abbrev pub marks : ℕ → ℕ
marks K = bit_or 1 (bit_or (2 ^ K) (2 ^ (2 * K)))

-- a mark below those that give way and that come
under : (n k g a : ℕ) → g < n → g < k → has g (replace n k a) ≡ has g a
under n k g a h l =
    has-replace n k g a ∙ ap₂ (λ x y. y && has n a || has g a && not x) (ne_eqb g n (λ e. omega arith)) (ne_eqb g k (λ e. omega arith)) ∙ and-true (has g a)

-- what comes into one set is not what gives way in another
same : (P x y z q s B C h : Bool) → (q ≡ true → x ≡ true → ⊥) → (s ≡ true → x ≡ true → ⊥) → (s ≡ true → y ≡ true → ⊥)
    → ((P || (q && B || s && C)) || h && not (x || (y || z))) ≡ (P || (q && B || (s && C || h && not z) && not y) && not x)
same true x y z q s B C h qx sx sy = refl
same false true y z true s B C h qx sx sy = absurd (qx refl refl)
same false true y z false true B C h qx sx sy = absurd (sx refl refl)
same false true y z false false B C h qx sx sy = simp and-false
same false false true z q true B C h qx sx sy = absurd (sy refl refl)
same false false true z q false B C h qx sx sy = simp (and-false, and-true, or-false)
same false false false z q s B C h qx sx sy = simp (and-true, or_assoc)

module _ (K i j r : ℕ) (hi : i < K) (hj : j < K) where
  module _ (m : ℕ) where
    taken : has m (marks K * 2 ^ i) ≡ (eqb m i || (eqb m (K + i) || eqb m (2 * K + i)))
    taken =
        has-shl-or m i 1 (bit_or (2 ^ K) (2 ^ (2 * K)))
        ∙ ap₂ ◌||◌ (has-shl-pow m i 0 ∙ ap (eqb m) (zero-add i))
        (has-shl-or m i (2 ^ K) (2 ^ (2 * K)) ∙ ap₂ ◌||◌ (has-shl-pow m i K) (has-shl-pow m i (2 * K)))

    put : has m (shifted (marks K) i j r) ≡ (eqb m j && has i r || (eqb m (K + j) && has (K + i) r || eqb m (2 * K + j) && has (2 * K + i) r))
    put =
        has-shifted-or m i j r 1 (bit_or (2 ^ K) (2 ^ (2 * K)))
        ∙ ap₂ ◌||◌ (has-shifted-pow m i j r 0 ∙ ap₂ (λ x y. eqb m x && has y r) (zero-add j) (zero-add i))
        (has-shifted-or m i j r (2 ^ K) (2 ^ (2 * K)) ∙ ap₂ ◌||◌ (has-shifted-pow m i j r K) (has-shifted-pow m i j r (2 * K)))

    replaced : has m (relabel_triple K i j r)
        ≡ (eqb m j && has i r
        || (eqb m (K + j) && has (K + i) r || (eqb m (2 * K + j) && has (2 * K + i) r || has m r && not (eqb m (2 * K + i))) && not (eqb m (K + i))) && not (eqb m i))
    unfolding relabel_triple
    replaced =
        let u = replace (2 * K + i) (2 * K + j) r in
        has-replace i j m (replace (K + i) (K + j) u)
        ∙ ap₂ (λ x y. eqb m j && x || y && not (eqb m i))
        (under (K + i) (K + j) i u (omega arith) (omega arith) ∙ under (2 * K + i) (2 * K + j) i r (omega arith) (omega arith))
        (has-replace (K + i) (K + j) m u
        ∙ ap₂ (λ x y. eqb m (K + j) && x || y && not (eqb m (K + i)))
        (under (2 * K + i) (2 * K + j) (K + i) r (omega arith) (omega arith))
        (has-replace (2 * K + i) (2 * K + j) m r))

    at : has m (moved (marks K) i j r) ≡ has m (relabel_triple K i j r)
    at =
        has-or m (shifted (marks K) i j r) (less r (marks K * 2 ^ i))
        ∙ ap₂ ◌||◌ put (has-less m r (marks K * 2 ^ i) ∙ ap (λ x. has m r && not x) taken)
        ∙ same (eqb m j && has i r) (eqb m i) (eqb m (K + i)) (eqb m (2 * K + i)) (eqb m (K + j)) (eqb m (2 * K + j)) (has (K + i) r) (has (2 * K + i) r) (has m r)
        (λ e f. omega (arith, eqb-true m (K + j) e, eqb-true m i f)) (λ e f. omega (arith, eqb-true m (2 * K + j) e, eqb-true m i f))
        (λ e f. omega (arith, eqb-true m (2 * K + j) e, eqb-true m (K + i) f))
        ∙ sym replaced

  -- in a word that has room for a triple
  pub relabelled-word : (w : ℕ) → 3 * K ≤ w
      → bit_or (bit_and r (marks K * 2 ^ i % 2 ^ w) / 2 ^ i * 2 ^ j % 2 ^ w) (less r (marks K * 2 ^ i % 2 ^ w)) ≡ relabel_triple K i j r
  relabelled-word w h = moved_word (marks K) (2 * K + 1) i j r w bound (omega arith) (omega arith) ∙ set-ext _ _ at
    where
      below : (n : ℕ) → n ≤ 2 * K → 2 ^ n < 2 ^ (2 * K + 1)
      below n l = pow-lt (omega arith)

      bound : marks K < 2 ^ (2 * K + 1)
      bound = or_lt (2 * K + 1) 1 (bit_or (2 ^ K) (2 ^ (2 * K))) (below 0 (omega arith)) (or_lt (2 * K + 1) (2 ^ K) (2 ^ (2 * K)) (below K (omega arith)) (below (2 * K) (omega arith)))
