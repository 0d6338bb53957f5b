-- A map of sets of numbers that moves each number to a place of its own and keeps the order of sets: what it carries; and one that raises the numbers from K
-- on to L on. Assumes nothing.
use mathlib.Core.Path.{◌≡◌, refl, sym, ap, ap₂, ◌∙◌, subst}
use mathlib.Core.Logic.{◌⊎◌, inl, inr}
use mathlib.Core.Bool.{Bool, true, false, cond, not, ◌&&◌, ◌||◌, true≢false}
use mathlib.Core.List.{map}
use Prim.Native.Nat.{ℕ, ◌+◌, ◌-◌, ◌*◌, ◌/◌, ◌%◌, ◌^◌, ◌≤◌, ◌<◌}
use native.Mathlib.Nat.{eq-or-lt_of_le, mod-lt}
use native.Mathlib.Omega.{arith}
use lib.Arith.{digits_lt}
use lib.Bits.{bit_or}
use lib.Dec.{eqb, ltb}
use lib.Pow.{pow_pos, pow_mono, shr-shr, shr_mono, split, high, low, field, mod-mod-pow}
use borrow.Author.Tests.{eq-eqb, ne_eqb, eqb-true, le-ltb, ltb-true, ltb-false}
use Rattle.std.specs.declared.cmp.Ordering.{Ordering}
use Rattle.std.specs.declared.cmp.Ordering.TheVariants.{Less, Equal, Greater}
use Rattle.lists.specs.Sorted.{compare_numbers}
use Rattle.lists.proofs.Comparisons.{less-is, more-is, same-is, is-less, is-more, is_same}
use Rattle.labels.specs.Sets.{has, without, replace}
use Rattle.labels.proofs.Sets.{has-none, has-or, has-pow, has-without, has-ge, set-ext}

-- ---- digits below k, and from k on

has-low : (n k x : ℕ) → n < k → has n (x % 2 ^ k) ≡ has n x
unfolding has
has-low n k x l =
    subst (λ j. eqb (x % 2 ^ j / 2 ^ n % 2) 1 ≡ eqb (x / 2 ^ n % 2) 1) (let e : (k - n - 1) + 1 + n ≡ k = omega arith in e)
    (ap (λ y. eqb (y % 2) 1) (field x ((k - n - 1) + 1) n) ∙ ap (λ y. eqb y 1) (mod-mod-pow (x / 2 ^ n) (k - n - 1) 1))

has-high : (n k x : ℕ) → has n (x / 2 ^ k) ≡ has (k + n) x
unfolding has
has-high n k x = ap (λ y. eqb (y % 2) 1) (shr-shr x k n)

-- ---- a map of sets that moves each number n to p n, and keeps the order of the sets

pub record Moves (p h : ℕ → ℕ) : Type 0 where
  pub at : (n x : ℕ) → has (p n) (h x) ≡ has n x
  pub only : (m : ℕ) → ((n : ℕ) × (m ≡ p n)) ⊎ ((x : ℕ) → has m (h x) ≡ false)
  pub rises : (x y : ℕ) → x < y → h x < h y

module _ {p h : ℕ → ℕ} (M : Moves p h) where
  -- y is x moved if it has each number's place where x has the number, and no place of none
  moved : (x y : ℕ) → ((n : ℕ) → has n x ≡ has (p n) y) → ((m : ℕ) → ((z : ℕ) → has m (h z) ≡ false) → has m y ≡ false) → h x ≡ y
  moved x y f g = set-ext (h x) y (λ m. step m (M.only m))
    where
      step : (m : ℕ) → ((n : ℕ) × (m ≡ p n)) ⊎ ((z : ℕ) → has m (h z) ≡ false) → has m (h x) ≡ has m y
      step m (inl (n, e)) = ap (λ k. has k (h x)) e ∙ M.at n x ∙ f n ∙ ap (λ k. has k y) (sym e)
      step m (inr z) = z x ∙ sym (g m z)

  pub moved_none : h 0 ≡ 0
  moved_none = moved 0 0 (λ n. has-none n ∙ sym (has-none (p n))) (λ m z. has-none m)

  pub moved-or : (x y : ℕ) → h (bit_or x y) ≡ bit_or (h x) (h y)
  moved-or x y =
      moved (bit_or x y) (bit_or (h x) (h y)) (λ n. has-or n x y ∙ sym (has-or (p n) (h x) (h y) ∙ ap₂ ◌||◌ (M.at n x) (M.at n y)))
      (λ m z. has-or m (h x) (h y) ∙ ap₂ ◌||◌ (z x) (z y))

  own-place : (n m : ℕ) → m ≡ p n → has m (h (2 ^ n)) ≡ true
  own-place n m e = ap (λ k. has k (h (2 ^ n))) e ∙ M.at n (2 ^ n) ∙ has-pow n n ∙ eq-eqb n n refl

  -- two numbers have two places
  places : (k n : ℕ) → eqb (p k) (p n) ≡ eqb k n
  places k n = step (eqb k n) refl
    where
      step : (b : Bool) → eqb k n ≡ b → eqb (p k) (p n) ≡ b
      step true e = eq-eqb (p k) (p n) (ap p (eqb-true k n e))
      step false e = ne_eqb (p k) (p n) (λ q. true≢false (sym (own-place n (p k) q) ∙ M.at k (2 ^ n) ∙ has-pow k n ∙ e))

  pub moved-pow : (n : ℕ) → h (2 ^ n) ≡ 2 ^ p n
  moved-pow n =
      moved (2 ^ n) (2 ^ p n) (λ k. has-pow k n ∙ sym (has-pow (p k) (p n) ∙ places k n))
      (λ m z. has-pow m (p n) ∙ ne_eqb m (p n) (λ e. true≢false (sym (own-place n m e) ∙ z (2 ^ n))))

  pub moved-without : (n x : ℕ) → h (without n x) ≡ without (p n) (h x)
  moved-without n x =
      moved (without n x) (without (p n) (h x)) (λ k. has-without n k x ∙ sym (has-without (p n) (p k) (h x) ∙ ap₂ (λ a b. a && not b) (M.at k x) (places k n)))
      (λ m z. has-without (p n) m (h x) ∙ ap (λ a. a && not (eqb m (p n))) (z x))

  pub moved-replace : (n k x : ℕ) → h (replace n k x) ≡ replace (p n) (p k) (h x)
  unfolding replace
  moved-replace n k x = step (has n x) ∙ ap (λ b. cond b (bit_or (2 ^ p k) (without (p n) (h x))) (h x)) (sym (M.at n x))
    where
      step : (b : Bool) → h (cond b (bit_or (2 ^ k) (without n x)) x) ≡ cond b (bit_or (2 ^ p k) (without (p n) (h x))) (h x)
      step true = moved-or (2 ^ k) (without n x) ∙ ap₂ bit_or (moved-pow k) (moved-without n x)
      step false = refl

  pub moved_order : (x y : ℕ) → compare_numbers (h x) (h y) ≡ compare_numbers x y
  moved_order x y = step (compare_numbers x y) refl
    where
      step : (o : Ordering) → compare_numbers x y ≡ o → compare_numbers (h x) (h y) ≡ o
      step Less e = is-less (h x) (h y) (M.rises x y (less-is x y e))
      step Equal e = is_same (h x) (h y) (ap h (same-is x y e))
      step Greater e = is-more (h x) (h y) (M.rises y x (more-is x y e))

-- ---- digits from K on, moved by h and then to L on

abbrev pub raised : ℕ → ℕ → (ℕ → ℕ) → ℕ → ℕ
raised K L h x = h (x / 2 ^ K) * 2 ^ L + x % 2 ^ K

abbrev pub raised_place : ℕ → ℕ → (ℕ → ℕ) → ℕ → ℕ
raised_place K L p n = cond (ltb n K) n (L + p (n - K))

module _ (K L : ℕ) (wide : K ≤ L) where
  rest_lt : (x : ℕ) → x % 2 ^ K < 2 ^ L
  rest_lt x = omega (arith, mod-lt x (pow_pos K), pow_mono wide)

  module _ (h : ℕ → ℕ) (n x : ℕ) where
    has-lower : n < L → has n (raised K L h x) ≡ has n (x % 2 ^ K)
    has-lower l = sym (has-low n L (raised K L h x) l) ∙ ap (has n) (low (h (x / 2 ^ K)) L (rest_lt x))

    has-upper : has (L + n) (raised K L h x) ≡ has n (h (x / 2 ^ K))
    has-upper = sym (has-high n L (raised K L h x)) ∙ ap (has n) (high (h (x / 2 ^ K)) L (rest_lt x))

  pub raised-moves : {p h : ℕ → ℕ} → Moves p h → Moves (raised_place K L p) (raised K L h)
  raised-moves {p} {h} M = record {
    at = λ n x. at n x (ltb n K) refl;
    only = λ m. only m (ltb m K) refl (ltb m L) refl;
    rises = λ x y l. rises x y l (eq-or-lt_of_le (shr_mono K (let k : x ≤ y = omega arith in k)));
  }
    where
      at : (n x : ℕ) (b : Bool) → ltb n K ≡ b → has (cond b n (L + p (n - K))) (raised K L h x) ≡ has n x
      at n x true e = let l = ltb-true n K e in has-lower h n x (omega arith) ∙ has-low n K x l
      at n x false e =
          let l = ltb-false n K e in
          has-upper h (p (n - K)) x ∙ M.at (n - K) (x / 2 ^ K) ∙ has-high (n - K) K x ∙ ap (λ m. has m x) (let k : K + (n - K) ≡ n = omega arith in k)

      Only : ℕ → Type 0
      Only m = ((n : ℕ) × (m ≡ raised_place K L p n)) ⊎ ((x : ℕ) → has m (raised K L h x) ≡ false)

      above : (m : ℕ) → m ≡ L + (m - L) → ((n : ℕ) × (m - L ≡ p n)) ⊎ ((x : ℕ) → has (m - L) (h x) ≡ false) → Only m
      above m k (inl (n, e)) = inl (K + n, rw (le-ltb (K + n) K (omega arith)) (k ∙ ap (λ j. L + j) (e ∙ ap p (let i : n ≡ K + n - K = omega arith in i))))
      above m k (inr z) = inr (λ x. ap (λ j. has j (raised K L h x)) k ∙ has-upper h (m - L) x ∙ z (x / 2 ^ K))

      only : (m : ℕ) (b : Bool) → ltb m K ≡ b → (d : Bool) → ltb m L ≡ d → Only m
      only m true e d f = inl (m, rw e refl)
      only m false e true f = inr (λ x. has-lower h m x (ltb-true m L f) ∙ has-ge m K (x % 2 ^ K) (mod-lt x (pow_pos K)) (ltb-false m K e))
      only m false e false f = above m (omega (arith, ltb-false m L f)) (M.only (m - L))

      rises : (x y : ℕ) → x < y → (x / 2 ^ K ≡ y / 2 ^ K) ⊎ (x / 2 ^ K < y / 2 ^ K) → raised K L h x < raised K L h y
      rises x y l (inl e) = omega (arith, split x K, split y K, ap (λ z. z * 2 ^ K) e, ap (λ z. h z * 2 ^ L) e)
      rises x y l (inr k) = omega (arith, digits_lt (M.rises (x / 2 ^ K) (y / 2 ^ K) k) (rest_lt x))
