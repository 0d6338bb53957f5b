-- A set less a mask, the part of a set within a mask, and that part shifted; in words of w digits. Assumes nothing.
use mathlib.Core.Path.{◌≡◌, refl, sym, ap, ap₂, ◌∙◌}
use mathlib.Core.Bool.{Bool, true, false, cond, not, ◌&&◌, ◌||◌, and-true, and-false, and-or_distrib_left}
use Prim.Native.Nat.{ℕ, zero, suc, ◌+◌, ◌*◌, ◌/◌, ◌%◌, ◌^◌, ◌≤◌, ◌<◌}
use native.Mathlib.Nat.{mod-lt, zero-lt-suc, one-mul, zero-mul, zero-div, add-zero, not-suc-le-zero, le_of_suc-le-suc, lt_of_le_of_lt}
use native.Mathlib.Omega.{arith}
use lib.Bits.{bit_and, bit_or, bit_xor, or_shr, or_block, xor_shr, xor_mod, and_zero_r, xor_zero_r, and_le_r}
use lib.Dec.{eqb}
use lib.Pow.{shl_exact, shl-shr, shl_lt, shr_lt, pow-add, pow_pos}
use borrow.Author.Tests.{eqb-true, eqb-false}
use Rattle.labels.specs.Sets.{has, without}
use Rattle.labels.proofs.Sets.{has-none, has-or, has-and, has-pow, has-without, set-ext}

-- ---- less a mask

xor-digit : (u v : ℕ) → u < 2 → v < 2 → eqb (bit_xor u v) 1 ≡ cond (eqb u 1) (not (eqb v 1)) (eqb v 1)
xor-digit zero v h k = refl
xor-digit (suc zero) zero h k = refl
xor-digit (suc zero) (suc zero) h k = refl
xor-digit (suc zero) (suc (suc v)) h k = absurd (not-suc-le-zero (le_of_suc-le-suc (le_of_suc-le-suc k)))
xor-digit (suc (suc u)) v h k = absurd (not-suc-le-zero (le_of_suc-le-suc (le_of_suc-le-suc h)))

has-xor : (m a b : ℕ) → has m (bit_xor a b) ≡ cond (has m a) (not (has m b)) (has m b)
unfolding has
has-xor m a b =
    ap (λ x. eqb (x % 2) 1) (xor_shr a b m)
    ∙ ap (λ x. eqb x 1) (xor_mod (a / 2 ^ m) (b / 2 ^ m) 1)
    ∙ xor-digit (a / 2 ^ m % 2) (b / 2 ^ m % 2) (mod-lt (a / 2 ^ m) (zero-lt-suc 1)) (mod-lt (b / 2 ^ m) (zero-lt-suc 1))

-- a less what is in b
abbrev pub less : ℕ → ℕ → ℕ
less a b = bit_xor a (bit_and a b)

pub has-less : (m a b : ℕ) → has m (less a b) ≡ (has m a && not (has m b))
has-less m a b = has-xor m a (bit_and a b) ∙ ap (λ x. cond (has m a) (not x) x) (has-and m a b) ∙ step (has m a) (has m b)
  where
    step : (x y : Bool) → cond x (not (x && y)) (x && y) ≡ (x && not y)
    step true y = refl
    step false y = refl

less-pow : (n a : ℕ) → less a (2 ^ n) ≡ without n a
less-pow n a = set-ext _ _ (λ m. has-less m a (2 ^ n) ∙ ap (λ x. has m a && not x) (has-pow m n) ∙ sym (has-without n m a))

-- a digit says whether its number is in the set
pub digit-is : (m a : ℕ) → a / 2 ^ m % 2 ≡ cond (has m a) 1 0
unfolding has
digit-is m a = step (eqb (a / 2 ^ m % 2) 1) refl
  where
    step : (b : Bool) → eqb (a / 2 ^ m % 2) 1 ≡ b → a / 2 ^ m % 2 ≡ cond b 1 0
    step true e = eqb-true (a / 2 ^ m % 2) 1 e
    step false e = omega (arith, eqb-false (a / 2 ^ m % 2) 1 e, mod-lt (a / 2 ^ m) (zero-lt-suc 1))

-- a digit shifted to n takes n out where it is 1
pub less-digit : (n a d w : ℕ) (b : Bool) → n < w → d ≡ cond b 1 0 → less a (d * 2 ^ n % 2 ^ w) ≡ cond b (without n a) a
less-digit n a d w b h e = ap (λ x. less a (x * 2 ^ n % 2 ^ w)) e ∙ step b
  where
    step : (b : Bool) → less a (cond b 1 0 * 2 ^ n % 2 ^ w) ≡ cond b (without n a) a
    step true = ap (less a) (shl_exact 1 n w (omega arith) (omega arith) ∙ one-mul (2 ^ n)) ∙ less-pow n a
    step false = ap (less a) (shl_exact 1 n w (omega arith) (omega arith) ∙ zero-mul (2 ^ n)) ∙ ap (bit_xor a) (and_zero_r a) ∙ xor_zero_r a

-- ---- the part within a mask

and_pow : (n a : ℕ) → bit_and a (2 ^ n) ≡ cond (has n a) (2 ^ n) 0
and_pow n a = set-ext _ _ (λ m. has-and m a (2 ^ n) ∙ ap (λ x. has m a && x) (has-pow m n) ∙ here m (eqb m n) refl (has n a) refl)
  where
    here : (m : ℕ) (b : Bool) → eqb m n ≡ b → (d : Bool) → has n a ≡ d → (has m a && b) ≡ has m (cond d (2 ^ n) 0)
    here m true e true h = and-true (has m a) ∙ ap (λ x. has x a) (eqb-true m n e) ∙ h ∙ sym (has-pow m n ∙ e)
    here m true e false h = and-true (has m a) ∙ ap (λ x. has x a) (eqb-true m n e) ∙ h ∙ sym (has-none m)
    here m false e true h = and-false (has m a) ∙ sym (has-pow m n ∙ e)
    here m false e false h = and-false (has m a) ∙ sym (has-none m)

and-or : (a b c : ℕ) → bit_and a (bit_or b c) ≡ bit_or (bit_and a b) (bit_and a c)
and-or a b c =
    set-ext _ _
    (λ m. has-and m a (bit_or b c) ∙ ap (λ x. has m a && x) (has-or m b c) ∙ and-or_distrib_left (has m a) (has m b) (has m c)
    ∙ sym (has-or m (bit_and a b) (bit_and a c) ∙ ap₂ ◌||◌ (has-and m a b) (has-and m a c)))

-- ---- shifted

or-shl : (k a b : ℕ) → bit_or a b * 2 ^ k ≡ bit_or (a * 2 ^ k) (b * 2 ^ k)
or-shl k a b =
    sym (add-zero (bit_or a b * 2 ^ k)) ∙ sym (or_block k a b 0 0 (pow_pos k) (pow_pos k))
    ∙ ap₂ bit_or (add-zero (a * 2 ^ k)) (add-zero (b * 2 ^ k))

pub has-shl-or : (m k a b : ℕ) → has m (bit_or a b * 2 ^ k) ≡ (has m (a * 2 ^ k) || has m (b * 2 ^ k))
has-shl-or m k a b = ap (has m) (or-shl k a b) ∙ has-or m (a * 2 ^ k) (b * 2 ^ k)

pub has-shl-pow : (m k n : ℕ) → has m (2 ^ n * 2 ^ k) ≡ eqb m (n + k)
has-shl-pow m k n = ap (has m) (sym (pow-add 2 n k)) ∙ has-pow m (n + k)

-- what a has within the mask x at i, as it stands at j
abbrev pub shifted : ℕ → ℕ → ℕ → ℕ → ℕ
shifted x i j a = bit_and a (x * 2 ^ i) / 2 ^ i * 2 ^ j

module _ (m i j a : ℕ) where
  pub has-shifted-or : (x y : ℕ) → has m (shifted (bit_or x y) i j a) ≡ (has m (shifted x i j a) || has m (shifted y i j a))
  has-shifted-or x y =
      ap (λ z. has m (z / 2 ^ i * 2 ^ j)) (ap (bit_and a) (or-shl i x y) ∙ and-or a (x * 2 ^ i) (y * 2 ^ i))
      ∙ ap (λ z. has m (z * 2 ^ j)) (or_shr (bit_and a (x * 2 ^ i)) (bit_and a (y * 2 ^ i)) i)
      ∙ has-shl-or m j (bit_and a (x * 2 ^ i) / 2 ^ i) (bit_and a (y * 2 ^ i) / 2 ^ i)

  pub has-shifted-pow : (n : ℕ) → has m (shifted (2 ^ n) i j a) ≡ (eqb m (n + j) && has (n + i) a)
  has-shifted-pow n = ap (λ x. has m (x / 2 ^ i * 2 ^ j)) (ap (bit_and a) (sym (pow-add 2 n i)) ∙ and_pow (n + i) a) ∙ step (has (n + i) a)
    where
      step : (b : Bool) → has m (cond b (2 ^ (n + i)) 0 / 2 ^ i * 2 ^ j) ≡ (eqb m (n + j) && b)
      step true =
          ap (λ x. has m (x * 2 ^ j)) (ap (λ y. y / 2 ^ i) (pow-add 2 n i) ∙ shl-shr (2 ^ n) i)
          ∙ has-shl-pow m j n ∙ sym (and-true (eqb m (n + j)))
      step false = ap (has m) (ap (λ x. x * 2 ^ j) (zero-div (2 ^ i)) ∙ zero-mul (2 ^ j)) ∙ has-none m ∙ sym (and-false (eqb m (n + j)))

-- what a has within the mask x at i gives way to the same at j
abbrev pub moved : ℕ → ℕ → ℕ → ℕ → ℕ
moved x i j a = bit_or (shifted x i j a) (less a (x * 2 ^ i))

-- in a word no digit of a mask of n digits is lost
pub moved_word : (x n i j a w : ℕ) → x < 2 ^ n → n + i ≤ w → n + j ≤ w
    → bit_or (bit_and a (x * 2 ^ i % 2 ^ w) / 2 ^ i * 2 ^ j % 2 ^ w) (less a (x * 2 ^ i % 2 ^ w)) ≡ moved x i j a
moved_word x n i j a w h k l =
    ap (λ y. bit_or (bit_and a y / 2 ^ i * 2 ^ j % 2 ^ w) (less a y)) (shl_exact n i w h k)
    ∙ ap (λ y. bit_or y (less a (x * 2 ^ i))) (shl_exact n j w (shr_lt n i (lt_of_le_of_lt (and_le_r a (x * 2 ^ i)) (shl_lt n i h))) l)
