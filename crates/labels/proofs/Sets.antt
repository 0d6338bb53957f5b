-- What is in a union, in a set less one, in a set where one number gives way to another; how large a set's number is. Assumes nothing.
use mathlib.Core.Path.{◌≡◌, refl, sym, ap, ap₂, ◌∙◌}
use mathlib.Core.Logic.{◌⊎◌, inl, inr}
use mathlib.Core.Bool.{Bool, true, false, cond, not, ◌&&◌, ◌||◌, true≢false, or-false, and-false, and-true, or-true}
use mathlib.Core.List.{List, [], ◌∷◌, ◌++◌, map}
use Prim.Native.Nat.{ℕ, zero, suc, ◌+◌, ◌-◌, ◌*◌, ◌/◌, ◌%◌, ◌^◌, ◌≤◌, ◌<◌, zero-le, suc-le-suc}
use native.Mathlib.Nat.{pow-suc, mul-div_cancel, mul-mod_left, mod-lt, zero-lt-suc, div-one, not-suc-le-zero, le_of_suc-le-suc, zero-div, one-mul, zero-add, le_refl}
use native.Mathlib.Numerals.{one-add}
use native.Mathlib.Omega.{arith}
use lib.Arith.{bin_ind}
use lib.Bits.{bit_and, bit_or, and_shr, and_mod, or_shr, or_mod, or_shifted}
use lib.Pow.{shr-shr, pow_mono}
use lib.Dec.{eqb, eqb-zero-suc, eqb-suc-zero, eqb-suc-suc}
use borrow.Author.Tests.{eqb-true, eq-eqb, ne_eqb}
use Rattle.lists.specs.Lists.{some}
use Rattle.lists.proofs.Members.{some-append, not-true-false}
use Rattle.labels.specs.Labels.{rename}
use Rattle.labels.specs.Sets.{has, without, replace}

-- ---- digits

pub has-suc : (m a : ℕ) → has (suc m) a ≡ has m (a / 2)
unfolding has
has-suc m a = ap (λ x. eqb (x % 2) 1) (ap (λ k. a / 2 ^ k) (sym (one-add m)) ∙ sym (shr-shr a 1 m))

has-zero : (a : ℕ) → has 0 a ≡ eqb (a % 2) 1
unfolding has
has-zero a = ap (λ x. eqb (x % 2) 1) (div-one a)

pub has-none : (m : ℕ) → has m 0 ≡ false
unfolding has
has-none m = ap (λ x. eqb (x % 2) 1) (zero-div (2 ^ m))

or-digit : (u v : ℕ) → u < 2 → v < 2 → eqb (bit_or u v) 1 ≡ (eqb u 1 || eqb v 1)
or-digit zero v h k = refl
or-digit (suc zero) zero h k = refl
or-digit (suc zero) (suc zero) h k = refl
or-digit (suc zero) (suc (suc v)) h k = absurd (not-suc-le-zero (le_of_suc-le-suc (le_of_suc-le-suc k)))
or-digit (suc (suc u)) v h k = absurd (not-suc-le-zero (le_of_suc-le-suc (le_of_suc-le-suc h)))

pub has-or : (m a b : ℕ) → has m (bit_or a b) ≡ (has m a || has m b)
unfolding has
has-or m a b =
    ap (λ x. eqb (x % 2) 1) (or_shr a b m)
    ∙ ap (λ x. eqb x 1) (or_mod (a / 2 ^ m) (b / 2 ^ m) 1)
    ∙ or-digit (a / 2 ^ m % 2) (b / 2 ^ m % 2) (mod-lt (a / 2 ^ m) (zero-lt-suc 1)) (mod-lt (b / 2 ^ m) (zero-lt-suc 1))

and-digit : (u v : ℕ) → u < 2 → v < 2 → eqb (bit_and u v) 1 ≡ (eqb u 1 && eqb v 1)
and-digit zero v h k = refl
and-digit (suc zero) zero h k = refl
and-digit (suc zero) (suc zero) h k = refl
and-digit (suc zero) (suc (suc v)) h k = absurd (not-suc-le-zero (le_of_suc-le-suc (le_of_suc-le-suc k)))
and-digit (suc (suc u)) v h k = absurd (not-suc-le-zero (le_of_suc-le-suc (le_of_suc-le-suc h)))

pub has-and : (m a b : ℕ) → has m (bit_and a b) ≡ (has m a && has m b)
unfolding has
has-and m a b =
    ap (λ x. eqb (x % 2) 1) (and_shr a b m)
    ∙ ap (λ x. eqb x 1) (and_mod (a / 2 ^ m) (b / 2 ^ m) 1)
    ∙ and-digit (a / 2 ^ m % 2) (b / 2 ^ m % 2) (mod-lt (a / 2 ^ m) (zero-lt-suc 1)) (mod-lt (b / 2 ^ m) (zero-lt-suc 1))

pub has-pow : (m n : ℕ) → has m (2 ^ n) ≡ eqb m n
has-pow zero zero = has-zero 1
has-pow zero (suc n) = has-zero (2 ^ suc n) ∙ ap (λ x. eqb (x % 2) 1) (pow-suc 2 n) ∙ ap (λ x. eqb x 1) (mul-mod_left (2 ^ n) 2) ∙ sym (eqb-zero-suc n)
has-pow (suc m) zero = has-suc m 1 ∙ has-none m ∙ sym (eqb-suc-zero m)
has-pow (suc m) (suc n) =
    has-suc m (2 ^ suc n) ∙ ap (λ x. has m (x / 2)) (pow-suc 2 n) ∙ ap (has m) (mul-div_cancel (2 ^ n) (zero-lt-suc 1)) ∙ has-pow m n ∙ sym (eqb-suc-suc m n)

odd : (a : ℕ) → has 0 a ≡ true → a % 2 ≡ 1
odd a h = eqb-true (a % 2) 1 (sym (has-zero a) ∙ h)

pub has-le : (n a : ℕ) → has n a ≡ true → 2 ^ n ≤ a
has-le zero a h = let k = odd a h in omega arith
has-le (suc n) a h = let k = has-le n (a / 2) (sym (has-suc n a) ∙ h) in omega (arith, pow-suc 2 n)

-- less one that is in the set
has_sub : (n m a : ℕ) → has n a ≡ true → has m (a - 2 ^ n) ≡ (has m a && not (eqb m n))
has_sub zero zero a h = let k = odd a h in
    has-zero (a - 1) ∙ ap (λ x. eqb x 1) (let e : (a - 1) % 2 ≡ 0 = omega arith in e) ∙ sym (and-false (has 0 a))
has_sub zero (suc m) a h = let k = odd a h in
    has-suc m (a - 1) ∙ ap (has m) (let e : (a - 1) / 2 ≡ a / 2 = omega arith in e) ∙ sym (has-suc m a)
    ∙ sym (ap (λ b. has (suc m) a && not b) (eqb-suc-zero m) ∙ and-true (has (suc m) a))
has_sub (suc n) zero a h = let k = has-le (suc n) a h in
    has-zero (a - 2 ^ suc n)
    ∙ ap (λ x. eqb x 1) (let e : (a - 2 ^ suc n) % 2 ≡ a % 2 = omega (arith, pow-suc 2 n) in e)
    ∙ sym (has-zero a) ∙ sym (ap (λ b. has 0 a && not b) (eqb-zero-suc n) ∙ and-true (has 0 a))
has_sub (suc n) (suc m) a h = let k = has-le (suc n) a h in
    has-suc m (a - 2 ^ suc n)
    ∙ ap (has m) (let e : (a - 2 ^ suc n) / 2 ≡ a / 2 - 2 ^ n = omega (arith, pow-suc 2 n) in e)
    ∙ has_sub n m (a / 2) (sym (has-suc n a) ∙ h)
    ∙ ap₂ (λ x y. x && not y) (sym (has-suc m a)) (sym (eqb-suc-suc m n))

pub has-without : (n m a : ℕ) → has m (without n a) ≡ (has m a && not (eqb m n))
unfolding without
has-without n m a = step (has n a) refl
  where
    here : (b : Bool) → eqb m n ≡ b → has n a ≡ false → has m a ≡ (has m a && not b)
    here true e h = ap (λ k. has k a) (eqb-true m n e) ∙ h ∙ sym (and-false (has m a))
    here false e h = sym (and-true (has m a))

    step : (b : Bool) → has n a ≡ b → has m (cond b (a - 2 ^ n) a) ≡ (has m a && not (eqb m n))
    step true e = has_sub n m a e
    step false e = here (eqb m n) refl e

-- taken out, it is not in the set
pub has-gone : (n a : ℕ) → has n (without n a) ≡ false
has-gone n a = has-without n n a ∙ ap (λ b. has n a && not b) (eq-eqb n n refl) ∙ and-false (has n a)

pub has-replace : (n k m a : ℕ) → has m (replace n k a) ≡ (eqb m k && has n a || has m a && not (eqb m n))
unfolding replace
has-replace n k m a = step (has n a) refl
  where
    here : (b : Bool) → eqb m n ≡ b → has n a ≡ false → has m a ≡ (eqb m k && false || has m a && not b)
    here true e h = ap (λ x. has x a) (eqb-true m n e) ∙ h ∙ sym (ap₂ ◌||◌ (and-false (eqb m k)) (and-false (has m a)))
    here false e h = sym (ap₂ ◌||◌ (and-false (eqb m k)) (and-true (has m a)))

    step : (b : Bool) → has n a ≡ b → has m (cond b (bit_or (2 ^ k) (without n a)) a) ≡ (eqb m k && b || has m a && not (eqb m n))
    step true e = has-or m (2 ^ k) (without n a) ∙ ap₂ ◌||◌ (has-pow m k ∙ sym (and-true (eqb m k))) (has-without n m a)
    step false e = here (eqb m n) refl e

-- ---- the set of the numbers of a list

pub record SetOf (a : ℕ) (xs : List ℕ) : Type 0 where
  pub at : (x : ℕ) → has x a ≡ some (eqb x) xs

pub eqb-sym : (m n : ℕ) → eqb m n ≡ eqb n m
eqb-sym zero zero = refl
eqb-sym zero (suc n) = eqb-zero-suc n ∙ sym (eqb-suc-zero n)
eqb-sym (suc m) zero = eqb-suc-zero m ∙ sym (eqb-zero-suc m)
eqb-sym (suc m) (suc n) = eqb-suc-suc m n ∙ eqb-sym m n ∙ sym (eqb-suc-suc n m)

-- the list less n
unfoldable pub lacking : ℕ → List ℕ → List ℕ
lacking n [] = []
lacking n (x ∷ xs) = cond (eqb x n) (lacking n xs) (x ∷ lacking n xs)

some-lacking : (n m : ℕ) (xs : List ℕ) → some (eqb m) (lacking n xs) ≡ (some (eqb m) xs && not (eqb m n))
unfolding some lacking
some-lacking n m [] = refl
some-lacking n m (x ∷ xs) = step (eqb x n) refl (some-lacking n m xs)
  where
    rest : Bool
    rest = some (eqb m) xs

    gone : (b : Bool) → (rest && not b) ≡ ((b || rest) && not b)
    gone true = and-false rest
    gone false = refl

    stays : (b d : Bool) → eqb m x ≡ b → eqb m n ≡ d → eqb x n ≡ false → (b || (rest && not d)) ≡ ((b || rest) && not d)
    stays true true e f g = absurd (true≢false (sym f ∙ ap (λ k. eqb k n) (eqb-true m x e) ∙ g))
    stays true false e f g = refl
    stays false d e f g = refl

    step : (b : Bool) → eqb x n ≡ b → some (eqb m) (lacking n xs) ≡ (rest && not (eqb m n))
        → some (eqb m) (cond b (lacking n xs) (x ∷ lacking n xs)) ≡ ((eqb m x || rest) && not (eqb m n))
    step true e ih = ih ∙ gone (eqb m n) ∙ ap (λ b. (b || rest) && not (eqb m n)) (sym (ap (eqb m) (eqb-true x n e)))
    step false e ih = ap (λ b. eqb m x || b) ih ∙ stays (eqb m x) (eqb m n) refl refl e

some-rename : (n k m : ℕ) (xs : List ℕ) → some (eqb m) (map (rename n k) xs) ≡ (eqb m k && some (eqb n) xs || some (eqb m) xs && not (eqb m n))
unfolding some rename
some-rename n k m [] = sym (ap (λ b. b || false) (and-false (eqb m k)))
some-rename n k m (x ∷ xs) = ap (λ b. eqb m (cond (eqb x n) k x) || b) (some-rename n k m xs) ∙ step (eqb x n) refl
  where
    N : Bool
    N = some (eqb n) xs

    M : Bool
    M = some (eqb m) xs

    gone : (e b : Bool) → (e || (e && N || M && not b)) ≡ (e && true || (b || M) && not b)
    gone true b = refl
    gone false true = and-false M
    gone false false = refl

    stays : (e b d : Bool) → eqb m x ≡ d → eqb m n ≡ b → eqb x n ≡ false → (d || (e && N || M && not b)) ≡ (e && N || (d || M) && not b)
    stays e true true p q r = absurd (true≢false (sym q ∙ ap (λ y. eqb y n) (eqb-true m x p) ∙ r))
    stays e false true p q r = sym (or-true (e && N))
    stays e b false p q r = refl

    step : (b : Bool) → eqb x n ≡ b
        → (eqb m (cond b k x) || (eqb m k && N || M && not (eqb m n))) ≡ (eqb m k && (eqb n x || N) || (eqb m x || M) && not (eqb m n))
    step true e =
        gone (eqb m k) (eqb m n)
        ∙ ap₂ (λ a b. eqb m k && (a || N) || (b || M) && not (eqb m n)) (sym (eqb-sym n x ∙ e)) (ap (eqb m) (sym (eqb-true x n e)))
    step false e =
        stays (eqb m k) (eqb m n) (eqb m x) refl refl e
        ∙ ap (λ a. eqb m k && (a || N) || (eqb m x || M) && not (eqb m n)) (sym (eqb-sym n x ∙ e))

pub set-pow : (n : ℕ) → SetOf (2 ^ n) (n ∷ [])
unfolding some
set-pow n = record { at = λ x. has-pow x n ∙ sym (or-false (eqb x n)) }

pub set-or : {a b : ℕ} {xs ys : List ℕ} → SetOf a xs → SetOf b ys → SetOf (bit_or a b) (xs ++ ys)
set-or {a} {b} {xs} {ys} h k = record { at = λ x. has-or x a b ∙ ap₂ ◌||◌ (h.at x) (k.at x) ∙ sym (some-append (eqb x) xs ys) }

pub set-without : (n : ℕ) {a : ℕ} {xs : List ℕ} → SetOf a xs → SetOf (without n a) (lacking n xs)
set-without n {a} {xs} h = record { at = λ x. has-without n x a ∙ ap (λ b. b && not (eqb x n)) (h.at x) ∙ sym (some-lacking n x xs) }

pub set-replace : (n k : ℕ) {a : ℕ} {xs : List ℕ} → SetOf a xs → SetOf (replace n k a) (map (rename n k) xs)
set-replace n k {a} {xs} h = record { at = λ x. has-replace n k x a ∙ ap₂ (λ b c. eqb x k && b || c && not (eqb x n)) (h.at n) (h.at x) ∙ sym (some-rename n k x xs) }

-- ---- the size of a set's number

even : (a : ℕ) → has 0 a ≡ false → a % 2 ≡ 0
even a h = step (eq-or (a % 2) (mod-lt a (zero-lt-suc 1)))
  where
    eq-or : (r : ℕ) → r < 2 → (r ≡ 0) ⊎ (r ≡ 1)
    eq-or zero l = inl refl
    eq-or (suc zero) l = inr refl
    eq-or (suc (suc r)) l = absurd (not-suc-le-zero (le_of_suc-le-suc (le_of_suc-le-suc l)))

    step : (a % 2 ≡ 0) ⊎ (a % 2 ≡ 1) → a % 2 ≡ 0
    step (inl e) = e
    step (inr e) = absurd (true≢false (sym (has-zero a ∙ ap (λ r. eqb r 1) e) ∙ h))

pub has-none-zero : (a : ℕ) → ((m : ℕ) → has m a ≡ false) → a ≡ 0
has-none-zero =
    bin_ind (λ (n : ℕ). ((m : ℕ) → has m n ≡ false) → n ≡ 0) (λ h. refl)
    (λ n ih h. let k = ih (λ m. sym (has-suc m n) ∙ h (suc m)) in let e = even n (h 0) in omega arith)

-- a set is below 2 ^ n if nothing from n on is in it
pub has-lt : (n a : ℕ) → ((m : ℕ) → n ≤ m → has m a ≡ false) → a < 2 ^ n
has-lt zero a h = let k = has-none-zero a (λ m. h m zero-le) in omega arith
has-lt (suc n) a h = let k = has-lt n (a / 2) (λ m l. sym (has-suc m a) ∙ h (suc m) (suc-le-suc l)) in omega (arith, pow-suc 2 n)

-- sets with the same members are one number
pub set-ext : (a b : ℕ) → ((m : ℕ) → has m a ≡ has m b) → a ≡ b
set-ext =
    bin_ind (λ (n : ℕ). (b : ℕ) → ((m : ℕ) → has m n ≡ has m b) → n ≡ b)
    (λ b h. sym (has-none-zero b (λ m. sym (h m) ∙ has-none m)))
    (λ n ih b h. let k = ih (b / 2) (λ m. sym (has-suc m n) ∙ h (suc m) ∙ has-suc m b) in low n b k (h 0))
  where
    low : (n b : ℕ) → n / 2 ≡ b / 2 → has 0 n ≡ has 0 b → n ≡ b
    low n b k h = step (has 0 n) refl
      where
        step : (d : Bool) → has 0 n ≡ d → n ≡ b
        step true e = let p = odd n e in let q = odd b (sym h ∙ e) in omega arith
        step false e = let p = even n e in let q = even b (sym h ∙ e) in omega arith

-- ---- one digit on top of smaller ones

pub has-ge : (m n a : ℕ) → a < 2 ^ n → n ≤ m → has m a ≡ false
has-ge m n a h l = not-true-false (has m a) (λ e. let k = has-le m a e in omega (arith, pow_mono l))

module _ (n a : ℕ) (h : a < 2 ^ n) where
  digit : (m : ℕ) → has m (2 ^ n + a) ≡ (eqb m n || has m a)
  digit m =
      ap (λ x. has m (x + a)) (sym (one-mul (2 ^ n))) ∙ ap (has m) (sym (or_shifted 1 n a h)) ∙ has-or m (1 * 2 ^ n) a
      ∙ ap (λ b. b || has m a) (ap (has m) (one-mul (2 ^ n)) ∙ has-pow m n)

  pub has-top : (b : Bool) → has n (cond b (2 ^ n) 0 + a) ≡ b
  has-top true = digit n ∙ ap (λ b. b || has n a) (eq-eqb n n refl)
  has-top false = ap (has n) (zero-add a) ∙ has-ge n n a h (le_refl n)

  pub has-below : (b : Bool) (m : ℕ) → m < n → has m (cond b (2 ^ n) 0 + a) ≡ has m a
  has-below true m l = digit m ∙ ap (λ b. b || has m a) (ne_eqb m n (λ e. omega arith))
  has-below false m l = ap (has m) (zero-add a)
