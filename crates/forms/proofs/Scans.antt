-- The tests as loops make them, from a place on. Assumes nothing.
use mathlib.Core.Path.{◌≡◌, refl, sym, ap, ap₂, ◌∙◌}
use mathlib.Core.Bool.{Bool, true, false, cond, ◌&&◌}
use mathlib.Core.List.{List, [], ◌∷◌}
use Prim.Native.Nat.{ℕ, ◌+◌, ◌-◌, ◌*◌, ◌^◌, ◌≤◌, ◌<◌}
use native.Mathlib.Numerals.{add-one}
use native.Mathlib.Omega.{arith}
use lib.Dec.{eqb, ltb, leb}
use lib.ListN.{length, take, drop, get_or, length-drop, drop_of_length-le}
use lib.Seq.{drop-cons, take_all}
use borrow.Author.Tests.{lt-ltb, le-ltb, le-leb, lt-leb, leb-true, leb-false}
use Rattle.std.specs.declared.cmp.Ordering.TheVariants.{Less, Equal, Greater}
use Rattle.lists.specs.Lists.{every}
use Rattle.lists.specs.Sorted.{by_order, compare_numbers}
use Rattle.candidates.specs.Candidates.{pair_of, Readable}
use Rattle.forms.specs.Forms.{are_zero, rises_from, is_rising, is_row}

-- ---- Booleans

pub and-false : (a b : Bool) → a ≡ false → false ≡ (a && b)
and-false a b e = sym (ap (λ x. x && b) e)

pub and-true : (a b r : Bool) → a ≡ true → r ≡ b → r ≡ (a && b)
and-true a b r e f = f ∙ sym (ap (λ x. x && b) e)

pub and_right : (a : Bool) → a ≡ (a && true)
and_right true = refl
and_right false = refl

pub and_assoc : (a b c : Bool) → ((a && b) && c) ≡ (a && (b && c))
and_assoc true b c = refl
and_assoc false b c = refl

pub and-swap : (a b c d : Bool) → ((a && b) && (c && d)) ≡ ((a && c) && (b && d))
and-swap true true c d = refl
and-swap true false true d = refl
and-swap true false false d = refl
and-swap false b c d = refl

-- ---- triples under m, the first at least low, each over the one before

unfoldable pub climbs : ℕ → ℕ → List ℕ → Bool
climbs m low [] = true
climbs m low (x ∷ xs) = (ltb x m && leb low x) && climbs m (x + 1) xs

less_by : (x y : ℕ) → leb (x + 1) y ≡ by_order (compare_numbers x y) true false false
unfolding compare_numbers
less_by x y = step (leb (x + 1) y) (eqb x y) refl
  where
    step : (b d : Bool) → leb (x + 1) y ≡ b → b ≡ by_order (cond (ltb x y) Less (cond d Equal Greater)) true false false
    step true d e = rw (lt-ltb x y (omega (arith, leb-true (x + 1) y e)))
    step false true e = rw (le-ltb x y (omega (arith, leb-false (x + 1) y e)))
    step false false e = rw (le-ltb x y (omega (arith, leb-false (x + 1) y e)))

climbs-from : (m x : ℕ) (xs : List ℕ) → climbs m (x + 1) xs ≡ (every (λ v. ltb v m) xs && rises_from compare_numbers x xs)
unfolding climbs every rises_from
climbs-from m x [] = refl
climbs-from m x (y ∷ ys) =
    ap₂ (λ (b : Bool) (c : Bool). (ltb y m && b) && c) (less_by x y) (climbs-from m y ys)
    ∙ and-swap (ltb y m) (by_order (compare_numbers x y) true false false) (every (λ v. ltb v m) ys) (rises_from compare_numbers y ys)

pub climbs-is : (m : ℕ) (xs : List ℕ) → climbs m 0 xs ≡ (every (λ v. ltb v m) xs && is_rising compare_numbers xs)
unfolding climbs every is_rising
climbs-is m [] = refl
climbs-is m (x ∷ xs) =
    ap₂ (λ (b : Bool) (c : Bool). (ltb x m && b) && c) (le-leb 0 x (omega arith)) (climbs-from m x xs)
    ∙ and-swap (ltb x m) true (every (λ v. ltb v m) xs) (rises_from compare_numbers x xs)

pub climbs-ended : (m : ℕ) (xs : List ℕ) (i low : ℕ) → length xs ≤ i → climbs m low (drop i xs) ≡ climbs m 0 xs → true ≡ climbs m 0 xs
unfolding climbs
climbs-ended m xs i low l h = rw (drop_of_length-le xs l) at h

module _ (m : ℕ) (xs : List ℕ) (i low : ℕ) (l : i < length xs) (h : climbs m low (drop i xs) ≡ climbs m 0 xs) where
  abbrev x : ℕ
  x = get_or xs i 0

  climbs-at : climbs m low (drop i xs) ≡ ((ltb x m && leb low x) && climbs m (x + 1) (drop (i + 1) xs))
  unfolding climbs
  climbs-at = rw (add-one i, drop-cons xs i 0 l)

  pub climbs-over : m ≤ x → false ≡ climbs m 0 xs
  climbs-over g = sym (ap (λ b. (b && leb low x) && climbs m (x + 1) (drop (i + 1) xs)) (le-ltb x m g)) ∙ sym climbs-at ∙ h

  pub climbs-low : x < m → x < low → false ≡ climbs m 0 xs
  climbs-low g k = sym (ap₂ (λ a b. (a && b) && climbs m (x + 1) (drop (i + 1) xs)) (lt-ltb x m g) (lt-leb low x k)) ∙ sym climbs-at ∙ h

  pub climbs-passed : x < m → low ≤ x → climbs m (x + 1) (drop (i + 1) xs) ≡ climbs m 0 xs
  climbs-passed g k = sym (ap₂ (λ a b. (a && b) && climbs m (x + 1) (drop (i + 1) xs)) (lt-ltb x m g) (le-leb low x k)) ∙ sym climbs-at ∙ h

-- ---- a row

-- the words from o on
pub rest-is : (o : ℕ) (xs : List ℕ) → take (length xs - o) (drop o xs) ≡ drop o xs
rest-is o xs = take_all (length xs - o) (drop o xs) (simp length-drop (omega arith))

module _ (K : ℕ) (row : List ℕ) where
  abbrev fine : List ℕ → Bool
  fine ts = every (λ v. ltb v (2 ^ (3 * K))) ts && is_rising compare_numbers ts

  pub row-wide : length row < 2 + get_or row 1 0 → false ≡ is_row K row
  unfolding is_row
  row-wide l = rw (lt-leb (2 + get_or row 1 0) (length row) l)

  module _ (r : Readable row) where
    pub row-over : 2 ^ (3 * K) ≤ get_or row 0 0 → false ≡ is_row K row
    unfolding is_row pair_of every
    row-over l = rw (le-leb (2 + get_or row 1 0) (length row) r, le-ltb (get_or row 0 0) (2 ^ (3 * K)) l)

    module _ (l : get_or row 0 0 < 2 ^ (3 * K)) where
      row-tests : (fine (take (get_or row 1 0) (drop 2 row)) && are_zero (drop (2 + get_or row 1 0) row)) ≡ is_row K row
      unfolding is_row pair_of every
      row-tests = rw (le-leb (2 + get_or row 1 0) (length row) r, lt-ltb (get_or row 0 0) (2 ^ (3 * K)) l)
          (and_assoc (every (λ v. ltb v (2 ^ (3 * K))) (take (get_or row 1 0) (drop 2 row))) (is_rising compare_numbers (take (get_or row 1 0) (drop 2 row))) (are_zero (drop (2 + get_or row 1 0) row)))

      pub row-bad : false ≡ fine (take (get_or row 1 0) (drop 2 row)) → false ≡ is_row K row
      row-bad e = ap (λ b. b && are_zero (drop (2 + get_or row 1 0) row)) e ∙ row-tests

      pub row-good : (b : Bool) → true ≡ fine (take (get_or row 1 0) (drop 2 row)) → b ≡ are_zero (drop (2 + get_or row 1 0) row) → b ≡ is_row K row
      row-good b e z = ap₂ (λ x y. x && y) e z ∙ row-tests
