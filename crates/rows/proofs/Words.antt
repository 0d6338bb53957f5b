-- Lists of words compared from the front on. Assumes nothing.
use Rattle.std.proofs.Common.{◌≡◌, ℕ, ◌+◌, ◌⊎◌, inl, inr, true, false, List, [], ◌∷◌, length, refl, sym, arith}
use mathlib.Core.Bool.{true≢false, false≢true}
use Rattle.std.specs.declared.cmp.Ordering.{Ordering}
use Rattle.std.specs.declared.cmp.Ordering.TheVariants.{Less, Equal, Greater}
use Rattle.std.specs.Ordering.{nat_cmp, ordering_then, is_ne}
use Rattle.std.specs.Cmp.{nat_cmp_is}
use Rattle.lists.specs.Sorted.{compare_numbers, compare_lists}

decided : (o p : Ordering) → is_ne o ≡ true → ordering_then o p ≡ o
decided Less p h = refl
decided Equal p h = absurd (false≢true h)
decided Greater p h = refl

passed : (o p : Ordering) → is_ne o ≡ false → ordering_then o p ≡ p
passed Less p h = absurd (true≢false h)
passed Equal p h = refl
passed Greater p h = absurd (true≢false h)

-- the first words differ, and decide
pub compare-here : (x y : ℕ) (xs ys : List ℕ) (o : Ordering) → o ≡ nat_cmp x y → is_ne o ≡ true → compare_lists (x ∷ xs) (y ∷ ys) ≡ o
unfolding compare_lists compare_numbers
compare-here x y xs ys o e h = rw (sym e) (decided o (compare_lists xs ys) h)

-- they do not, and the others do
pub compare-on : (x y : ℕ) (xs ys : List ℕ) (o : Ordering) → o ≡ nat_cmp x y → is_ne o ≡ false → compare_lists (x ∷ xs) (y ∷ ys) ≡ compare_lists xs ys
unfolding compare_lists compare_numbers
compare-on x y xs ys o e h = rw (sym e) (passed o (compare_lists xs ys) h)

-- one list has ended: what lengths m and n say, which are as far apart
pub compare-ended : (xs ys : List ℕ) (m n : ℕ) → m + length ys ≡ n + length xs → (length xs ≡ 0) ⊎ (length ys ≡ 0) → nat_cmp m n ≡ compare_lists xs ys
unfolding compare_lists
compare-ended [] [] m n e h = sym (nat_cmp_is m n Equal (omega arith))
compare-ended [] (y ∷ ys) m n e h = sym (nat_cmp_is m n Less (omega arith))
compare-ended (x ∷ xs) [] m n e h = sym (nat_cmp_is m n Greater (omega arith))
compare-ended (x ∷ xs) (y ∷ ys) m n e (inl h) = absurd (omega arith)
compare-ended (x ∷ xs) (y ∷ ys) m n e (inr h) = absurd (omega arith)
