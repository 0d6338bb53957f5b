-- The comparisons of numbers and of lists of numbers are strict total orders. Assumes nothing.
use mathlib.Core.Path.{◌≡◌, refl, sym, ap, ◌∙◌}
use Prim.Native.Nat.{ℕ, ◌<◌}
use native.Mathlib.Omega.{arith}
use Rattle.std.specs.declared.cmp.Ordering.{Ordering}
use Rattle.std.specs.declared.cmp.Ordering.TheVariants.{Less, Equal, Greater}
use Rattle.std.specs.Cmp.{ranked, nat_cmp_is}
use Rattle.std.specs.Ordering.{ordering_reverse}
use Rattle.std.proofs.lemmas.Cmp.{tied_itself, nat_list_cmp_total}
use Rattle.std.proofs.lemmas.Map.Lookups.{exact_bytes}
use Rattle.lists.specs.Sorted.{compare_numbers, compare_lists, second}

-- a comparison that orders, and what two equal elements merge to
pub record Lawful {A : Type 0} (cmp : A → A → Ordering) (merge : A → A → A) : Type 0 where
  pub same : (x y : A) → cmp x y ≡ Equal → x ≡ y
  pub self : (x : A) → cmp x x ≡ Equal
  pub flip : (x y : A) → cmp x y ≡ Greater → cmp y x ≡ Less
  pub trans : (x y z : A) → cmp x y ≡ Less → cmp y z ≡ Less → cmp x z ≡ Less
  pub keeps : (x y : A) → merge x y ≡ y

-- ---- numbers

pub less-is : (x y : ℕ) → compare_numbers x y ≡ Less → x < y
unfolding compare_numbers
less-is x y h = ranked x y Less (sym h)

pub more-is : (x y : ℕ) → compare_numbers x y ≡ Greater → y < x
unfolding compare_numbers
more-is x y h = ranked x y Greater (sym h)

pub same-is : (x y : ℕ) → compare_numbers x y ≡ Equal → x ≡ y
unfolding compare_numbers
same-is x y h = ranked x y Equal (sym h)

pub is-less : (x y : ℕ) → x < y → compare_numbers x y ≡ Less
unfolding compare_numbers
is-less x y h = sym (nat_cmp_is x y Less h)

pub is-more : (x y : ℕ) → y < x → compare_numbers x y ≡ Greater
unfolding compare_numbers
is-more x y h = sym (nat_cmp_is x y Greater h)

pub is_same : (x y : ℕ) → x ≡ y → compare_numbers x y ≡ Equal
unfolding compare_numbers
is_same x y e = sym (nat_cmp_is x y Equal e)

pub numbers-lawful : Lawful compare_numbers second
numbers-lawful = record {
  same = same-is;
  self = λ x. is_same x x refl;
  flip = λ x y h. is-less y x (more-is x y h);
  trans = λ x y z h k. let a = less-is x y h in let b = less-is y z k in is-less x z (omega arith);
  keeps = λ x y. refl;
}

-- ---- lists: the laws of std

pub lists-lawful : Lawful compare_lists second
unfolding compare_lists compare_numbers
lists-lawful = record {
  same = exact_bytes;
  self = tied_itself nat_list_cmp_total;
  flip = λ x y h. nat_list_cmp_total.antisymm y x ∙ ap ordering_reverse h;
  trans = nat_list_cmp_total.trans;
  keeps = λ x y. refl;
}
