-- Members of the lists that tables are made of: tests over a list, properties of all elements, products of two lists. Assumes nothing.
use mathlib.Core.Path.{◌≡◌, refl, sym, ap, ap₂, ◌∙◌}
use mathlib.Core.Logic.{◌⊎◌, inl, inr, ⊎_elim}
use mathlib.Core.Bool.{Bool, true, false, cond, ◌&&◌, ◌||◌, true≢false, false≢true, or_assoc}
use mathlib.Core.List.Memᴰ
use mathlib.Core.List.{List, [], ◌∷◌, ◌++◌, map, Memᴰ}
use mathlib.Core.List.{append_assoc, map-append}
use Prim.Native.Nat.{ℕ, zero, suc, ◌+◌, ◌*◌, ◌<◌}
use native.Mathlib.Numerals.{add-one}
use lib.Seq.{drop-cons}
use native.Mathlib.Nat.{zero-mul, suc-mul, add_comm, not-suc-le-zero, le_of_suc-le-suc}
use lib.Dec.{eqb}
use lib.ListN.{length, take, drop, get_or, length-append, length-map}
use borrow.Author.Tests.{eq-eqb, ne_eqb, eqb-true}
use Rattle.lists.specs.Lists.{some, keep, All, products}

-- ---- Booleans

pub and_both : (a b : Bool) → (a && b) ≡ true → (a ≡ true) × (b ≡ true)
and_both true b h = (refl, h)
and_both false b h = absurd (false≢true h)

pub or-neither : (a b : Bool) → (a || b) ≡ false → (a ≡ false) × (b ≡ false)
or-neither true b h = absurd (true≢false h)
or-neither false b h = (refl, h)

pub or-either : (a b : Bool) → (a || b) ≡ true → (a ≡ true) ⊎ (b ≡ true)
or-either true b h = inl refl
or-either false b h = inr h

pub not-true-false : (b : Bool) → (b ≡ true → ⊥) → b ≡ false
not-true-false true h = absurd (h refl)
not-true-false false h = refl

-- ---- one test

module _ {A : Type 0} (f : A → Bool) where
  pub some_of : {x : A} (xs : List A) → Memᴰ x xs → f x ≡ true → some f xs ≡ true
  unfolding some
  some_of [] m h = absurd (Memᴰ.not-nil m)
  some_of {x} (y ∷ ys) m h = step (f y) refl (λ m'. some_of ys m' h) (Memᴰ.cases_cons m)
    where
      step : (b : Bool) → f y ≡ b → (Memᴰ x ys → some f ys ≡ true) → (x ≡ y) ⊎ Memᴰ x ys → (b || some f ys) ≡ true
      step true e k c = refl
      step false e k (inl p) = absurd (true≢false (sym h ∙ ap f p ∙ e))
      step false e k (inr m') = k m'

  pub some_is : (xs : List A) → some f xs ≡ true → (x : A) × Memᴰ x xs × (f x ≡ true)
  unfolding some
  some_is [] h = absurd (false≢true h)
  some_is (y ∷ ys) h = step (f y) refl (λ h'. some_is ys h') h
    where
      step : (b : Bool) → f y ≡ b → (some f ys ≡ true → (x : A) × Memᴰ x ys × (f x ≡ true)) → (b || some f ys) ≡ true
          → (x : A) × Memᴰ x (y ∷ ys) × (f x ≡ true)
      step true e k h' = (y, Memᴰ.head refl, e)
      step false e k h' = let r = k h' in (r.0, Memᴰ.tail r.1, r.2)

  pub some-append : (xs ys : List A) → some f (xs ++ ys) ≡ (some f xs || some f ys)
  unfolding some
  some-append [] ys = refl
  some-append (x ∷ xs) ys = ap (λ b. f x || b) (some-append xs ys) ∙ sym (or_assoc (f x) (some f xs) (some f ys))

  pub some-none : (xs : List A) → ((x : A) → Memᴰ x xs → f x ≡ false) → some f xs ≡ false
  unfolding some
  some-none [] h = refl
  some-none (x ∷ xs) h = ap₂ ◌||◌ (h x (Memᴰ.head refl)) (some-none xs (λ y m. h y (Memᴰ.tail m)))

  pub none-some : {x : A} (xs : List A) → some f xs ≡ false → Memᴰ x xs → f x ≡ false
  none-some {x} xs h m = not-true-false (f x) (λ e. true≢false (sym (some_of xs m e) ∙ h))

  pub keep-of : {x : A} (xs : List A) → Memᴰ x xs → f x ≡ true → Memᴰ x (keep f xs)
  unfolding keep
  keep-of [] m h = m
  keep-of {x} (y ∷ ys) m h = step (f y) refl (Memᴰ.cases_cons m) (λ n. keep-of ys n h)
    where
      step : (b : Bool) → f y ≡ b → (x ≡ y) ⊎ Memᴰ x ys → (Memᴰ x ys → Memᴰ x (keep f ys)) → Memᴰ x (cond b (y ∷ keep f ys) (keep f ys))
      step true e (inl p) k = Memᴰ.head p
      step true e (inr n) k = Memᴰ.tail (k n)
      step false e (inl p) k = absurd (true≢false (sym h ∙ ap f p ∙ e))
      step false e (inr n) k = k n

  -- an element that stays in passed the test
  pub keep-is : {x : A} (xs : List A) → Memᴰ x (keep f xs) → Memᴰ x xs × (f x ≡ true)
  unfolding keep
  keep-is [] m = absurd (Memᴰ.not-nil m)
  keep-is {x} (y ∷ ys) m = step (f y) refl m (λ n. keep-is ys n)
    where
      later : Memᴰ x ys × (f x ≡ true) → Memᴰ x (y ∷ ys) × (f x ≡ true)
      later r = (Memᴰ.tail r.0, r.1)

      step : (b : Bool) → f y ≡ b → Memᴰ x (cond b (y ∷ keep f ys) (keep f ys)) → (Memᴰ x (keep f ys) → Memᴰ x ys × (f x ≡ true))
          → Memᴰ x (y ∷ ys) × (f x ≡ true)
      step true e n k = ⊎_elim (λ p. (Memᴰ.head p, ap f p ∙ e)) (λ l. later (k l)) (Memᴰ.cases_cons n)
      step false e n k = later (k n)

-- a number among numbers, by the test
pub listed : {c : ℕ} (xs : List ℕ) → Memᴰ c xs → some (eqb c) xs ≡ true
listed {c} xs m = some_of (eqb c) xs m (eq-eqb c c refl)

pub not_listed : (c : ℕ) (xs : List ℕ) → (Memᴰ c xs → ⊥) → some (eqb c) xs ≡ false
not_listed c xs h = some-none (eqb c) xs (λ x m. ne_eqb c x (λ e. h (Memᴰ.cast e m)))

pub listed-is : (c : ℕ) (xs : List ℕ) → some (eqb c) xs ≡ true → Memᴰ c xs
listed-is c xs h = let r = some_is (eqb c) xs h in Memᴰ.cast (eqb-true c r.0 r.2) r.1

-- ---- every element

module _ {A : Type 0} where
  pub all-at : (P : A → Type 0) {x : A} (xs : List A) → All P xs → Memᴰ x xs → P x
  all-at P [] h m = absurd (Memᴰ.not-nil m)
  all-at P {x} (y ∷ ys) h m = step (λ n. all-at P ys h.1 n) (Memᴰ.cases_cons m)
    where
      step : (Memᴰ x ys → P x) → (x ≡ y) ⊎ Memᴰ x ys → P x
      step k (inl p) = rw p h.0
      step k (inr n) = k n

  pub all_of : (P : A → Type 0) (xs : List A) → ((x : A) → Memᴰ x xs → P x) → All P xs
  all_of P [] h = tt
  all_of P (x ∷ xs) h = (h x (Memᴰ.head refl), all_of P xs (λ y m. h y (Memᴰ.tail m)))

  -- the element at a place
  pub all-get : (P : A → Type 0) (d : A) (xs : List A) (i : ℕ) → All P xs → i < length xs → P (get_or xs i d)
  all-get P d [] i a l = absurd (not-suc-le-zero l)
  all-get P d (x ∷ xs) zero a l = a.0
  all-get P d (x ∷ xs) (suc i) a l = all-get P d xs i a.1 (le_of_suc-le-suc l)

  pub all_take : (P : A → Type 0) (k : ℕ) (xs : List A) → All P xs → All P (take k xs)
  all_take P zero xs a = tt
  all_take P (suc k) [] a = tt
  all_take P (suc k) (x ∷ xs) a = (a.0, all_take P k xs a.1)

  pub all_drop : (P : A → Type 0) (k : ℕ) (xs : List A) → All P xs → All P (drop k xs)
  all_drop P zero xs a = a
  all_drop P (suc k) [] a = tt
  all_drop P (suc k) (x ∷ xs) a = all_drop P k xs a.1

  pub all_append : (P : A → Type 0) (xs ys : List A) → All P xs → All P ys → All P (xs ++ ys)
  all_append P [] ys h k = k
  all_append P (x ∷ xs) ys h k = (h.0, all_append P xs ys h.1 k)

  pub all-parts : (P : A → Type 0) (xs ys : List A) → All P (xs ++ ys) → All P xs × All P ys
  all-parts P [] ys h = (tt, h)
  all-parts P (x ∷ xs) ys h = let r = all-parts P xs ys h.1 in ((h.0, r.0), r.1)

pub all_map : {A B : Type 0} (P : A → Type 0) (Q : B → Type 0) (f : A → B) → ((x : A) → P x → Q (f x)) → (xs : List A) → All P xs → All Q (map f xs)
all_map P Q f g [] h = tt
all_map P Q f g (x ∷ xs) h = (g x h.0, all_map P Q f g xs h.1)

-- a list mapped twice, and by two maps that are alike
pub map-map : {A B C : Type 0} (f : B → C) (g : A → B) (h : A → C) → ((x : A) → f (g x) ≡ h x) → (xs : List A) → map f (map g xs) ≡ map h xs
map-map f g h e [] = refl
map-map {C = C} f g h e (x ∷ xs) = ap₂ {C = List C} (λ y ys. y ∷ ys) (e x) (map-map f g h e xs)

pub map_same : {A B : Type 0} (f g : A → B) → ((x : A) → f x ≡ g x) → (xs : List A) → map f xs ≡ map g xs
map_same f g e [] = refl
map_same {B = B} f g e (x ∷ xs) = ap₂ {C = List B} (λ y ys. y ∷ ys) (e x) (map_same f g e xs)

pub map-take : {A B : Type 0} (f : A → B) (k : ℕ) (xs : List A) → map f (take k xs) ≡ take k (map f xs)
map-take f zero xs = refl
map-take f (suc k) [] = refl
map-take {A} {B} f (suc k) (x ∷ xs) = ap (λ (t : List B). f x ∷ t) (map-take f k xs)

pub map-drop : {A B : Type 0} (f : A → B) (k : ℕ) (xs : List A) → map f (drop k xs) ≡ drop k (map f xs)
map-drop f zero xs = refl
map-drop f (suc k) [] = refl
map-drop f (suc k) (x ∷ xs) = map-drop f k xs

-- ---- products

module _ {A B C : Type 0} (f : A → B → C) where
  pub products-of : {x : A} {y : B} (xs : List A) (ys : List B) → Memᴰ x xs → Memᴰ y ys → Memᴰ (f x y) (products f xs ys)
  unfolding products
  products-of [] ys m n = absurd (Memᴰ.not-nil m)
  products-of {x} {y} (z ∷ zs) ys m n = step (λ m'. products-of zs ys m' n) (Memᴰ.cases_cons m)
    where
      step : (Memᴰ x zs → Memᴰ (f x y) (products f zs ys)) → (x ≡ z) ⊎ Memᴰ x zs → Memᴰ (f x y) (map (f z) ys ++ products f zs ys)
      step k (inl p) = Memᴰ.append_left (products f zs ys) (Memᴰ.cast (ap (λ w. f w y) p) (Memᴰ.map (f z) n))
      step k (inr m') = Memᴰ.append_right (map (f z) ys) (k m')

  pub products-is : {z : C} (xs : List A) (ys : List B) → Memᴰ z (products f xs ys) → (x : A) × (y : B) × Memᴰ x xs × Memᴰ y ys × (f x y ≡ z)
  unfolding products
  products-is [] ys m = absurd (Memᴰ.not-nil m)
  products-is {z} (x ∷ xs) ys m = step (λ m'. products-is xs ys m') (Memᴰ.append_cases (map (f x) ys) m)
    where
      Got : List A → Type 0
      Got l = (a : A) × (y : B) × Memᴰ a l × Memᴰ y ys × (f a y ≡ z)

      step : (Memᴰ z (products f xs ys) → Got xs) → Memᴰ z (map (f x) ys) ⊎ Memᴰ z (products f xs ys) → Got (x ∷ xs)
      step k (inl m') = let r = Memᴰ.of_map (f x) ys m' in (x, r.0, Memᴰ.head refl, r.1, r.2)
      step k (inr m') = let r = k m' in (r.0, r.1, Memᴰ.tail r.2, r.3, r.4)

  pub length-products : (xs : List A) (ys : List B) → length (products f xs ys) ≡ length xs * length ys
  unfolding products
  length-products [] ys = sym (zero-mul (length ys))
  length-products (x ∷ xs) ys =
      length-append (map (f x) ys) (products f xs ys) ∙ ap₂ ◌+◌ (length-map ys (f x)) (length-products xs ys)
      ∙ add_comm (length ys) (length xs * length ys) ∙ sym (suc-mul (length xs) (length ys))

  pub products-append : (xs ys : List A) (zs : List B) → products f (xs ++ ys) zs ≡ products f xs zs ++ products f ys zs
  unfolding products
  products-append [] ys zs = refl
  products-append (x ∷ xs) ys zs =
      ap (λ l. map (f x) zs ++ l) (products-append xs ys zs) ∙ sym (append_assoc (map (f x) zs) (products f xs zs) (products f ys zs))

  -- what is left of the first list at i, with the products of the next element in front
  pub products_at : (d : A) (xs : List A) (ys : List B) (i : ℕ) → i < length xs → products f (drop i xs) ys ≡ map (f (get_or xs i d)) ys ++ products f (drop (i + 1) xs) ys
  unfolding products
  products_at d xs ys i l = rw (add-one i, drop-cons xs i d l)

  pub all_products : (P : C → Type 0) (d : A) (xs : List A) (ys : List B) (i : ℕ) → All P (products f xs ys) → i < length xs → All P (map (f (get_or xs i d)) ys)
  unfolding products
  all_products P d [] ys i h l = absurd (not-suc-le-zero l)
  all_products P d (x ∷ xs) ys zero h l = (all-parts P (map (f x) ys) (products f xs ys) h).0
  all_products P d (x ∷ xs) ys (suc i) h l = all_products P d xs ys i (all-parts P (map (f x) ys) (products f xs ys) h).1 (le_of_suc-le-suc l)

-- the products of two mapped lists are the mapped products
module _ {P Q D A B C : Type 0} (F : P → A) (G : Q → B) (J : A → B → C) (J' : P → Q → D) (H : D → C) where
  map_row : (p : P) (qs : List Q) → ((q : Q) → Memᴰ q qs → J (F p) (G q) ≡ H (J' p q)) → map (J (F p)) (map G qs) ≡ map H (map (J' p) qs)
  map_row p [] h = refl
  map_row p (q ∷ qs) h = ap₂ {C = List C} (λ x l. x ∷ l) (h q (Memᴰ.head refl)) (map_row p qs (λ r m. h r (Memᴰ.tail m)))

  pub products-map : (ps : List P) (qs : List Q) → ((p : P) (q : Q) → Memᴰ p ps → Memᴰ q qs → J (F p) (G q) ≡ H (J' p q))
      → products J (map F ps) (map G qs) ≡ map H (products J' ps qs)
  unfolding products
  products-map [] qs h = refl
  products-map (p ∷ ps) qs h =
      ap₂ ◌++◌ (map_row p qs (λ q m. h p q (Memᴰ.head refl) m)) (products-map ps qs (λ r q k m. h r q (Memᴰ.tail k) m))
      ∙ sym (map-append H (map (J' p) qs) (products J' ps qs))
