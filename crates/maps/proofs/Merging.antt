-- Entries with values put in order: which comes first does not matter, so a table may be put in order before its entries are mapped or after. Assumes nothing.
use mathlib.Core.Path.{◌≡◌, refl, sym, ap, ap₂, ◌∙◌}
use mathlib.Core.List.{List, [], ◌∷◌, map}
use Rattle.std.specs.declared.cmp.Ordering.{Ordering}
use Rattle.std.specs.declared.cmp.Ordering.TheVariants.{Less, Equal, Greater}
use Rattle.lists.specs.Sorted.{by_order, insert, insert_all, canon}
use Rattle.lists.proofs.Comparisons.{Lawful}
use Rattle.lists.proofs.Ranks.{back}
use Rattle.values.specs.Values.{Valued}

module _ {X W : Type 0} {cmp : X → X → Ordering} {same : X → X → X} (L : Lawful cmp same) (either : W → W → W)
    (comm : (a b : W) → either a b ≡ either b a) (assoc : (a b c : W) → either (either a b) c ≡ either a (either b c)) where
  abbrev E : Type 0
  E = Valued X W

  abbrev order : E → E → Ordering
  order x y = cmp x.item y.item

  abbrev merge : E → E → E
  merge x y = record { item = y.item; value = either x.value y.value }

  abbrev put : E → List E → List E
  put x l = insert order merge x l

  abbrev all : List E → List E
  all l = canon order merge l

  -- equal entries
  same_turn : (x y : E) → order x y ≡ Equal → order y x ≡ Equal
  same_turn x y h = ap (λ z. cmp z x.item) (sym (L.same x.item y.item h)) ∙ L.self x.item

  same-as : (x y z : E) → order x y ≡ Equal → order x z ≡ order y z
  same-as x y z h = ap (λ i. cmp i z.item) (L.same x.item y.item h)

  merge-turn : (x y : E) → order x y ≡ Equal → merge x y ≡ merge y x
  merge-turn x y h = ap₂ {C = E} (λ i v. record { item = i; value = v }) (sym (L.same x.item y.item h)) (comm x.value y.value)

  -- two in front of a list that both come before
  front : (x y : E) (t : List E) → put x t ≡ x ∷ t → put y t ≡ y ∷ t → put x (y ∷ t) ≡ put y (x ∷ t)
  unfolding insert
  front x y t ex ey = go (order x y) refl
    where
      go : (o : Ordering) → order x y ≡ o → by_order o (x ∷ y ∷ t) (merge x y ∷ t) (y ∷ put x t) ≡ by_order (order y x) (y ∷ x ∷ t) (merge y x ∷ t) (x ∷ put y t)
      go Less e = rw (back L x.item y.item e, ey)
      go Equal e = rw (same_turn x y e, merge-turn x y e)
      go Greater e = rw (L.flip x.item y.item e, ex)

  pub swap : (x y : E) (l : List E) → put x (put y l) ≡ put y (put x l)
  unfolding insert
  swap x y [] = front x y [] refl refl
  swap x y (z ∷ l) = go (order x z) (order y z) refl refl (swap x y l)
    where
      go : (o p : Ordering) → order x z ≡ o → order y z ≡ p → put x (put y l) ≡ put y (put x l)
          → put x (by_order p (y ∷ z ∷ l) (merge y z ∷ l) (z ∷ put y l)) ≡ put y (by_order o (x ∷ z ∷ l) (merge x z ∷ l) (z ∷ put x l))
      go Less Less a b r = front x y (z ∷ l) (rw a) (rw b)
      go Less Equal a b r = rw (a, back L x.item y.item (ap (cmp x.item) (L.same y.item z.item b) ∙ a), b)
      go Less Greater a b r = rw (a, back L x.item y.item (L.trans x.item z.item y.item a (L.flip y.item z.item b)), b)
      go Equal Less a b r = rw (b, back L y.item x.item (ap (cmp y.item) (L.same x.item z.item a) ∙ b), a)
      go Equal Equal a b r =
          rw (a, b) (ap (λ (v : W). record { item = z.item; value = v } ∷ l) (sym (assoc x.value y.value z.value) ∙ ap (λ (v : W). either v z.value) (comm x.value y.value) ∙ assoc y.value x.value z.value))
      go Equal Greater a b r = rw (a, b)
      go Greater Less a b r = rw (b, back L y.item x.item (L.trans y.item z.item x.item b (L.flip x.item z.item a)), a)
      go Greater Equal a b r = rw (a, b)
      go Greater Greater a b r = rw (a, b, r)

  -- two equal entries put in are one
  pub merged : (x y : E) → order x y ≡ Equal → (l : List E) → put (merge x y) l ≡ put x (put y l)
  unfolding insert
  merged x y h [] = rw h
  merged x y h (z ∷ l) = go (order y z) refl (merged x y h l)
    where
      go : (o : Ordering) → order y z ≡ o → put (merge x y) l ≡ put x (put y l)
          → by_order o (merge x y ∷ z ∷ l) (merge (merge x y) z ∷ l) (z ∷ put (merge x y) l) ≡ put x (by_order o (y ∷ z ∷ l) (merge y z ∷ l) (z ∷ put y l))
      go Less e r = rw h
      go Equal e r = rw (same-as x y z h, e) (ap (λ (v : W). record { item = z.item; value = v } ∷ l) (assoc x.value y.value z.value))
      go Greater e r = rw (same-as x y z h, e, r)

  put_all : (x : E) (xs acc : List E) → insert_all order merge xs (put x acc) ≡ put x (insert_all order merge xs acc)
  unfolding insert_all
  put_all x [] acc = refl
  put_all x (y ∷ xs) acc = ap (insert_all order merge xs) (swap y x acc) ∙ put_all x xs (put y acc)

  all_cons : (x : E) (xs : List E) → all (x ∷ xs) ≡ put x (all xs)
  unfolding canon insert_all
  all_cons x xs = put_all x xs []

  -- entries mapped by their items
  module _ (f : X → X) where
    abbrev g : E → E
    g x = record { item = f x.item; value = x.value }

    map-put : (x : E) (l : List E) → all (map g (put x l)) ≡ put (g x) (all (map g l))
    unfolding insert
    map-put x [] = all_cons (g x) []
    map-put x (y ∷ l) = go (order x y) refl (map-put x l)
      where
        go : (o : Ordering) → order x y ≡ o → all (map g (put x l)) ≡ put (g x) (all (map g l))
            → all (map g (by_order o (x ∷ y ∷ l) (merge x y ∷ l) (y ∷ put x l))) ≡ put (g x) (all (g y ∷ map g l))
        go Less e r = all_cons (g x) (g y ∷ map g l)
        go Equal e r =
            all_cons (g (merge x y)) (map g l)
            ∙ merged (g x) (g y) (ap (λ (i : X). cmp (f i) (f y.item)) (L.same x.item y.item e) ∙ L.self (f y.item)) (all (map g l))
            ∙ ap (put (g x)) (sym (all_cons (g y) (map g l)))
        go Greater e r = all_cons (g y) (map g (put x l)) ∙ ap (put (g y)) r ∙ swap (g y) (g x) (all (map g l)) ∙ ap (put (g x)) (sym (all_cons (g y) (map g l)))

    -- a table may be put in order before its entries are mapped or after
    pub map-all : (xs : List E) → all (map g (all xs)) ≡ all (map g xs)
    map-all [] = unfold canon insert_all in refl
    map-all (x ∷ xs) = ap (λ l. all (map g l)) (all_cons x xs) ∙ map-put x (all xs) ∙ ap (put (g x)) (map-all xs) ∙ sym (all_cons (g x) (map g xs))
