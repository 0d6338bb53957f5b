-- What more labels change of the tables (02, Item 12): L in place of K, for K ≤ L. The same three sets, laid out for L labels, keep their order, and a
-- command whose labels are below K does the same to them. So the tables over L are those over K, laid out anew. Assumes nothing.
use mathlib.Core.Path.{◌≡◌, refl, sym, ap, ap₂, ◌∙◌, subst, fun_ext}
use mathlib.Core.Logic.{inl}
use mathlib.Core.Bool.{Bool, true, false, cond}
use mathlib.Core.List.{List, [], ◌∷◌, ◌++◌, map, map-append}
use Prim.Native.Nat.{ℕ, ◌+◌, ◌-◌, ◌*◌, ◌/◌, ◌%◌, ◌^◌, ◌≤◌, ◌<◌}
use native.Mathlib.Nat.{mul_assoc, add-mul, add-zero}
use native.Mathlib.Omega.{arith}
use lib.Bits.{bit_or}
use lib.Dec.{eqb, ltb}
use lib.Pow.{pow-add, shr-shr}
use borrow.Author.Tests.{lt-ltb, le-ltb}
use Rattle.std.specs.declared.cmp.Ordering.TheVariants.{Less, Equal, Greater}
use Rattle.std.specs.Ordering.{ordering_then}
use Rattle.lists.specs.Lists.{products}
use Rattle.lists.specs.Sorted.{by_order, compare_numbers, compare_lists, set_of}
use Rattle.lists.proofs.Members.{products-map}
use Rattle.labels.specs.Sets.{has, without, replace}
use Rattle.expression.specs.declared.Kind.{Kind}
use Rattle.expression.specs.declared.Role.{Role}
use Rattle.expression.specs.declared.Role.TheVariants.{Derived, External}
use Rattle.expression.specs.declared.Kind.TheVariants.{Head, Positive, Negative}
use Rattle.tables.specs.Triples.{mark_t, mark_f, mark_u, relabel_triple, settles, connect_triple, all_met}
use Rattle.tables.specs.Definitions.{Pair, own_triple, subsets, unite_pairs, map_pair, left_out, triples, pairs}
use Rattle.tables.proofs.Morphisms.{Morphism, map-canon, map_each}
use Rattle.wider.specs.Layouts.{laid_out}
use Rattle.wider.proofs.Moves.{Moves, moved_none, moved-or, moved-pow, moved-without, moved-replace, moved_order, raised, raised_place, raised-moves}
use Rattle.wider.proofs.Restrictions.{restricted, MorphismBelow, restricted-one, restricted-two}

-- ---- triples

-- where it has the marks
abbrev place : ℕ → ℕ → ℕ → ℕ
place K L n = raised_place K L (raised_place K L (λ m. m)) n

-- x is below y where it compares as less
less_by : (x y : ℕ) → ltb x y ≡ by_order (compare_numbers x y) true false false
unfolding compare_numbers
less_by x y = step (ltb x y) (eqb x y)
  where
    step : (b d : Bool) → b ≡ by_order (cond b Less (cond d Equal Greater)) true false false
    step true d = refl
    step false true = refl
    step false false = refl

module _ (K L : ℕ) (wide : K ≤ L) where
  abbrev laid : ℕ → ℕ
  laid = laid_out K L

  raised-twice : (t : ℕ) → raised K L (raised K L (λ x. x)) t ≡ laid t
  unfolding laid_out
  raised-twice t =
      let F = t / 2 ^ K % 2 ^ K in
      let U = t / 2 ^ K / 2 ^ K in
      let u : t / 2 ^ (2 * K) ≡ U = ap (λ n. t / 2 ^ n) (let k : 2 * K ≡ K + K = omega arith in k) ∙ sym (shr-shr t K K) in
      let v : 2 ^ (2 * L) ≡ 2 ^ L * 2 ^ L = ap (λ n. 2 ^ n) (let k : 2 * L ≡ L + L = omega arith in k) ∙ pow-add 2 L L in
      omega (arith, add-mul (U * 2 ^ L) F (2 ^ L), mul_assoc U (2 ^ L) (2 ^ L), ap₂ ◌*◌ u v)

  moves : Moves (place K L) laid
  moves =
      subst (Moves (place K L)) (fun_ext raised-twice)
      (raised-moves K L wide (raised-moves K L wide (record { at = λ n x. refl; only = λ m. inl (m, refl); rises = λ x y l. l })))

  place-T : (g : ℕ) → g < K → place K L g ≡ g
  place-T g a = rw (lt-ltb g K a) refl

  place-F : (g : ℕ) → g < K → place K L (K + g) ≡ L + g
  place-F g a = let e : K + g - K ≡ g = omega arith in rw (le-ltb (K + g) K (omega arith), e, lt-ltb g K a) refl

  place-U : (g : ℕ) → place K L (2 * K + g) ≡ 2 * L + g
  place-U g = let e : 2 * K + g - K ≡ K + g = omega arith in rw (le-ltb (2 * K + g) K (omega arith), e, le-ltb (K + g) K (omega arith)) (omega arith)

  pub laid-order : (q r : ℕ) → compare_numbers (laid q) (laid r) ≡ compare_numbers q r
  laid-order = moved_order moves

  laid_none : laid 0 ≡ 0
  laid_none = moved_none moves

  pub laid-or : (q r : ℕ) → laid (bit_or q r) ≡ bit_or (laid q) (laid r)
  laid-or = moved-or moves

  pub laid-T : (g : ℕ) → g < K → laid (mark_t K g) ≡ mark_t L g
  unfolding mark_t
  laid-T g a = moved-pow moves g ∙ ap (λ n. 2 ^ n) (place-T g a)

  pub laid-F : (g : ℕ) → g < K → laid (mark_f K g) ≡ mark_f L g
  unfolding mark_f
  laid-F g a = moved-pow moves (K + g) ∙ ap (λ n. 2 ^ n) (place-F g a)

  pub laid-U : (g : ℕ) → laid (mark_u K g) ≡ mark_u L g
  unfolding mark_u
  laid-U g = moved-pow moves (2 * K + g) ∙ ap (λ n. 2 ^ n) (place-U g)

  pub laid-relabel : (i j : ℕ) → i < K → j < K → (q : ℕ) → laid (relabel_triple K i j q) ≡ relabel_triple L i j (laid q)
  unfolding relabel_triple
  laid-relabel i j a b q =
      one i j _ (place-T i a) (place-T j b)
      ∙ ap (replace i j) (one (K + i) (K + j) _ (place-F i a) (place-F j b) ∙ ap (replace (L + i) (L + j)) (one (2 * K + i) (2 * K + j) q (place-U i) (place-U j)))
    where
      one : (n k x : ℕ) {m l : ℕ} → place K L n ≡ m → place K L k ≡ l → laid (replace n k x) ≡ replace m l (laid x)
      one n k x e f = moved-replace moves n k x ∙ ap₂ (λ m l. replace m l (laid x)) e f

  laid-settles : (k : Kind) (i : ℕ) → i < K → (q r : ℕ) → settles L k i (laid q) (laid r) ≡ settles K k i q r
  unfolding settles
  laid-settles k i a q r = step k
    where
      at : (n x : ℕ) {m : ℕ} → place K L n ≡ m → has m (laid x) ≡ has n x
      at n x e = ap (λ m. has m (laid x)) (sym e) ∙ moves.at n x

      step : (k : Kind) → settles L k i (laid q) (laid r) ≡ settles K k i q r
      step Head = at i r (place-T i a)
      step Positive = at (K + i) r (place-F i a)
      step Negative = at i q (place-T i a)

  pub laid-connect : (k : Kind) (i j : ℕ) → i < K → (q r : ℕ) → laid (connect_triple K k i j q r) ≡ connect_triple L k i j (laid q) (laid r)
  unfolding connect_triple
  laid-connect k i j a q r = step (settles K k i q r) ∙ ap (λ b. cond b (without (2 * L + j) (laid r)) (laid r)) (sym (laid-settles k i a q r))
    where
      step : (b : Bool) → laid (cond b (without (2 * K + j) r) r) ≡ cond b (without (2 * L + j) (laid r)) (laid r)
      step true = moved-without moves (2 * K + j) r ∙ ap (λ n. without n (laid r)) (place-U j)
      step false = refl

  -- a triple is below the first mark of U as before
  pub laid-met : (q : ℕ) → all_met L (laid q) ≡ all_met K q
  unfolding all_met mark_u
  laid-met q =
      let top : 2 ^ (2 * L) ≡ laid (2 ^ (2 * K)) = ap (λ n. 2 ^ n) (sym (add-zero (2 * L))) ∙ sym (laid-U 0) ∙ ap (λ n. laid (2 ^ n)) (add-zero (2 * K)) in
      less_by (laid q) (2 ^ (2 * L)) ∙ ap (λ o. by_order o true false false) (ap (compare_numbers (laid q)) top ∙ laid-order q (2 ^ (2 * K))) ∙ sym (less_by q (2 ^ (2 * K)))

  -- Definition 5
  carries-triples : Morphism (restricted K 0 (triples K)) (restricted K 0 (triples L)) laid
  unfolding restricted triples
  carries-triples = record {
    present = λ c a. restricted-one K laid laid_none a.label (laid-T a.label);
    absent = λ c a. restricted-one K laid laid_none a.label (laid-F a.label);
    unmet = λ g. restricted-one K laid laid_none g (λ a. laid-U g);
    united = laid-or;
    relabelled = λ i j q. restricted-two K laid q i j (λ a b. laid-relabel i j a b q);
    connected = λ k i j q. restricted-two K laid q i j (λ a b. laid-connect k i j a q q);
    order = laid-order;
    merge = λ q r. refl;
  }

  -- ---- pairs

  pub laid-set : (s : List ℕ) → map laid (set_of s) ≡ set_of (map laid s)
  unfolding set_of restricted triples
  laid-set s = map-canon carries-triples s

  pub laid-lists : (x y : List ℕ) → compare_lists (map laid x) (map laid y) ≡ compare_lists x y
  unfolding compare_lists
  laid-lists [] [] = refl
  laid-lists [] (r ∷ y) = refl
  laid-lists (q ∷ x) [] = refl
  laid-lists (q ∷ x) (r ∷ y) = ap₂ ordering_then (laid-order q r) (laid-lists x y)

  pub laid-own : (x : Pair) → own_triple (map laid x) ≡ laid (own_triple x)
  laid-own [] = sym laid_none
  laid-own (q ∷ s) = refl

  pub laid-subsets : (x : Pair) → subsets (map laid x) ≡ map laid (subsets x)
  laid-subsets [] = refl
  laid-subsets (q ∷ s) = refl

  laid-unite : (x y : Pair) → map laid (unite_pairs x y) ≡ unite_pairs (map laid x) (map laid y)
  unfolding unite_pairs
  laid-unite x y =
      rw (laid-own x, laid-own y, laid-subsets x, laid-subsets y)
      (ap₂ {C = Pair} ◌∷◌ (laid-or (own_triple x) (own_triple y)) (laid-set _ ∙ ap set_of (parts (own_triple x) (own_triple y) (subsets x) (subsets y))))
    where
      parts : (q r : ℕ) (s t : List ℕ) → map laid (products bit_or s t ++ map (bit_or q) t ++ map (λ z. bit_or z r) s)
          ≡ products bit_or (map laid s) (map laid t) ++ map (bit_or (laid q)) (map laid t) ++ map (λ z. bit_or z (laid r)) (map laid s)
      parts q r s t =
          map-append laid (products bit_or s t ++ map (bit_or q) t) (map (λ z. bit_or z r) s)
          ∙ ap₂ ◌++◌
          (map-append laid (products bit_or s t) (map (bit_or q) t)
          ∙ ap₂ ◌++◌ (sym (products-map laid laid bit_or bit_or laid s t (λ a b m n. sym (laid-or a b)))) (map_each carries-triples (bit_or q) (bit_or (laid q)) (laid-or q) t))
          (map_each carries-triples (λ z. bit_or z r) (λ z. bit_or z (laid r)) (λ z. laid-or z r) s)

  laid-map : (q r : ℕ) (f g : ℕ → ℕ) (x : Pair) → laid q ≡ r → ((s : ℕ) → laid (f s) ≡ g (laid s)) → map laid (map_pair q f x) ≡ map_pair r g (map laid x)
  unfolding map_pair
  laid-map q r f g x k e = ap₂ {C = Pair} ◌∷◌ k (laid-set (map f (subsets x)) ∙ ap set_of (map_each carries-triples f g e (subsets x) ∙ ap (map g) (sym (laid-subsets x))))

  left_out-laid : (r : Role) (s : ℕ) → map laid (left_out r s) ≡ left_out r (laid s)
  left_out-laid Derived s = refl
  left_out-laid External s = refl

  -- Definition 8
  carries-pairs : Morphism (restricted K [] (pairs K)) (restricted K [] (pairs L)) (map laid)
  unfolding restricted pairs
  carries-pairs = record {
    present = λ c a. restricted-one K (map laid) refl a.label (λ l. ap₂ {C = Pair} ◌∷◌ (laid-T a.label l) (left_out-laid a.role _ ∙ ap (left_out a.role) (laid-F a.label l)));
    absent = λ c a. restricted-one K (map laid) refl a.label (λ l. ap {B = Pair} (λ q. q ∷ []) (laid-F a.label l));
    unmet = λ g. restricted-one K (map laid) refl g (λ a. ap {B = Pair} (λ q. q ∷ []) (laid-U g));
    united = laid-unite;
    relabelled = λ i j x. restricted-two K (map laid) x i j
        (λ a b. laid-map _ _ _ (relabel_triple L i j) x (laid-relabel i j a b (own_triple x) ∙ ap (relabel_triple L i j) (sym (laid-own x))) (laid-relabel i j a b));
    connected = λ k i j x. restricted-two K (map laid) x i j
        (λ a b. laid-map _ _ _ (connect_triple L k i j (own_triple (map laid x))) x
        (laid-connect k i j a (own_triple x) (own_triple x) ∙ ap (λ q. connect_triple L k i j q q) (sym (laid-own x)))
        (λ s. laid-connect k i j a (own_triple x) s ∙ ap (λ q. connect_triple L k i j q (laid s)) (sym (laid-own x))));
    order = laid-lists;
    merge = λ x y. refl;
  }

  pub triples-wider : MorphismBelow K (triples K) (triples L) laid
  triples-wider = record { none = 0; none' = 0; morphism = carries-triples }

  pub pairs-wider : MorphismBelow K (pairs K) (pairs L) (map laid)
  pairs-wider = record { none = []; none' = []; morphism = carries-pairs }
