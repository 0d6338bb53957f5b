-- A map between algebras of entries that carries their operations carries tables to tables: through `canon`, each operation, and the table of an
-- expression. Assumes nothing.
use mathlib.Core.Path.{◌≡◌, refl, sym, ap, ap₂, ◌∙◌}
use mathlib.Core.Bool.{Bool, true, false, cond}
use mathlib.Core.List.{List, [], ◌∷◌, ◌++◌, map}
use Prim.Native.Nat.{ℕ}
use Rattle.std.specs.declared.cmp.Ordering.{Ordering}
use Rattle.std.specs.declared.cmp.Ordering.TheVariants.{Less, Equal, Greater}
use Rattle.std.specs.Ordering.{ordering_then}
use Rattle.lists.specs.Lists.{products}
use Rattle.lists.specs.Sorted.{by_order, compare_numbers, compare_lists, insert, insert_all, canon, set_of}
use Rattle.lists.proofs.Members.{products-map}
use Rattle.expression.specs.declared.Kind.{Kind}
use Rattle.expression.specs.declared.NewAtom.{NewAtom}
use Rattle.semantics.specs.Expressions.{Expr}
use Rattle.semantics.specs.AnswerSets.{Assumptions}
use Rattle.semantics.proofs.Homomorphisms.{Homomorphism, fold-map}
use Rattle.tables.specs.Algebras.{Algebra, leaf, tables, table}
use Rattle.tables.specs.Definitions.{Pair, unite_pairs, map_pair, triples, flat}

-- ---- entries

pub record Morphism {X Y : Type 0} (A : Algebra X) (B : Algebra Y) (h : X → Y) : Type 0 where
  pub present : (c : ℕ) (a : NewAtom) → h (A.present c a) ≡ B.present c a
  pub absent : (c : ℕ) (a : NewAtom) → h (A.absent c a) ≡ B.absent c a
  pub unmet : (g : ℕ) → h (A.unmet g) ≡ B.unmet g
  pub united : (x y : X) → h (A.united x y) ≡ B.united (h x) (h y)
  pub relabelled : (i j : ℕ) (x : X) → h (A.relabelled i j x) ≡ B.relabelled i j (h x)
  pub connected : (k : Kind) (i j : ℕ) (x : X) → h (A.connected k i j x) ≡ B.connected k i j (h x)
  pub order : (x y : X) → B.order (h x) (h y) ≡ A.order x y
  pub merge : (x y : X) → h (A.merge x y) ≡ B.merge (h x) (h y)

module _ {X Y : Type 0} {A : Algebra X} {B : Algebra Y} {h : X → Y} (M : Morphism A B h) where
  map-insert : (x : X) (l : List X) → map h (insert A.order A.merge x l) ≡ insert B.order B.merge (h x) (map h l)
  unfolding insert
  map-insert x [] = refl
  map-insert x (y ∷ ys) =
      step (A.order x y) (map-insert x ys)
      ∙ ap (λ o. by_order o (h x ∷ h y ∷ map h ys) (B.merge (h x) (h y) ∷ map h ys) (h y ∷ insert B.order B.merge (h x) (map h ys))) (sym (M.order x y))
    where
      step : (o : Ordering) → map h (insert A.order A.merge x ys) ≡ insert B.order B.merge (h x) (map h ys)
          → map h (by_order o (x ∷ y ∷ ys) (A.merge x y ∷ ys) (y ∷ insert A.order A.merge x ys))
          ≡ by_order o (h x ∷ h y ∷ map h ys) (B.merge (h x) (h y) ∷ map h ys) (h y ∷ insert B.order B.merge (h x) (map h ys))
      step Less k = refl
      step Equal k = ap {B = List Y} (λ z. z ∷ map h ys) (M.merge x y)
      step Greater k = ap {B = List Y} (λ l. h y ∷ l) k

  map-insert_all : (xs acc : List X) → map h (insert_all A.order A.merge xs acc) ≡ insert_all B.order B.merge (map h xs) (map h acc)
  unfolding insert_all
  map-insert_all [] acc = refl
  map-insert_all (x ∷ xs) acc = map-insert_all xs (insert A.order A.merge x acc) ∙ ap (insert_all B.order B.merge (map h xs)) (map-insert x acc)

  pub map-canon : (xs : List X) → map h (canon A.order A.merge xs) ≡ canon B.order B.merge (map h xs)
  unfolding canon
  map-canon xs = map-insert_all xs []

  -- a canonical list, from one that is carried
  canon-by : (xs : List X) {ys : List Y} → map h xs ≡ ys → map h (canon A.order A.merge xs) ≡ canon B.order B.merge ys
  canon-by xs k = map-canon xs ∙ ap (canon B.order B.merge) k

  map-leaf : (o : Assumptions) (c : ℕ) (g : NewAtom) → map h (leaf A o c g) ≡ leaf B o c g
  unfolding leaf
  map-leaf o c g = step (o.falses c) (o.trues c)
    where
      step : (a b : Bool) → map h (cond a [] (A.present c g ∷ []) ++ cond b [] (A.absent c g ∷ [])) ≡ cond a [] (B.present c g ∷ []) ++ cond b [] (B.absent c g ∷ [])
      step true true = refl
      step true false = ap {B = List Y} (λ y. y ∷ []) (M.absent c g)
      step false true = ap {B = List Y} (λ y. y ∷ []) (M.present c g)
      step false false = ap₂ {C = List Y} (λ y z. y ∷ z ∷ []) (M.present c g) (M.absent c g)

  pub map_each : (f : X → X) (g : Y → Y) → ((x : X) → h (f x) ≡ g (h x)) → (l : List X) → map h (map f l) ≡ map g (map h l)
  map_each f g k [] = refl
  map_each f g k (x ∷ xs) = ap₂ {C = List Y} (λ y l. y ∷ l) (k x) (map_each f g k xs)

  -- each operation on tables
  pub tables-map : (o : Assumptions) → Homomorphism (tables A o) (tables B o) (map h)
  unfolding tables
  tables-map o = record {
    atom_op = λ c g. canon-by (leaf A o c g) (map-leaf o c g);
    rule_op = λ g. ap {B = List Y} (λ y. y ∷ []) (M.unmet g);
    union_op = λ s t. canon-by (products A.united s t) (sym (products-map h h B.united A.united h s t (λ x y m n. sym (M.united x y))));
    relabel_op = λ i j t. canon-by (map (A.relabelled i j) t) (map_each (A.relabelled i j) (B.relabelled i j) (M.relabelled i j) t);
    connect_op = λ k i j t. canon-by (map (A.connected k i j) t) (map_each (A.connected k i j) (B.connected k i j) (M.connected k i j) t);
  }

  -- the table of an expression
  pub table-map : (o : Assumptions) (e : Expr) → map h (table A o e) ≡ table B o e
  unfolding table
  table-map o e = fold-map (tables-map o) e

-- ---- triples as pairs without subsets

abbrev pub single : ℕ → Pair
single q = q ∷ []

single-order : (x y : ℕ) → compare_lists (single x) (single y) ≡ compare_numbers x y
unfolding compare_lists
single-order x y = step (compare_numbers x y)
  where
    step : (o : Ordering) → ordering_then o Equal ≡ o
    step Less = refl
    step Equal = refl
    step Greater = refl

pub single-morphism : (K : ℕ) → Morphism (triples K) (flat K) single
unfolding triples flat unite_pairs map_pair set_of canon insert_all products
single-morphism K = record {
  present = λ c g. refl;
  absent = λ c g. refl;
  unmet = λ g. refl;
  united = λ x y. refl;
  relabelled = λ i j x. refl;
  connected = λ k i j x. refl;
  order = single-order;
  merge = λ x y. refl;
}
