-- First values as 64-bit words keep them: of at most 63 atoms no sum wraps, so the tables are those of the first values. Assumes nothing.
use mathlib.Core.Path.{◌≡◌, refl, sym, ap, ap₂, ◌∙◌}
use mathlib.Core.Bool.{Bool, true, false, cond}
use mathlib.Core.List.{List, [], ◌∷◌, ◌++◌, map, map-id, Memᴰ}
use Prim.Native.Nat.{ℕ, ◌+◌, ◌^◌, ◌≤◌, ◌<◌}
use native.Mathlib.Nat.{mod-eq_of_lt, lt_of_lt_of_le}
use native.Mathlib.Omega.{arith}
use lib.Pow.{pow_mono}
use Rattle.std.specs.declared.cmp.Ordering.{Ordering}
use Rattle.std.specs.declared.cmp.Ordering.TheVariants.{Less, Equal, Greater}
use Rattle.lists.specs.Lists.{All, products, run}
use Rattle.lists.specs.Sorted.{by_order, insert, insert_all, canon}
use Rattle.lists.proofs.Members.{all-at, all_of, all_map, products-is, products-map}
use Rattle.expression.specs.Limits.{atom_limit}
use Rattle.semantics.specs.Expressions.{Expr, atom, rule, union, relabel, connect, fold}
use Rattle.semantics.specs.Programs.{numbers}
use Rattle.semantics.specs.AnswerSets.{Assumptions}
use Rattle.tables.specs.Algebras.{Algebra, leaf, tables, table}
use Rattle.values.specs.Values.{Valued, valued, value_of}
use Rattle.values.specs.First.{least_by, first_weight, firsts, first_words}
use Rattle.values.proofs.Items.{value-append}
use Rattle.values.proofs.First.{least-semiring, value-lt}

-- ---- what merging keeps

module _ {X : Type 0} (cmp : X → X → Ordering) (merge : X → X → X) (P : X → Type 0) (merged : (x y : X) → P x → P y → P (merge x y)) where
  all_insert : (x : X) (xs : List X) → P x → All P xs → All P (insert cmp merge x xs)
  unfolding insert
  all_insert x [] h k = (h, tt)
  all_insert x (y ∷ ys) h k = step (cmp x y) (all_insert x ys h k.1)
    where
      step : (o : Ordering) → All P (insert cmp merge x ys) → All P (by_order o (x ∷ y ∷ ys) (merge x y ∷ ys) (y ∷ insert cmp merge x ys))
      step Less r = (h, k)
      step Equal r = (merged x y h k.0, k.1)
      step Greater r = (k.0, r)

  all-insert_all : (xs acc : List X) → All P xs → All P acc → All P (insert_all cmp merge xs acc)
  unfolding insert_all
  all-insert_all [] acc h k = k
  all-insert_all (x ∷ xs) acc h k = all-insert_all xs (insert cmp merge x acc) h.1 (all_insert x acc h.0 k)

  all-canon : (xs : List X) → All P xs → All P (canon cmp merge xs)
  unfolding canon
  all-canon xs h = all-insert_all xs [] h tt

-- ---- no value of a table exceeds that of all its atoms

-- the value of the interpretation that has every atom
weight : List ℕ → ℕ
weight xs = value_of firsts xs (λ c. true)

weight-append : (xs ys : List ℕ) → weight (xs ++ ys) ≡ weight xs + weight ys
unfolding weight firsts least_by
weight-append xs ys = value-append (least_by first_weight) (least-semiring first_weight) xs ys (λ c. true)

module _ {X : Type 0} (A : Algebra X) (o : Assumptions) where
  abbrev Entry : Type 0
  Entry = Valued X ℕ

  abbrev exact : Algebra Entry
  exact = valued A firsts

  abbrev wrapping : Algebra Entry
  wrapping = valued A first_words

  abbrev AtMost : ℕ → Entry → Type 0
  AtMost b x = x.value ≤ b

  canon-at-most : (b : ℕ) (xs : List Entry) → All (AtMost b) xs → All (AtMost b) (canon exact.order exact.merge xs)
  canon-at-most b xs h = all-canon exact.order exact.merge (AtMost b) (λ x y k l. unfold valued firsts least_by in (omega arith)) xs h

  united-at-most : (a b : ℕ) (s t : List Entry) → All (AtMost a) s → All (AtMost b) t → All (AtMost (a + b)) (products exact.united s t)
  united-at-most a b s t h k = all_of (AtMost (a + b)) (products exact.united s t) (λ z m.
      let (x, y, mx, my, q) = products-is exact.united s t m in
      unfold valued firsts least_by in (omega (arith, all-at (AtMost a) s h mx, all-at (AtMost b) t k my, ap (λ (w : Entry). w.value) q)))

  at_most : (e : Expr) → All (AtMost (weight (numbers e))) (table exact o e)
  unfolding table tables fold numbers leaf
  at_most (atom c g) = canon-at-most (weight (c ∷ [])) (leaf exact o c g) (step (o.falses c) (o.trues c))
    where
      present : (exact.present c g).value ≤ weight (c ∷ [])
      present = unfold weight value_of valued firsts least_by in (omega arith)

      absent : (exact.absent c g).value ≤ weight (c ∷ [])
      absent = unfold weight value_of valued firsts least_by in (omega arith)

      step : (a b : Bool) → All (AtMost (weight (c ∷ []))) (cond a [] (exact.present c g ∷ []) ++ cond b [] (exact.absent c g ∷ []))
      step true true = tt
      step true false = (absent, tt)
      step false true = (present, tt)
      step false false = (present, (absent, tt))
  at_most (rule g) = (unfold weight value_of valued firsts least_by in (omega arith), tt)
  at_most (union e f) = canon-at-most (weight (numbers e ++ numbers f)) (products exact.united (table exact o e) (table exact o f))
      (rw (weight-append (numbers e) (numbers f)) (united-at-most (weight (numbers e)) (weight (numbers f)) (table exact o e) (table exact o f) (at_most e) (at_most f)))
  at_most (relabel i j e) = canon-at-most (weight (numbers e)) (map (exact.relabelled i j) (table exact o e))
      (all_map (AtMost (weight (numbers e))) (AtMost (weight (numbers e))) (exact.relabelled i j) (λ x h. unfold valued in h) (table exact o e) (at_most e))
  at_most (connect k i j e) = canon-at-most (weight (numbers e)) (map (exact.connected k i j) (table exact o e))
      (all_map (AtMost (weight (numbers e))) (AtMost (weight (numbers e))) (exact.connected k i j) (λ x h. unfold valued in h) (table exact o e) (at_most e))

  -- ---- so no sum wraps

  products-ext : (f g : Entry → Entry → Entry) (s t : List Entry) → ((x y : Entry) → Memᴰ x s → Memᴰ y t → f x y ≡ g x y) → products f s t ≡ products g s t
  products-ext f g s t h =
      ap₂ (products f) (sym (map-id s)) (sym (map-id t)) ∙ products-map (λ x. x) (λ x. x) f g (λ x. x) s t h ∙ map-id (products g s t)

  united-same : (x y : Entry) → x.value + y.value < 2 ^ 64 → wrapping.united x y ≡ exact.united x y
  unfolding valued firsts least_by
  united-same x y h = λ i. record { item = A.united x.item y.item; value = mod-eq_of_lt h i }

  canon-same : (xs : List Entry) {ys : List Entry} → xs ≡ ys → canon wrapping.order wrapping.merge xs ≡ canon exact.order exact.merge ys
  unfolding valued firsts least_by
  canon-same xs q = ap (canon exact.order exact.merge) q

  table_same : (e : Expr) → weight (numbers e) < 2 ^ 64 → table wrapping o e ≡ table exact o e
  unfolding table tables fold numbers valued
  table_same (atom c g) h = canon-same (leaf wrapping o c g) (unfold leaf firsts least_by in refl)
  table_same (rule g) h = unfold firsts least_by in refl
  table_same (union e f) h =
      let w = weight-append (numbers e) (numbers f) in
      canon-same (products wrapping.united (table wrapping o e) (table wrapping o f))
      (ap₂ (products wrapping.united) (table_same e (omega (arith, w))) (table_same f (omega (arith, w)))
      ∙ products-ext wrapping.united exact.united (table exact o e) (table exact o f) (λ x y m n. united-same x y
      (omega (arith, w, all-at (AtMost (weight (numbers e))) (table exact o e) (at_most e) m, all-at (AtMost (weight (numbers f))) (table exact o f) (at_most f) n))))
  table_same (relabel i j e) h = canon-same (map (wrapping.relabelled i j) (table wrapping o e)) (ap (map (exact.relabelled i j)) (table_same e h))
  table_same (connect k i j e) h = canon-same (map (wrapping.connected k i j) (table wrapping o e)) (ap (map (exact.connected k i j)) (table_same e h))

-- THE TABLE that 64-bit words keep is the table with first values
pub words-table : {X : Type 0} (A : Algebra X) (o : Assumptions) (e : Expr) (lo n : ℕ) → numbers e ≡ run lo n → lo + n ≤ atom_limit
    → table (valued A first_words) o e ≡ table (valued A firsts) o e
unfolding weight
words-table A o e lo n q h = table_same A o e (rw q (lt_of_lt_of_le (value-lt lo n (λ c. true) h) (pow_mono {j = 64} (omega arith))))
