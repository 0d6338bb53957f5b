-- The entries of a table with values are the table; the entry of an interpretation has its value; all interpretations' entries, listed. Assumes nothing.
use mathlib.Core.Path.{◌≡◌, refl, sym, ap, ap₂, ◌∙◌}
use mathlib.Core.Bool.{Bool, true, false, cond, ◌||◌, or-false}
use mathlib.Core.List.{List, [], ◌∷◌, ◌++◌, map, map-append, append-nil, Memᴰ}
use Prim.Native.Nat.{ℕ}
use lib.Dec.{eqb}
use borrow.Author.Tests.{eq-eqb}
use Rattle.lists.specs.Lists.{some, products}
use Rattle.lists.specs.Sorted.{canon}
use Rattle.lists.proofs.Members.{some-append, not_listed, products-map, products-append}
use Rattle.semantics.specs.Expressions.{Expr, atom, rule, union, relabel, connect, Operations, fold}
use Rattle.semantics.specs.Programs.{numbers}
use Rattle.semantics.specs.AnswerSets.{Interpretation, Assumptions, all_obeying, of_list}
use Rattle.semantics.proofs.Interpretations.{Agree, Apart, Distinct, obeying-in}
use Rattle.tables.specs.Algebras.{Algebra, entries, entry, leaf, table}
use Rattle.tables.proofs.Entries.{entry-agree}
use Rattle.tables.proofs.Morphisms.{Morphism, map-canon, table-map}
use Rattle.values.specs.Values.{Values, Valued, valued, value_of, low_words, lowered}
use Rattle.values.proofs.Semirings.{Semiring}

-- ---- the entries of a table with values are the table

abbrev pub items : {X W : Type 0} → List (Valued X W) → List X
items l = map (λ x. x.item) l

pub item-morphism : {X W : Type 0} (A : Algebra X) (R : Values W) → ((x y : X) → A.merge x y ≡ y) → Morphism (valued A R) A (λ x. x.item)
unfolding valued
item-morphism A R keeps = record {
  present = λ c g. refl;
  absent = λ c g. refl;
  unmet = λ g. refl;
  united = λ x y. refl;
  relabelled = λ i j x. refl;
  connected = λ k i j x. refl;
  order = λ x y. refl;
  merge = λ x y. sym (keeps x.item y.item);
}

module _ {X W : Type 0} (A : Algebra X) (R : Values W) (keeps : (x y : X) → A.merge x y ≡ y) where
  pub items-canon : (xs : List (Valued X W)) → items (canon (valued A R).order (valued A R).merge xs) ≡ canon A.order A.merge (items xs)
  items-canon xs = map-canon (item-morphism A R keeps) xs

  pub items-table : (o : Assumptions) (e : Expr) → items (table (valued A R) o e) ≡ table A o e
  items-table o e = table-map (item-morphism A R keeps) o e

-- the numbers in the low words of a table's values are the values of its table with numbers
pub low-morphism : {X : Type 0} (A : Algebra X) (R : Values ℕ) → Morphism (valued A (low_words R)) (valued A R) lowered
unfolding valued
low-morphism A R = record {
  present = λ c g. refl;
  absent = λ c g. refl;
  unmet = λ g. refl;
  united = λ x y. refl;
  relabelled = λ i j x. refl;
  connected = λ k i j x. refl;
  order = λ x y. refl;
  merge = λ x y. refl;
}

-- ---- the entry of an interpretation has the interpretation's value

module _ {W : Type 0} (R : Values W) (L : Semiring R) where
  pub value-append : (xs ys : List ℕ) (p : Interpretation) → value_of R (xs ++ ys) p ≡ R.together (value_of R xs p) (value_of R ys p)
  unfolding value_of
  value-append [] ys p = sym (L.unit-together (value_of R ys p))
  value-append (x ∷ xs) ys p =
      ap (R.together (cond (p x) (R.present x) (R.absent x))) (value-append xs ys p)
      ∙ sym (L.together-assoc (cond (p x) (R.present x) (R.absent x)) (value_of R xs p) (value_of R ys p))

module _ {X W : Type 0} (A : Algebra X) (R : Values W) (L : Semiring R) where
  pub entry-valued : (e : Expr) (p : Interpretation) → entry (valued A R) e p ≡ record { item = entry A e p; value = value_of R (numbers e) p }
  unfolding entry entries fold valued numbers value_of
  entry-valued (atom c g) p = step (p c)
    where
      step : (b : Bool) → cond b ((valued A R).present c g) ((valued A R).absent c g)
          ≡ record { item = cond b (A.present c g) (A.absent c g); value = R.together (cond b (R.present c) (R.absent c)) R.unit }
      step true = λ i. record { item = A.present c g; value = sym (L.together-unit (R.present c)) i }
      step false = λ i. record { item = A.absent c g; value = sym (L.together-unit (R.absent c)) i }
  entry-valued (rule g) p = refl
  entry-valued (union e f) p =
      ap₂ (valued A R).united (entry-valued e p) (entry-valued f p)
      ∙ (λ i. record { item = A.united (entry A e p) (entry A f p); value = sym (value-append R L (numbers e) (numbers f) p) i })
  entry-valued (relabel i j e) p = ap ((valued A R).relabelled i j) (entry-valued e p)
  entry-valued (connect k i j e) p = ap ((valued A R).connected k i j) (entry-valued e p)

-- ---- all interpretations' entries, none merged

module _ {X : Type 0} (A : Algebra X) where
  unfoldable pub lists : Assumptions → Operations (List X)
  lists o = record {
    atom_op = leaf A o;
    rule_op = λ g. A.unmet g ∷ [];
    union_op = products A.united;
    relabel_op = λ i j. map (A.relabelled i j);
    connect_op = λ k i j. map (A.connected k i j);
  }

cons-products : (c : ℕ) (ls ms : List (List ℕ)) → products ◌++◌ (map (λ l. c ∷ l) ls) ms ≡ map (λ l. c ∷ l) (products ◌++◌ ls ms)
unfolding products
cons-products c [] ms = refl
cons-products c (l ∷ ls) ms = ap₂ ◌++◌ (row ms) (cons-products c ls ms) ∙ sym (map-append (λ k. c ∷ k) (map (λ m. l ++ m) ms) (products ◌++◌ ls ms))
  where
    row : (rs : List (List ℕ)) → map (λ m. c ∷ l ++ m) rs ≡ map (λ k. c ∷ k) (map (λ m. l ++ m) rs)
    row [] = refl
    row (r ∷ rs) = ap {B = List (List ℕ)} (λ k. (c ∷ l ++ r) ∷ k) (row rs)

obeying-append : (o : Assumptions) (xs ys : List ℕ) → all_obeying o (xs ++ ys) ≡ products ◌++◌ (all_obeying o xs) (all_obeying o ys)
unfolding all_obeying products
obeying-append o [] ys = sym (append-nil (map (λ m. [] ++ m) (all_obeying o ys)) ∙ same (all_obeying o ys))
  where
    same : (l : List (List ℕ)) → map (λ m. m) l ≡ l
    same [] = refl
    same (m ∷ l) = ap {B = List (List ℕ)} (λ r. m ∷ r) (same l)
obeying-append o (c ∷ xs) ys = ap (λ l. cond (o.falses c) [] (map (λ k. c ∷ k) l) ++ cond (o.trues c) [] l) (obeying-append o xs ys) ∙ step (o.falses c) (o.trues c)
  where
    P : List (List ℕ)
    P = all_obeying o xs

    Q : List (List ℕ)
    Q = all_obeying o ys

    step : (a b : Bool) → cond a [] (map (λ k. c ∷ k) (products ◌++◌ P Q)) ++ cond b [] (products ◌++◌ P Q) ≡ products ◌++◌ (cond a [] (map (λ k. c ∷ k) P) ++ cond b [] P) Q
    step true true = refl
    step true false = refl
    step false true = append-nil _ ∙ sym (cons-products c P Q) ∙ ap (λ l. products ◌++◌ l Q) (sym (append-nil (map (λ k. c ∷ k) P)))
    step false false = ap (λ l. l ++ products ◌++◌ P Q) (sym (cons-products c P Q)) ∙ sym (products-append ◌++◌ (map (λ k. c ∷ k) P) P Q)

-- of two interpretations together, an operand sees its own
module _ (o : Assumptions) (xs ys : List ℕ) (a : Apart xs ys) (p q : List ℕ) where
  own-left : Memᴰ q (all_obeying o ys) → Agree xs (of_list (p ++ q)) (of_list p)
  unfolding of_list
  own-left m c k = some-append (eqb c) p q ∙ ap (λ b. some (eqb c) p || b) (not_listed c q (λ l. a c k (obeying-in o ys q m l).0)) ∙ or-false (some (eqb c) p)

  own-right : Memᴰ p (all_obeying o xs) → Agree ys (of_list (p ++ q)) (of_list q)
  unfolding of_list
  own-right m c k = some-append (eqb c) p q ∙ ap (λ b. b || some (eqb c) q) (not_listed c p (λ l. a c (obeying-in o xs p m l).0 k))

module _ {X : Type 0} (A : Algebra X) (o : Assumptions) where
  map-entries : (f : X → X) (g h : List ℕ → X) → ((l : List ℕ) → f (g l) ≡ h l) → (ls : List (List ℕ)) → map f (map g ls) ≡ map h ls
  map-entries f g h k [] = refl
  map-entries f g h k (l ∷ ls) = ap₂ {C = List X} (λ x r. x ∷ r) (k l) (map-entries f g h k ls)

  pub lists-entries : (e : Expr) → Distinct e → fold (lists A o) e ≡ map (λ l. entry A e (of_list l)) (all_obeying o (numbers e))
  unfolding lists fold numbers Distinct entry entries all_obeying leaf of_list some
  lists-entries (atom c g) d = step (o.falses c) (o.trues c)
    where
      with-c : A.present c g ≡ cond (eqb c c || false) (A.present c g) (A.absent c g)
      with-c = ap (λ b. cond (b || false) (A.present c g) (A.absent c g)) (sym (eq-eqb c c refl))

      step : (a b : Bool) → cond a [] (A.present c g ∷ []) ++ cond b [] (A.absent c g ∷ [])
          ≡ map (λ l. cond (of_list l c) (A.present c g) (A.absent c g)) (cond a [] ((c ∷ []) ∷ []) ++ cond b [] ([] ∷ []))
      step true true = refl
      step true false = refl
      step false true = ap {B = List X} (λ x. x ∷ []) with-c
      step false false = ap {B = List X} (λ x. x ∷ A.absent c g ∷ []) with-c
  lists-entries (rule g) d = refl
  lists-entries (union e f) d =
      ap₂ (products A.united) (lists-entries e d.0) (lists-entries f d.1)
      ∙ products-map (λ l. entry A e (of_list l)) (λ l. entry A f (of_list l)) A.united ◌++◌ (λ l. A.united (entry A e (of_list l)) (entry A f (of_list l)))
      (all_obeying o (numbers e)) (all_obeying o (numbers f))
      (λ p q m k. sym (ap₂ A.united (entry-agree A e (own-left o (numbers e) (numbers f) d.2 p q k)) (entry-agree A f (own-right o (numbers e) (numbers f) d.2 p q m))))
      ∙ ap (map (λ l. A.united (entry A e (of_list l)) (entry A f (of_list l)))) (sym (obeying-append o (numbers e) (numbers f)))
  lists-entries (relabel i j e) d =
      ap (map (A.relabelled i j)) (lists-entries e d)
      ∙ map-entries (A.relabelled i j) (λ l. entry A e (of_list l)) (λ l. A.relabelled i j (entry A e (of_list l))) (λ l. refl) (all_obeying o (numbers e))
  lists-entries (connect k i j e) d =
      ap (map (A.connected k i j)) (lists-entries e d)
      ∙ map-entries (A.connected k i j) (λ l. entry A e (of_list l)) (λ l. A.connected k i j (entry A e (of_list l))) (λ l. refl) (all_obeying o (numbers e))
