-- Any sum over a table with values is the sum over the interpretations that obey the assumptions; so the value at an entry is the sum over the
-- interpretations that give it. Assumes nothing.
use mathlib.Core.Path.{◌≡◌, refl, sym, ap, ap₂, ◌∙◌, fun_ext}
use mathlib.Core.Logic.{◌⊎◌, inl, inr}
use mathlib.Core.List.Memᴰ
use mathlib.Core.List.{List, [], ◌∷◌, ◌++◌, map, Memᴰ}
use Prim.Native.Nat.{ℕ}
use native.Mathlib.Omega.{arith}
use Rattle.std.specs.declared.cmp.Ordering.{Ordering}
use Rattle.std.specs.declared.cmp.Ordering.TheVariants.{Less, Equal, Greater}
use Rattle.lists.specs.Lists.{All, products}
use Rattle.lists.specs.Sorted.{by_order, insert, insert_all, canon, Rising}
use Rattle.lists.proofs.Members.{all-at}
use Rattle.lists.proofs.Comparisons.{Lawful}
use Rattle.semantics.specs.Expressions.{Expr, atom, rule, union, relabel, connect, fold}
use Rattle.semantics.specs.Programs.{numbers}
use Rattle.semantics.specs.AnswerSets.{Assumptions, all_obeying, of_list}
use Rattle.semantics.proofs.Interpretations.{Distinct}
use Rattle.tables.specs.Algebras.{Algebra, entry, leaf, tables, table}
use Rattle.tables.proofs.Entries.{table-rising}
use Rattle.values.specs.Values.{Values, Valued, valued, Total, none, worth, add, multiply, sum_by, sum_over}
use Rattle.values.proofs.Semirings.{Semiring, add_assoc, add_turn, multiply-together, multiply-either, multiply-add, multiply-unit, none-add, add_none, multiply-none}
use Rattle.values.proofs.Items.{items, items-table, entry-valued, lists, lists-entries}

module _ {X W : Type 0} (A : Algebra X) (O : Lawful A.order A.merge) (R : Values W) (L : Semiring R) where
  abbrev Entry : Type 0
  Entry = Valued X W

  abbrev A' : Algebra Entry
  A' = valued A R

  -- one entry's part of a sum
  abbrev term : (X → Total W) → Entry → Total W
  term φ x = multiply R (worth x.value) (φ x.item)

  -- ---- a sum over what the operations make

  sum-insert : (φ : X → Total W) (x : Entry) (l : List Entry) → sum_by R φ (insert A'.order A'.merge x l) ≡ add R (term φ x) (sum_by R φ l)
  unfolding insert sum_by valued
  sum-insert φ x [] = refl
  sum-insert φ x (y ∷ ys) = step (A.order x.item y.item) refl (sum-insert φ x ys)
    where
      S : Total W
      S = sum_by R φ ys

      merged : x.item ≡ y.item → add R (term φ (A'.merge x y)) S ≡ add R (term φ x) (add R (term φ y) S)
      merged e =
          ap (λ z. add R z S) (multiply-either L x.value y.value (φ y.item))
          ∙ add_assoc L (multiply R (worth x.value) (φ y.item)) (term φ y) S
          ∙ ap (λ z. add R (multiply R (worth x.value) (φ z)) (add R (term φ y) S)) (sym e)

      step : (o : Ordering) → A.order x.item y.item ≡ o → sum_by R φ (insert A'.order A'.merge x ys) ≡ add R (term φ x) S
          → sum_by R φ (by_order o (x ∷ y ∷ ys) (A'.merge x y ∷ ys) (y ∷ insert A'.order A'.merge x ys)) ≡ add R (term φ x) (add R (term φ y) S)
      step Less e h = refl
      step Equal e h = merged (O.same x.item y.item e)
      step Greater e h = ap (add R (term φ y)) h ∙ add_turn L (term φ y) (term φ x) S

  sum-insert_all : (φ : X → Total W) (xs acc : List Entry) → sum_by R φ (insert_all A'.order A'.merge xs acc) ≡ add R (sum_by R φ xs) (sum_by R φ acc)
  unfolding insert_all sum_by
  sum-insert_all φ [] acc = sym (none-add R (sum_by R φ acc))
  sum-insert_all φ (x ∷ xs) acc =
      sum-insert_all φ xs (insert A'.order A'.merge x acc) ∙ ap (add R (sum_by R φ xs)) (sum-insert φ x acc)
      ∙ add_turn L (sum_by R φ xs) (term φ x) (sum_by R φ acc) ∙ sym (add_assoc L (term φ x) (sum_by R φ xs) (sum_by R φ acc))

  sum-canon : (φ : X → Total W) (xs : List Entry) → sum_by R φ (canon A'.order A'.merge xs) ≡ sum_by R φ xs
  unfolding canon
  sum-canon φ xs = sum-insert_all φ xs [] ∙ (unfold sum_by in (add_none R (sum_by R φ xs)))

  sum-append : (φ : X → Total W) (s t : List Entry) → sum_by R φ (s ++ t) ≡ add R (sum_by R φ s) (sum_by R φ t)
  unfolding sum_by
  sum-append φ [] t = sym (none-add R (sum_by R φ t))
  sum-append φ (x ∷ s) t = ap (add R (term φ x)) (sum-append φ s t) ∙ sym (add_assoc L (term φ x) (sum_by R φ s) (sum_by R φ t))

  sum-map : (φ ψ : X → Total W) (f : Entry → Entry) → ((x : Entry) → term φ (f x) ≡ term ψ x) → (l : List Entry) → sum_by R φ (map f l) ≡ sum_by R ψ l
  unfolding sum_by
  sum-map φ ψ f h [] = refl
  sum-map φ ψ f h (x ∷ xs) = ap₂ (add R) (h x) (sum-map φ ψ f h xs)

  sum_row : (φ : X → Total W) (x : Entry) (t : List Entry) → sum_by R φ (map (A'.united x) t) ≡ multiply R (worth x.value) (sum_by R (λ y. φ (A.united x.item y)) t)
  unfolding sum_by valued
  sum_row φ x [] = sym (multiply-none R (worth x.value))
  sum_row φ x (y ∷ t) =
      ap₂ (add R) (multiply-together L x.value y.value (φ (A.united x.item y.item))) (sum_row φ x t)
      ∙ sym (multiply-add L (worth x.value) (multiply R (worth y.value) (φ (A.united x.item y.item))) (sum_by R (λ z. φ (A.united x.item z)) t))

  sum-products : (φ : X → Total W) (s t : List Entry) → sum_by R φ (products A'.united s t) ≡ sum_by R (λ x. sum_by R (λ y. φ (A.united x y)) t) s
  unfolding sum_by products
  sum-products φ [] t = refl
  sum-products φ (x ∷ s) t = sum-append φ (map (A'.united x) t) (products A'.united s t) ∙ ap₂ (add R) (sum_row φ x t) (sum-products φ s t)

  -- ---- merging leaves every sum as it is

  sum-table : (o : Assumptions) (e : Expr) (φ : X → Total W) → sum_by R φ (table A' o e) ≡ sum_by R φ (fold (lists A' o) e)
  unfolding table tables lists fold
  sum-table o (atom c g) φ = sum-canon φ (leaf A' o c g)
  sum-table o (rule g) φ = refl
  sum-table o (union e f) φ =
      sum-canon φ (products A'.united (table A' o e) (table A' o f))
      ∙ sum-products φ (table A' o e) (table A' o f)
      ∙ sum-table o e (λ x. sum_by R (λ y. φ (A.united x y)) (table A' o f))
      ∙ ap (λ ψ. sum_by R ψ (fold (lists A' o) e)) (fun_ext (λ x. sum-table o f (λ y. φ (A.united x y))))
      ∙ sym (sum-products φ (fold (lists A' o) e) (fold (lists A' o) f))
  sum-table o (relabel i j e) φ =
      sum-canon φ (map (A'.relabelled i j) (table A' o e)) ∙ moved (table A' o e) ∙ sum-table o e (λ x. φ (A.relabelled i j x)) ∙ sym (moved (fold (lists A' o) e))
    where
      moved : (l : List Entry) → sum_by R φ (map (A'.relabelled i j) l) ≡ sum_by R (λ x. φ (A.relabelled i j x)) l
      moved l = sum-map φ (λ x. φ (A.relabelled i j x)) (A'.relabelled i j) (λ x. unfold valued in refl) l
  sum-table o (connect k i j e) φ =
      sum-canon φ (map (A'.connected k i j) (table A' o e)) ∙ linked (table A' o e) ∙ sum-table o e (λ x. φ (A.connected k i j x)) ∙ sym (linked (fold (lists A' o) e))
    where
      linked : (l : List Entry) → sum_by R φ (map (A'.connected k i j) l) ≡ sum_by R (λ x. φ (A.connected k i j x)) l
      linked l = sum-map φ (λ x. φ (A.connected k i j x)) (A'.connected k i j) (λ x. unfold valued in refl) l

  sum-entries : (φ : X → Total W) (e : Expr) (ls : List (List ℕ)) → sum_by R φ (map (λ l. entry A' e (of_list l)) ls) ≡ sum_over R A φ e ls
  unfolding sum_by sum_over
  sum-entries φ e [] = refl
  sum-entries φ e (l ∷ ls) = ap₂ (add R) (ap (term φ) (entry-valued A R L e (of_list l))) (sum-entries φ e ls)

  -- THE SUM over a table with values is the sum over the interpretations
  pub table-sum : (o : Assumptions) (e : Expr) → Distinct e → (φ : X → Total W) → sum_by R φ (table A' o e) ≡ sum_over R A φ e (all_obeying o (numbers e))
  table-sum o e d φ = sum-table o e φ ∙ ap (sum_by R φ) (lists-entries A' o e d) ∙ sum-entries φ e (all_obeying o (numbers e))

  -- ---- the value at an entry

  -- counts x alone
  unfoldable pub at : X → X → Total W
  at x y = by_order (A.order x y) none (worth R.unit) none

  at_other : {x y : X} → (A.order x y ≡ Equal → ⊥) → at x y ≡ none
  unfolding at
  at_other {x} {y} h = step (A.order x y) refl
    where
      step : (o : Ordering) → A.order x y ≡ o → by_order o none (worth R.unit) none ≡ none
      step Less e = refl
      step Equal e = absurd (h e)
      step Greater e = refl

  before : {x y : X} → A.order x y ≡ Less → (A.order x y ≡ Equal → ⊥) × (A.order y x ≡ Equal → ⊥)
  before {x} {y} h = (λ e. let z : ◌≡◌ {A = ℕ} 0 1 = cc in omega arith, λ e. let z : ◌≡◌ {A = ℕ} 0 1 = cc (O.self x, ap (A.order x) (O.same y x e)) in omega arith)

  others : (x : X) (l : List Entry) → All (λ y. A.order x y ≡ Less) (items l) → sum_by R (at x) l ≡ none
  unfolding sum_by
  others x [] h = refl
  others x (y ∷ l) h = ap₂ (add R) (ap (multiply R (worth y.value)) (at_other (before h.0).0) ∙ multiply-none R (worth y.value)) (others x l h.1) ∙ none-add R none

  own : {x : Entry} (l : List Entry) → Rising A.order (items l) → Memᴰ x l → sum_by R (at x.item) l ≡ worth x.value
  unfolding sum_by Rising
  own [] r m = absurd (Memᴰ.not-nil m)
  own {x} (y ∷ l) r m = step (λ n. own l r.1 n) (Memᴰ.cases_cons m)
    where
      self : (z : X) → at z z ≡ worth R.unit
      self z = unfold at in (rw (O.self z))

      head : add R (term (at y.item) y) (sum_by R (at y.item) l) ≡ worth y.value
      head = ap₂ (add R) (ap (multiply R (worth y.value)) (self y.item) ∙ multiply-unit L (worth y.value)) (others y.item l r.0) ∙ add_none R (worth y.value)

      step : (Memᴰ x l → sum_by R (at x.item) l ≡ worth x.value) → (x ≡ y) ⊎ Memᴰ x l → add R (term (at x.item) y) (sum_by R (at x.item) l) ≡ worth x.value
      step f (inl e) = rw e head
      step f (inr n) =
          let b = all-at (λ z. A.order y.item z ≡ Less) (items l) r.0 (Memᴰ.map (λ z. z.item) n) in
          ap₂ (add R) (ap (multiply R (worth y.value)) (at_other (before b).1) ∙ multiply-none R (worth y.value)) (f n) ∙ none-add R (worth x.value)

  -- THE VALUE at an entry is the sum over the interpretations that give it
  pub value-at : (o : Assumptions) (e : Expr) → Distinct e → (x : Entry) → Memᴰ x (table A' o e) → worth x.value ≡ sum_over R A (at x.item) e (all_obeying o (numbers e))
  value-at o e d x m =
      sym (own (table A' o e) (rw (items-table A R O.keeps o e) (table-rising A O o e)) m) ∙ table-sum o e d (at x.item)
