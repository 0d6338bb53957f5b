-- Tables over any algebra of entries: a table has exactly the entries of the interpretations that obey the assumptions, and at most one for each way to
-- choose the atoms that no assumption holds. Nothing of triples is used. Assumes nothing.
use mathlib.Core.Path.{◌≡◌, refl, sym, ap, ap₂, ◌∙◌}
use mathlib.Core.Logic.{⊎_elim}
use mathlib.Core.Bool.{Bool, true, false, cond, ◌||◌, true≢false}
use mathlib.Core.List.Memᴰ
use mathlib.Core.List.{List, [], ◌∷◌, ◌++◌, map, Memᴰ}
use Prim.Native.Nat.{ℕ, ◌^◌, ◌≤◌}
use native.Mathlib.Nat.{le_trans, le_of_eq, mul-le-mul}
use native.Mathlib.Omega.{arith}
use lib.Pow.{pow-add}
use lib.ListN.{length, length-append, length-map}
use Rattle.lists.specs.Lists.{products}
use Rattle.lists.specs.Sorted.{Rising, canon}
use Rattle.lists.proofs.Members.{products-of, products-is, length-products}
use Rattle.lists.proofs.Comparisons.{Lawful}
use Rattle.lists.proofs.Canon.{canon-of, canon-is, length-canon, rising-canon, rising-length, rising-unique}
use Rattle.semantics.specs.Expressions.{Expr, atom, rule, union, relabel, connect, fold}
use Rattle.semantics.specs.Programs.{numbers}
use Rattle.semantics.specs.AnswerSets.{Interpretation, Assumptions, Obeys, all_obeying, of_list}
use Rattle.semantics.proofs.Interpretations.{Agree, Distinct, combine, combine-left, combine-right, obeys-agree, obeys-left, obeys-right, obeys-both, obeys-none, obeys-one, free, free-append, obeying-of, obeying-obeys, keep-agrees}
use Rattle.tables.specs.Algebras.{Algebra, entries, entry, leaf, tables, table}

-- a list of one or none
unless-is : {X : Type 0} (b : Bool) {x y : X} → Memᴰ x (cond b [] (y ∷ [])) → (b ≡ false) × (x ≡ y)
unless-is true m = absurd (Memᴰ.not-nil m)
unless-is false m = (refl, Memᴰ.eq_of_singleton m)

unless-of : {X : Type 0} (b : Bool) {x : X} → (b ≡ true → ⊥) → Memᴰ x (cond b [] (x ∷ []))
unless-of true h = absurd (h refl)
unless-of false h = Memᴰ.head refl

-- ---- tables over any algebra

module _ {X : Type 0} (A : Algebra X) where
  -- an entry depends on the tree's own atoms alone
  pub entry-agree : (e : Expr) {p q : Interpretation} → Agree (numbers e) p q → entry A e p ≡ entry A e q
  unfolding entry numbers entries fold
  entry-agree (atom c g) a = ap (λ b. cond b (A.present c g) (A.absent c g)) (a c (Memᴰ.head refl))
  entry-agree (rule g) a = refl
  entry-agree (union e f) a = ap₂ A.united
      (entry-agree e (λ c m. a c (Memᴰ.append_left (numbers f) m))) (entry-agree f (λ c m. a c (Memᴰ.append_right (numbers e) m)))
  entry-agree (relabel i j e) a = ap (A.relabelled i j) (entry-agree e a)
  entry-agree (connect k i j e) a = ap (A.connected k i j) (entry-agree e a)

  -- each entry of the table is that of an interpretation that obeys
  pub record Made (o : Assumptions) (e : Expr) (x : X) : Type 0 where
    pub by : Interpretation
    pub obeys : Obeys o (numbers e) by
    pub is : entry A e by ≡ x

  -- a table has at most 2 to the power of the atoms that no assumption holds
  pub table-small : (o : Assumptions) (e : Expr) → length (table A o e) ≤ 2 ^ length (free o (numbers e))
  unfolding table free numbers tables leaf fold
  table-small o (atom c g) = le_trans (length-canon A.order A.merge _) (step (o.trues c) (o.falses c))
    where
      step : (a b : Bool) → length (cond b [] (A.present c g ∷ []) ++ cond a [] (A.absent c g ∷ [])) ≤ 2 ^ length (cond (a || b) [] (c ∷ []) ++ [])
      step true true = omega arith
      step true false = omega arith
      step false true = omega arith
      step false false = omega arith
  table-small o (rule g) = omega arith
  table-small o (union e f) =
      le_trans (length-canon A.order A.merge _) (le_trans (le_of_eq (length-products A.united (table A o e) (table A o f)))
      (le_trans (mul-le-mul (table-small o e) (table-small o f))
      (le_of_eq (sym (pow-add 2 (length (free o (numbers e))) (length (free o (numbers f)))) ∙ ap (λ n. 2 ^ n) (sym (ap length (free-append o (numbers e) (numbers f)) ∙ length-append (free o (numbers e)) (free o (numbers f))))))))
  table-small o (relabel i j e) = le_trans (length-canon A.order A.merge _) (le_trans (le_of_eq (length-map (table A o e) (A.relabelled i j))) (table-small o e))
  table-small o (connect k i j e) = le_trans (length-canon A.order A.merge _) (le_trans (le_of_eq (length-map (table A o e) (A.connected k i j))) (table-small o e))

  module _ (L : Lawful A.order A.merge) where
    pub table_is : (o : Assumptions) (e : Expr) → Distinct e → {x : X} → Memᴰ x (table A o e) → Made o e x
    unfolding table entry numbers Distinct entries tables leaf fold
    table_is o (atom c g) d {x} m =
        ⊎_elim
        (λ n. let r = unless-is (o.falses c) n in
        record { by = λ b. true; obeys = obeys-one o c true (λ q. refl) (λ q. absurd (true≢false (sym q ∙ r.0))); is = sym r.1 })
        (λ n. let r = unless-is (o.trues c) n in
        record { by = λ b. false; obeys = obeys-one o c false (λ q. absurd (true≢false (sym q ∙ r.0))) (λ q. refl); is = sym r.1 })
        (Memᴰ.append_cases (cond (o.falses c) [] (A.present c g ∷ [])) (canon-is L _ m))
    table_is o (rule g) d m = record { by = λ c. true; obeys = obeys-none o (λ c. true); is = sym (Memᴰ.eq_of_singleton m) }
    table_is o (union e f) d {x} m =
        let r = products-is A.united (table A o e) (table A o f) (canon-is L (products A.united (table A o e) (table A o f)) m) in
        step r (table_is o e d.0 r.2) (table_is o f d.1 r.3)
      where
        step : (r : (y : X) × (z : X) × Memᴰ y (table A o e) × Memᴰ z (table A o f) × (A.united y z ≡ x))
            → Made o e r.0 → Made o f r.1 → Made o (union e f) x
        step r s t =
            let p : Interpretation = combine (numbers e) s.by t.by in
            let al : Agree (numbers e) p s.by = combine-left (numbers e) s.by t.by in
            let ar : Agree (numbers f) p t.by = combine-right (numbers e) s.by t.by d.2 in
            record {
              by = p;
              obeys = obeys-both o (numbers e) (obeys-agree o al s.obeys) (obeys-agree o ar t.obeys);
              is = ap₂ A.united (entry-agree e al ∙ s.is) (entry-agree f ar ∙ t.is) ∙ r.4;
            }
    table_is o (relabel i j e) d m =
        let r = Memᴰ.of_map (A.relabelled i j) (table A o e) (canon-is L (map (A.relabelled i j) (table A o e)) m) in
        let s = table_is o e d r.1 in
        record { by = s.by; obeys = s.obeys; is = ap (A.relabelled i j) s.is ∙ r.2 }
    table_is o (connect k i j e) d m =
        let r = Memᴰ.of_map (A.connected k i j) (table A o e) (canon-is L (map (A.connected k i j) (table A o e)) m) in
        let s = table_is o e d r.1 in
        record { by = s.by; obeys = s.obeys; is = ap (A.connected k i j) s.is ∙ r.2 }

    -- and the entry of each that obeys is in it
    pub table_of : (o : Assumptions) (e : Expr) {p : Interpretation} → Obeys o (numbers e) p → Memᴰ (entry A e p) (table A o e)
    unfolding table entry numbers entries tables leaf fold
    table_of o (atom c g) {p} h = canon-of L _ (step (p c) refl)
      where
        step : (b : Bool) → p c ≡ b → Memᴰ (cond b (A.present c g) (A.absent c g)) (cond (o.falses c) [] (A.present c g ∷ []) ++ cond (o.trues c) [] (A.absent c g ∷ []))
        step true e = Memᴰ.append_left _ (unless-of (o.falses c) (λ q. true≢false (sym e ∙ h.lacks-falses c (Memᴰ.head refl) q)))
        step false e = Memᴰ.append_right (cond (o.falses c) [] (A.present c g ∷ [])) (unless-of (o.trues c) (λ q. true≢false (sym (h.has-trues c (Memᴰ.head refl) q) ∙ e)))
    table_of o (rule g) h = Memᴰ.head refl
    table_of o (union e f) h =
        canon-of L (products A.united (table A o e) (table A o f))
        (products-of A.united (table A o e) (table A o f) (table_of o e (obeys-left o (numbers f) h)) (table_of o f (obeys-right o (numbers e) h)))
    table_of o (relabel i j e) h = canon-of L (map (A.relabelled i j) (table A o e)) (Memᴰ.map (A.relabelled i j) (table_of o e h))
    table_of o (connect k i j e) h = canon-of L (map (A.connected k i j) (table A o e)) (Memᴰ.map (A.connected k i j) (table_of o e h))

    pub table-rising : (o : Assumptions) (e : Expr) → Rising A.order (table A o e)
    unfolding table tables fold Rising
    table-rising o (atom c g) = rising-canon L _
    table-rising o (rule g) = (tt, tt)
    table-rising o (union e f) = rising-canon L _
    table-rising o (relabel i j e) = rising-canon L _
    table-rising o (connect k i j e) = rising-canon L _

    -- more assumptions leave a part of the table
    pub table-part : (o o' : Assumptions) (e : Expr) → Distinct e → ((p : Interpretation) → Obeys o' (numbers e) p → Obeys o (numbers e) p)
        → (x : X) → Memᴰ x (table A o' e) → Memᴰ x (table A o e)
    table-part o o' e d f x m = let r = table_is o' e d m in Memᴰ.cast (sym r.is) (table_of o e (f r.by r.obeys))

    pub table-part-length : (o o' : Assumptions) (e : Expr) → Distinct e → ((p : Interpretation) → Obeys o' (numbers e) p → Obeys o (numbers e) p)
        → length (table A o' e) ≤ length (table A o e)
    table-part-length o o' e d f = rising-length L (table A o' e) (table A o e) (table-rising o' e) (table-rising o e) (table-part o o' e d f)

    -- THE TABLE: the entries of the interpretations that obey the assumptions, as a set
    pub table-entries : (o : Assumptions) (e : Expr) → Distinct e
        → table A o e ≡ canon A.order A.merge (map (λ l. entry A e (of_list l)) (all_obeying o (numbers e)))
    table-entries o e d =
        rising-unique L (table A o e) (canon A.order A.merge (map f all)) (table-rising o e) (rising-canon L (map f all))
        (λ x m. let r = table_is o e d m in
        canon-of L (map f all) (Memᴰ.cast (sym r.is ∙ sym (entry-agree e (keep-agrees r.by (numbers e)))) (Memᴰ.map f (obeying-of o (numbers e) r.obeys))))
        (λ x m. let r = Memᴰ.of_map f all (canon-is L (map f all) m) in Memᴰ.cast (sym r.2) (table_of o e (obeying-obeys o (numbers e) r.0 r.1)))
      where
        all : List (List ℕ)
        all = all_obeying o (numbers e)

        f : List ℕ → X
        f l = entry A e (of_list l)
