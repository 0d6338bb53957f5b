-- A link given again changes nothing (01, "The sheet"): where every rule of label j has every atom of label i in the set that a connect names, that connect
-- leaves the same models and the same answer sets. It is so after that connect, and stays so after any others. Assumes nothing.
use mathlib.Core.Path.{◌≡◌, refl, sym, ap, ap₂, ◌∙◌}
use mathlib.Core.Logic.{◌↔◌}
use mathlib.Core.Bool.{Bool, true, false, cond, not, ◌&&◌, ◌||◌}
use mathlib.Core.List.Memᴰ
use mathlib.Core.List.{List, [], ◌∷◌, ◌++◌, map, Memᴰ}
use Prim.Native.Nat.{ℕ}
use lib.Dec.{eqb}
use borrow.Author.Tests.{eqb-true, eqb-false}
use Rattle.lists.specs.Lists.{All, some, every}
use Rattle.lists.proofs.Members.{some_of, some_is, some-append, all-at, all_of, all_map}
use Rattle.expression.specs.declared.Kind.{Kind}
use Rattle.expression.specs.declared.Kind.TheVariants.{Head, Positive, Negative}
use Rattle.semantics.specs.Expressions.{Expr, connect, link, trees}
use Rattle.semantics.specs.Programs.{Rule, atoms, labelled, extend, connect_rule, rules, numbers, externals}
use Rattle.semantics.specs.AnswerSets.{Interpretation, Model, AnswerSet, satisfies, strip, reduct}

-- ---- rules whose sets have the same members

record Alike (r s : Rule) : Type 0 where
  head : (f : ℕ → Bool) → some f r.head ≡ some f s.head
  positive : (f : ℕ → Bool) → some f r.positive ≡ some f s.positive
  negative : (f : ℕ → Bool) → some f r.negative ≡ some f s.negative

alike-satisfies : {r s : Rule} (p : Interpretation) → Alike r s → satisfies p r ≡ satisfies p s
unfolding satisfies
alike-satisfies p h = ap₂ ◌||◌ (ap₂ ◌||◌ (h.positive (λ c. not (p c))) (h.negative p)) (h.head p)

alike-strip : {r s : Rule} → Alike r s → Alike (strip r) (strip s)
unfolding strip
alike-strip h = record { head = h.head; positive = h.positive; negative = λ f. refl }

module _ (g : Rule → Rule) where
  alike-model : (p : Interpretation) (rs : List Rule) → All (λ r. Alike (g r) r) rs → every (satisfies p) (map g rs) ≡ every (satisfies p) rs
  unfolding every
  alike-model p [] h = refl
  alike-model p (r ∷ rs) h = ap₂ ◌&&◌ (alike-satisfies p h.0) (alike-model p rs h.1)

  alike-reduct : (p q : Interpretation) (rs : List Rule) → All (λ r. Alike (g r) r) rs → every (satisfies q) (reduct p (map g rs)) ≡ every (satisfies q) (reduct p rs)
  unfolding every reduct
  alike-reduct p q [] h = refl
  alike-reduct p q (r ∷ rs) h =
      ap (λ b. every (satisfies q) (cond b (reduct p (map g rs)) (strip (g r) ∷ reduct p (map g rs)))) (h.0.negative p)
      ∙ step (some p r.negative) (alike-reduct p q rs h.1)
    where
      step : (b : Bool) → every (satisfies q) (reduct p (map g rs)) ≡ every (satisfies q) (reduct p rs)
          → every (satisfies q) (cond b (reduct p (map g rs)) (strip (g r) ∷ reduct p (map g rs))) ≡ every (satisfies q) (cond b (reduct p rs) (strip r ∷ reduct p rs))
      step true k = k
      step false k = ap₂ ◌&&◌ (alike-satisfies q (alike-strip h.0)) k

-- ---- atoms that a rule has already

abbrev pub Has : List ℕ → List ℕ → Type 0
Has cs xs = (c : ℕ) → Memᴰ c cs → Memᴰ c xs

some-again : (f : ℕ → Bool) (cs xs : List ℕ) → Has cs xs → some f (cs ++ xs) ≡ some f xs
some-again f cs xs h = some-append f cs xs ∙ step (some f cs) refl
  where
    step : (b : Bool) → some f cs ≡ b → (b || some f xs) ≡ some f xs
    step true e = let r = some_is f cs e in sym (some_of f xs (h r.0 r.1) r.2)
    step false e = refl

-- the set that a connect of kind k adds to
abbrev pub atoms_in : Kind → Rule → List ℕ
atoms_in Head r = r.head
atoms_in Positive r = r.positive
atoms_in Negative r = r.negative

extend-again : (k : Kind) (cs : List ℕ) (r : Rule) → Has cs (atoms_in k r) → Alike (extend k cs r) r
unfolding extend
extend-again Head cs r h = record { head = λ f. some-again f cs r.head h; positive = λ f. refl; negative = λ f. refl }
extend-again Positive cs r h = record { head = λ f. refl; positive = λ f. some-again f cs r.positive h; negative = λ f. refl }
extend-again Negative cs r h = record { head = λ f. refl; positive = λ f. refl; negative = λ f. some-again f cs r.negative h }

extend-new : (k : Kind) (cs : List ℕ) (r : Rule) → Has cs (atoms_in k (extend k cs r))
unfolding extend
extend-new Head cs r c m = Memᴰ.append_left r.head m
extend-new Positive cs r c m = Memᴰ.append_left r.positive m
extend-new Negative cs r c m = Memᴰ.append_left r.negative m

extend-old : (k l : Kind) (ds : List ℕ) (r : Rule) → Has (atoms_in k r) (atoms_in k (extend l ds r))
unfolding extend
extend-old Head Head ds r c m = Memᴰ.append_right ds m
extend-old Head Positive ds r c m = m
extend-old Head Negative ds r c m = m
extend-old Positive Head ds r c m = m
extend-old Positive Positive ds r c m = Memᴰ.append_right ds m
extend-old Positive Negative ds r c m = m
extend-old Negative Head ds r c m = m
extend-old Negative Positive ds r c m = m
extend-old Negative Negative ds r c m = Memᴰ.append_right ds m

pub extend-label : (k : Kind) (cs : List ℕ) (r : Rule) → (extend k cs r).label ≡ r.label
unfolding extend
extend-label Head cs r = refl
extend-label Positive cs r = refl
extend-label Negative cs r = refl

-- ---- expressions

-- every rule of label j has every atom of label i in that set
abbrev pub Linked : Kind → ℕ → ℕ → Expr → Type 0
Linked k i j e = All (λ r. r.label ≡ j → Has (labelled i (atoms e)) (atoms_in k r)) (rules e)

module _ (k : Kind) (i j : ℕ) where
  pub linked-new : (e : Expr) → Linked k i j (connect k i j e)
  unfolding rules atoms connect_rule
  linked-new e = all_map (λ r. Unit {0}) _ (connect_rule k j (labelled i (atoms e))) (λ r u. step r (eqb r.label j) refl) (rules e) (all_of _ (rules e) (λ r m. tt))
    where
      step : (r : Rule) (b : Bool) → eqb r.label j ≡ b → (cond b (extend k (labelled i (atoms e)) r) r).label ≡ j → Has (labelled i (atoms e)) (atoms_in k (cond b (extend k (labelled i (atoms e)) r) r))
      step r true h l = extend-new k (labelled i (atoms e)) r
      step r false h l = absurd (eqb-false r.label j h l)

  pub linked-more : (l : Kind) (i' j' : ℕ) (e : Expr) → Linked k i j e → Linked k i j (connect l i' j' e)
  unfolding rules atoms connect_rule
  linked-more l i' j' e h = all_map _ _ (connect_rule l j' (labelled i' (atoms e))) (λ r. step r (eqb r.label j')) (rules e) h
    where
      step : (r : Rule) (b : Bool) → (r.label ≡ j → Has (labelled i (atoms e)) (atoms_in k r)) → (cond b (extend l (labelled i' (atoms e)) r) r).label ≡ j
          → Has (labelled i (atoms e)) (atoms_in k (cond b (extend l (labelled i' (atoms e)) r) r))
      step r true g q c m = extend-old k l (labelled i' (atoms e)) r c (g (sym (extend-label l (labelled i' (atoms e)) r) ∙ q) c m)
      step r false g q c m = g q c m

  module _ (e : Expr) (linked : Linked k i j e) where
    alike : All (λ r. Alike (connect_rule k j (labelled i (atoms e)) r) r) (rules e)
    unfolding connect_rule
    alike = all_of _ (rules e) (λ r m. step r (eqb r.label j) refl (all-at _ (rules e) linked m))
      where
        step : (r : Rule) (b : Bool) → eqb r.label j ≡ b → (r.label ≡ j → Has (labelled i (atoms e)) (atoms_in k r)) → Alike (cond b (extend k (labelled i (atoms e)) r) r) r
        step r true h g = extend-again k (labelled i (atoms e)) r (g (eqb-true r.label j h))
        step r false h g = record { head = λ f. refl; positive = λ f. refl; negative = λ f. refl }

    -- the same models, and the same answer sets
    pub model-again : (p : Interpretation) → Model (connect k i j e) p ↔ Model e p
    unfolding rules
    model-again p =
        let h = alike-model (connect_rule k j (labelled i (atoms e))) p (rules e) alike in
        (λ m. record { model = sym h ∙ m.model }, λ m. record { model = h ∙ m.model })

    pub answer_set-again : (p : Interpretation) → AnswerSet (connect k i j e) p ↔ AnswerSet e p
    unfolding rules numbers externals
    answer_set-again p =
        let h = alike-model (connect_rule k j (labelled i (atoms e))) p (rules e) alike in (
          λ m. record { model = sym h ∙ m.model; minimal = λ q s. sym (alike-reduct (connect_rule k j (labelled i (atoms e))) p q (rules e) alike) ∙ m.minimal q s },
          λ m. record { model = h ∙ m.model; minimal = λ q s. alike-reduct (connect_rule k j (labelled i (atoms e))) p q (rules e) alike ∙ m.minimal q s },
        )

-- a link given twice (02, Item 11: both ways)
module _ (k : Kind) (i j : ℕ) (e : Expr) where
  abbrev once : Expr
  once = link trees k i j e

  forth : Linked k i j once
  unfolding trees
  forth = linked-more k i j k j i (connect k i j e) (linked-new k i j e)

  back : Linked k j i (connect k i j once)
  unfolding trees
  back = linked-more k j i k i j once (linked-new k j i (connect k i j e))

  pub model-twice : (p : Interpretation) → Model (link trees k i j once) p ↔ Model once p
  unfolding trees
  model-twice p =
      let a = model-again k j i (connect k i j once) back p in
      let b = model-again k i j once forth p in
      (λ m. b.0 (a.0 m), λ m. a.1 (b.1 m))

  pub answer_set-twice : (p : Interpretation) → AnswerSet (link trees k i j once) p ↔ AnswerSet once p
  unfolding trees
  answer_set-twice p =
      let a = answer_set-again k j i (connect k i j once) back p in
      let b = answer_set-again k i j once forth p in
      (λ m. b.0 (a.0 m), λ m. a.1 (b.1 m))
