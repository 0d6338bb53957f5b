-- Trees of one program: the same atoms and rules. They have the same tables, since tables are exact, and the same answer sets. A half of a link that is without
-- effect leaves the program. Assumes nothing.
use mathlib.Core.Path.{◌≡◌, refl, sym, ap, ap₂, ◌∙◌, subst}
use mathlib.Core.Logic.{◌⊎◌, inl, inr, ◌↔◌}
use mathlib.Core.Bool.{Bool, true, false, cond}
use mathlib.Core.List.{List, [], ◌∷◌, map, Memᴰ}
use Prim.Native.Nat.{ℕ}
use lib.Dec.{eqb}
use borrow.Author.Tests.{ne_eqb}
use Rattle.lists.specs.Lists.{All, every}
use Rattle.lists.proofs.Members.{all_map}
use Rattle.lists.proofs.Comparisons.{numbers-lawful, lists-lawful}
use Rattle.lists.proofs.Canon.{rising-unique}
use Rattle.expression.specs.declared.Kind.{Kind}
use Rattle.expression.specs.declared.Kind.TheVariants.{Head, Positive, Negative}
use Rattle.semantics.specs.Expressions.{Expr, connect}
use Rattle.semantics.specs.Programs.{Atom, Rule, atoms, rules, numbers, externals, labelled, extend, connect_rule}
use Rattle.semantics.specs.AnswerSets.{Interpretation, Assumptions, Obeys, Smaller, AnswerSet, satisfies, reduct}
use Rattle.semantics.proofs.Again.{extend-label}
use Rattle.tables.specs.Algebras.{table}
use Rattle.tables.specs.Definitions.{Pair, own_triple, triples, pairs}
use Rattle.tables.specs.Exactness.{IsTriple, IsPair, ExactTables, some_in, some_out}
use Rattle.undirected.specs.Before.{NoRules, NoAtoms}

pub record Same (e f : Expr) : Type 0 where
  pub same-atoms : atoms e ≡ atoms f
  pub same-rules : rules e ≡ rules f
  pub same_numbers : numbers e ≡ numbers f
  pub same-externals : externals e ≡ externals f

pub turned : {e f : Expr} → Same e f → Same f e
turned s = record { same-atoms = sym s.same-atoms; same-rules = sym s.same-rules; same_numbers = sym s.same_numbers; same-externals = sym s.same-externals }

-- ---- tables

module _ (K : ℕ) {e f : Expr} (s : Same e f) where
  triple-for : {rs : List Rule} {q : Interpretation} {t : ℕ} → IsTriple K e rs q t → IsTriple K f rs q t
  triple-for {rs} {q} h = record {
    trues = λ g l. h.trues g l ∙ ap (λ (cs : List Atom). some_in g cs q) s.same-atoms;
    falses = λ g l. h.falses g l ∙ ap (λ (cs : List Atom). some_out g cs q) s.same-atoms;
    unmet = h.unmet;
    no_more = h.no_more;
  }

  smaller-back : {q p : Interpretation} → Smaller (numbers f) (externals f) q p → Smaller (numbers e) (externals e) q p
  smaller-back {q} {p} h = subst (λ (xs : List ℕ). Smaller xs (externals e) q p) (sym s.same_numbers) (subst (λ (ys : List ℕ). Smaller (numbers f) ys q p) (sym s.same-externals) h)

  smaller-for : {q p : Interpretation} → Smaller (numbers e) (externals e) q p → Smaller (numbers f) (externals f) q p
  smaller-for {q} {p} h = subst (λ (xs : List ℕ). Smaller xs (externals f) q p) s.same_numbers (subst (λ (ys : List ℕ). Smaller (numbers e) ys q p) s.same-externals h)

  pair-for : {p : Interpretation} {x : Pair} → IsPair K e p x → IsPair K f p x
  pair-for {p} {x} h = record {
    listed = h.listed;
    own = subst (λ (rs : List Rule). IsTriple K f rs p (own_triple x)) s.same-rules (triple-for h.own);
    rising = h.rising;
    subsets-are = λ r m. let y = h.subsets-are r m in (y.0, smaller-for y.1, subst (λ (rs : List Rule). IsTriple K f (reduct p rs) y.0 r) s.same-rules (triple-for y.2));
    subsets-all = λ q k. let y = h.subsets-all q (smaller-back k) in (y.0, subst (λ (rs : List Rule). IsTriple K f (reduct p rs) q y.0) s.same-rules (triple-for y.1), y.2);
  }

  module _ (o : Assumptions) (E : ExactTables K e o) (F : ExactTables K f o) where
    obeys-for : {p : Interpretation} → Obeys o (numbers e) p → Obeys o (numbers f) p
    obeys-for {p} h = subst (λ (xs : List ℕ). Obeys o xs p) s.same_numbers h

    pub pairs-in : (x : Pair) → Memᴰ x (table (pairs K) o e) → Memᴰ x (table (pairs K) o f)
    pairs-in x m =
        let a = E.pairs-are x m in
        let b = F.pairs-all a.0 (obeys-for a.1) in
        subst (λ (y : Pair). Memᴰ y (table (pairs K) o f)) (F.one-pair a.0 b.0 x b.1 (pair-for a.2)) b.2

    pub triples-in : (t : ℕ) → Memᴰ t (table (triples K) o e) → Memᴰ t (table (triples K) o f)
    triples-in t m =
        let a = E.triples-are t m in
        let b = F.triples_all a.0 (obeys-for a.1) in
        let h : IsTriple K f (rules f) a.0 t = subst (λ (rs : List Rule). IsTriple K f rs a.0 t) s.same-rules (triple-for a.2) in
        subst (λ (u : ℕ). Memᴰ u (table (triples K) o f)) (F.one-triple (rules f) a.0 b.0 t b.1 h) b.2

module _ (K : ℕ) {e f : Expr} (s : Same e f) (o : Assumptions) (E : ExactTables K e o) (F : ExactTables K f o) where
  pub same-pairs : table (pairs K) o e ≡ table (pairs K) o f
  same-pairs = rising-unique lists-lawful (table (pairs K) o e) (table (pairs K) o f) E.pairs-rising F.pairs-rising (pairs-in K s o E F) (pairs-in K (turned s) o F E)

  pub same-triples : table (triples K) o e ≡ table (triples K) o f
  same-triples = rising-unique numbers-lawful (table (triples K) o e) (table (triples K) o f) E.triples-rising F.triples-rising (triples-in K s o E F) (triples-in K (turned s) o F E)

-- ---- answer sets

answer-for : {e f : Expr} → Same e f → (p : Interpretation) → AnswerSet e p → AnswerSet f p
answer-for {e} {f} s p m = record {
  model = subst (λ (rs : List Rule). every (satisfies p) rs ≡ true) s.same-rules m.model;
  minimal = λ q k. subst (λ (rs : List Rule). every (satisfies q) (reduct p rs) ≡ false) s.same-rules (m.minimal q (smaller-back 0 s k));
}

pub same-answers : {e f : Expr} → Same e f → (p : Interpretation) → AnswerSet e p ↔ AnswerSet f p
same-answers s p = (answer-for s p, answer-for (turned s) p)

-- ---- a connect without effect

none-labelled : (j : ℕ) (cs : List Atom) → All (λ c. c.label ≡ j → ⊥) cs → labelled j cs ≡ []
unfolding labelled
none-labelled j [] h = refl
none-labelled j (c ∷ cs) h = rw (ne_eqb c.label j h.0) (none-labelled j cs h.1)

extend-none : (k : Kind) (r : Rule) → extend k [] r ≡ r
unfolding extend
extend-none Head r = refl
extend-none Positive r = refl
extend-none Negative r = refl

module _ (k : Kind) (i : ℕ) where
  no_such : (cs : List ℕ) (rs : List Rule) → All (λ r. r.label ≡ i → ⊥) rs → map (connect_rule k i cs) rs ≡ rs
  unfolding connect_rule
  no_such cs [] h = refl
  no_such cs (r ∷ rs) h = ap₂ {C = List Rule} (λ x xs. x ∷ xs) (ap (λ b. cond b (extend k cs r) r) (ne_eqb r.label i h.0)) (no_such cs rs h.1)

  no-atoms : (rs : List Rule) → map (connect_rule k i []) rs ≡ rs
  unfolding connect_rule
  no-atoms [] = refl
  no-atoms (r ∷ rs) = ap₂ {C = List Rule} (λ x xs. x ∷ xs) (step (eqb r.label i)) (no-atoms rs)
    where
      step : (b : Bool) → cond b (extend k [] r) r ≡ r
      step true = extend-none k r
      step false = refl

  -- atoms of label j put into rules of label i
  idle-rules : (j : ℕ) (e : Expr) → NoRules i e ⊎ NoAtoms j e → rules (connect k j i e) ≡ rules e
  unfolding rules
  idle-rules j e (inl h) = no_such (labelled j (atoms e)) (rules e) h
  idle-rules j e (inr h) = ap (λ (cs : List ℕ). map (connect_rule k i cs) (rules e)) (none-labelled j (atoms e) h) ∙ no-atoms (rules e)

  connect-label : (j : ℕ) (cs : List ℕ) (r : Rule) → (connect_rule k j cs r).label ≡ r.label
  unfolding connect_rule
  connect-label j cs r = step (eqb r.label j)
    where
      step : (b : Bool) → (cond b (extend k cs r) r).label ≡ r.label
      step true = extend-label k cs r
      step false = refl

  -- the half that is new, behind the other
  still : (j : ℕ) (e : Expr) → NoRules i e ⊎ NoAtoms j e → NoRules i (connect k i j e) ⊎ NoAtoms j (connect k i j e)
  unfolding rules atoms
  still j e (inl h) = inl (all_map _ _ (connect_rule k j (labelled i (atoms e))) (λ r n q. n (sym (connect-label j (labelled i (atoms e)) r) ∙ q)) (rules e) h)
  still j e (inr h) = inr h

  pub same-link : (j : ℕ) (e : Expr) → NoRules i e ⊎ NoAtoms j e → Same (connect k j i (connect k i j e)) (connect k i j e)
  unfolding atoms numbers externals
  same-link j e h = record { same-atoms = refl; same-rules = idle-rules j (connect k i j e) (still j e h); same_numbers = refl; same-externals = refl }
