-- What tables accept is what the rules say: some interpretation that obeys the assumptions is an answer set, or, plainly, a model. Assumes nothing.
use mathlib.Core.Path.{◌≡◌, refl, sym, ap, ap₂, ◌∙◌}
use mathlib.Core.Bool.{true, not, ◌&&◌}
use Prim.Native.Nat.{ℕ}
use lib.Bits.{bit_or}
use borrow.Author.Tests.{not-true}
use Rattle.lists.specs.Lists.{some, every}
use Rattle.lists.proofs.Members.{and_both, some_of, some_is, some-none, none-some}
use Rattle.lists.proofs.Comparisons.{Lawful, numbers-lawful, lists-lawful}
use Rattle.semantics.specs.Expressions.{Expr, atom, rule, union, relabel, connect, fold}
use Rattle.semantics.specs.Programs.{numbers, rules}
use Rattle.semantics.specs.AnswerSets.{Interpretation, Assumptions, Obeys, Model, AnswerSet, satisfies}
use Rattle.semantics.proofs.Interpretations.{Agree, Distinct}
use Rattle.semantics.proofs.Stacks.{Fits}
use Rattle.tables.specs.Algebras.{entries, entry, table}
use Rattle.tables.specs.Triples.{relabel_triple, connect_triple, all_met}
use Rattle.tables.specs.Definitions.{own_triple, subsets, triples, pairs, accepting, plain_accepts, grounded_accepts}
use Rattle.tables.proofs.Entries.{entry-agree, table_is, table_of}
use Rattle.tables.proofs.Subsets.{triple_of, pair, pair-own, subsets-is, subsets-of}
use Rattle.tables.proofs.Marks.{holds, all_met-is, reduct-holds}

pub triples-lawful : (K : ℕ) → Lawful (triples K).order (triples K).merge
unfolding triples
triples-lawful K = numbers-lawful

-- no two pairs merge unless they are equal, subsets and all
pub pairs-lawful : (K : ℕ) → Lawful (pairs K).order (pairs K).merge
unfolding pairs
pairs-lawful K = lists-lawful

pub plain-triple : (K : ℕ) (e : Expr) (p : Interpretation) → entry (triples K) e p ≡ triple_of K e p p
unfolding entry triples triple_of entries fold
plain-triple K (atom c g) p = refl
plain-triple K (rule g) p = refl
plain-triple K (union a b) p = ap₂ bit_or (plain-triple K a p) (plain-triple K b p)
plain-triple K (relabel i j e) p = ap (relabel_triple K i j) (plain-triple K e p)
plain-triple K (connect k i j e) p = ap (λ t. connect_triple K k i j t t) (plain-triple K e p)

-- an interpretation that obeys the assumptions and is an answer set, or a model
pub record FoundAnswerSet (o : Assumptions) (e : Expr) : Type 0 where
  pub by : Interpretation
  pub obeys : Obeys o (numbers e) by
  pub answer_set : AnswerSet e by

pub record FoundModel (o : Assumptions) (e : Expr) : Type 0 where
  pub by : Interpretation
  pub obeys : Obeys o (numbers e) by
  pub model : Model e by

module _ (K : ℕ) (e : Expr) (fits : Fits K e) where
  model_is : (p : Interpretation) → all_met K (triple_of K e p p) ≡ every (satisfies p) (rules e)
  unfolding holds satisfies
  model_is p = all_met-is K e fits p p

  pub accepting-is : (p : Interpretation) → accepting K (pair K e p) ≡ true → AnswerSet e p
  unfolding accepting
  accepting-is p h =
      let k = and_both (all_met K (own_triple (pair K e p))) (not (some (all_met K) (subsets (pair K e p)))) h in
      record {
        model = sym (model_is p) ∙ ap (all_met K) (sym (pair-own K e p)) ∙ k.0;
        minimal = λ q s. reduct-holds p q (rules e) ∙ sym (all_met-is K e fits p q)
            ∙ none-some (all_met K) (subsets (pair K e p)) (not-true (some (all_met K) (subsets (pair K e p))) k.1) (subsets-of K e s);
      }

  pub accepting-of : Distinct e → (p : Interpretation) → AnswerSet e p → accepting K (pair K e p) ≡ true
  unfolding accepting
  accepting-of d p g =
      ap₂ (λ a b. a && not b) (ap (all_met K) (pair-own K e p) ∙ model_is p ∙ g.model)
      (some-none (all_met K) (subsets (pair K e p)) (λ r m. let s = subsets-is K e d p m in
      ap (all_met K) (sym s.is) ∙ all_met-is K e fits p s.by ∙ sym (reduct-holds p s.by (rules e)) ∙ g.minimal s.by s.smaller))

  -- an answer set is one by its atoms alone
  pub answer_set-agree : Distinct e → {p q : Interpretation} → Agree (numbers e) q p → AnswerSet e p → AnswerSet e q
  answer_set-agree d {p} {q} a g = accepting-is q (ap (accepting K) (entry-agree (pairs K) e a) ∙ accepting-of d p g)

  module _ (d : Distinct e) (o : Assumptions) where
    pub grounded-found : grounded_accepts K (table (pairs K) o e) ≡ true → FoundAnswerSet o e
    unfolding grounded_accepts
    grounded-found h =
        let r = some_is (accepting K) (table (pairs K) o e) h in
        let m = table_is (pairs K) (pairs-lawful K) o e d r.1 in
        record { by = m.by; obeys = m.obeys; answer_set = accepting-is m.by (ap (accepting K) m.is ∙ r.2) }

    pub found-grounded : (p : Interpretation) → Obeys o (numbers e) p → AnswerSet e p → grounded_accepts K (table (pairs K) o e) ≡ true
    unfolding grounded_accepts
    found-grounded p h g = some_of (accepting K) (table (pairs K) o e) (table_of (pairs K) (pairs-lawful K) o e h) (accepting-of d p g)

    pub plain-found : plain_accepts K (table (triples K) o e) ≡ true → FoundModel o e
    unfolding plain_accepts
    plain-found h =
        let r = some_is (all_met K) (table (triples K) o e) h in
        let m = table_is (triples K) (triples-lawful K) o e d r.1 in
        record { by = m.by; obeys = m.obeys; model = record { model = sym (model_is m.by) ∙ ap (all_met K) (sym (plain-triple K e m.by) ∙ m.is) ∙ r.2 } }

    pub found_plain : (p : Interpretation) → Obeys o (numbers e) p → Model e p → plain_accepts K (table (triples K) o e) ≡ true
    unfolding plain_accepts
    found_plain p h g =
        some_of (all_met K) (table (triples K) o e) (table_of (triples K) (triples-lawful K) o e h) (ap (all_met K) (plain-triple K e p) ∙ model_is p ∙ g.model)
