-- The first answer set that obeys the assumptions, from the table that carries first values. Assumes nothing.
use mathlib.Core.Path.{◌≡◌, refl, sym, ap, ◌∙◌, subst}
use mathlib.Core.List.Memᴰ
use mathlib.Core.List.{List, [], ◌∷◌}
use Prim.Native.Nat.{ℕ, ◌≤◌}
use native.Mathlib.Omega.{arith}
use Rattle.lists.specs.Lists.{keep, run}
use Rattle.lists.proofs.Runs.{length_run}
use Rattle.expression.specs.Checks.{Request}
use Rattle.semantics.specs.Expressions.{Expr}
use Rattle.semantics.specs.Programs.{numbers}
use Rattle.semantics.specs.AnswerSets.{Interpretation, Obeys, AnswerSet, of_mask, all_obeying, of_list}
use Rattle.semantics.proofs.Interpretations.{Agree, agree-sym, obeys-agree, obeying-of, obeying-obeys, keep-agrees}
use Rattle.semantics.proofs.Masks.{mask_lt}
use Rattle.tables.specs.Algebras.{table}
use Rattle.tables.specs.Definitions.{pairs, accepting}
use Rattle.tables.proofs.Entries.{entry-agree}
use Rattle.tables.proofs.Answers.{pairs-lawful, accepting-is, accepting-of, answer_set-agree}
use Rattle.values.specs.Values.{valued, value_of, Total, none, worth, sum_by, sum_over}
use Rattle.values.specs.First.{first_weight, firsts, passing, shown_by, NotBefore}
use Rattle.values.proofs.First.{Least, least-is, least-least, table-least, shown-agrees, value-first}
use Rattle.decisions.specs.Decisions.{assumed, expression_of}
use Rattle.decisions.specs.First.{FirstShown}
use Rattle.decisions.specs.Outcomes.{NoAnswerSet}
use Rattle.decisions.proofs.Demands.{Tree}

-- ---- the order of interpretations goes by their atoms

pub not-before-agree : (xs : List ℕ) (q q' p p' : Interpretation) → Agree xs q' q → Agree xs p' p → NotBefore xs q p → NotBefore xs q' p'
unfolding NotBefore
not-before-agree [] q q' p p' f g h = tt
not-before-agree (c ∷ cs) q q' p p' f g h =
    let x = f c (Memᴰ.head refl) in
    let y = g c (Memᴰ.head refl) in
    (λ z. y ∙ h.0 (sym x ∙ z), λ z. not-before-agree cs q q' p p' (λ d m. f d (Memᴰ.tail m)) (λ d m. g d (Memᴰ.tail m)) (h.1 (sym x ∙ z ∙ y)))

module _ (K : ℕ) (a : Request) (t : Tree K a.bytes) where
  abbrev e : Expr
  e = expression_of K a.bytes

  -- ---- the first answer set, by the least value that the table carries

  all : List (List ℕ)
  all = all_obeying (assumed a) (numbers e)

  -- the least value over the answer sets that obey
  abbrev pub carried : Total ℕ
  carried = sum_by firsts (passing (accepting K)) (table (valued (pairs K) firsts) (assumed a) e)

  carried-is : carried ≡ sum_over firsts (pairs K) (passing (accepting K)) e all
  unfolding firsts all
  carried-is = table-least (pairs K) first_weight (accepting K) e (pairs-lawful K) (assumed a) t.distinct

  -- no answer set that obeys has a lesser one
  least-of : (q : Interpretation) → Obeys (assumed a) (numbers e) q → AnswerSet e q → (v : ℕ) × (carried ≡ worth v) × (v ≤ value_of firsts (numbers e) (of_list (keep q (numbers e))))
  unfolding firsts all
  least-of q o s =
      let r = least-least (pairs K) first_weight (accepting K) e all (obeying-of (assumed a) (numbers e) o)
      (ap (accepting K) (entry-agree (pairs K) e (keep-agrees q (numbers e))) ∙ accepting-of K e t.fits t.distinct q s) in
      (r.0, carried-is ∙ r.1, r.2)

  -- the mask of the least value is an answer set that obeys, and no other comes before it
  pub least_first : (v : ℕ) → carried ≡ worth v → FirstShown K a (shown_by t.count v)
  unfolding all
  least_first v h =
      let m : ℕ = shown_by t.count v in
      let l : Least (pairs K) first_weight (accepting K) e all v = unfold firsts in (least-is (pairs K) first_weight (accepting K) e all v (sym carried-is ∙ h)) in
      let value : value_of firsts (run 0 t.count) (of_list l.by) ≡ v = ap (λ xs. value_of firsts xs (of_list l.by)) (sym t.numbered) ∙ (unfold firsts in l.is) in
      let g : Agree (numbers e) (of_mask m) (of_list l.by) =
      rw t.numbered (subst (λ x. Agree (run 0 t.count) (of_mask (shown_by t.count x)) (of_list l.by)) value (shown-agrees t.count (of_list l.by) t.few)) in
      record {
        shows = record {
          within = rw (t.numbered, length_run 0 t.count) (unfold shown_by in (mask_lt _ t.count));
          obeys = obeys-agree (assumed a) g (obeying-obeys (assumed a) (numbers e) l.by l.listed);
          answer_set = answer_set-agree K e t.fits t.distinct g (accepting-is K e t.fits (of_list l.by) l.passed);
        };
        first = λ q o s.
            let r = least-of q o s in
            let z : r.0 ≡ v = cc r.1 in
            let w : value_of firsts (run 0 t.count) (of_list (keep q (numbers e))) ≡ value_of firsts (numbers e) (of_list (keep q (numbers e))) = ap (λ xs. value_of firsts xs (of_list (keep q (numbers e)))) (sym t.numbered) in
            let n = value-first 0 t.count (of_list l.by) (of_list (keep q (numbers e))) (omega (arith, t.few)) (omega (arith, r.2)) in
            not-before-agree (numbers e) (of_list (keep q (numbers e))) q (of_list l.by) (of_mask m) (agree-sym (keep-agrees q (numbers e))) g
            (subst (λ xs. NotBefore xs (of_list (keep q (numbers e))) (of_list l.by)) (sym t.numbered) n);
      }

  -- where no value is least, there is none
  pub none-least : carried ≡ none → NoAnswerSet K a
  none-least h q o s = let r = least-of q o s in let z : ◌≡◌ {A = ℕ} 0 1 = cc (h, r.1) in omega arith
