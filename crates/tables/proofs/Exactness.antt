-- THE THEOREM OF TABLES (demand 2; Lemmas 3 and 4 of the clique-width paper): the tables of every tree whose labels are below K and whose atoms are distinct
-- are exact, and so those of all trees that commands leave. Assumes nothing.
use mathlib.Core.Path.{◌≡◌, refl, sym, ap₂, ◌∙◌, subst}
use mathlib.Core.Bool.{Bool, true, false, cond}
use mathlib.Core.List.Memᴰ
use mathlib.Core.List.{List, [], ◌∷◌, Memᴰ}
use Prim.Native.Nat.{ℕ, ◌+◌, ◌-◌, ◌*◌, ◌≤◌, ◌<◌}
use native.Mathlib.Decide.{dec_le}
use native.Mathlib.Omega.{arith}
use Rattle.lists.specs.Lists.{All}
use Rattle.lists.specs.Sorted.{Rising, compare_numbers, set_of}
use Rattle.lists.proofs.Comparisons.{numbers-lawful}
use Rattle.lists.proofs.Canon.{rising-canon, rising-unique}
use Rattle.labels.specs.Sets.{has}
use Rattle.labels.proofs.Sets.{has-ge, set-ext}
use Rattle.expression.specs.declared.Command.{Command}
use Rattle.expression.specs.Commands.{Suits}
use Rattle.semantics.specs.Expressions.{Expr, atom, rule, union, relabel, connect, fold, act_all, trees}
use Rattle.semantics.specs.Programs.{Rule, rules}
use Rattle.semantics.specs.AnswerSets.{Interpretation, Assumptions, satisfies, reduct}
use Rattle.semantics.proofs.Interpretations.{Distinct}
use Rattle.semantics.proofs.Stacks.{Fits, Chain, atoms_after, fits_all, chain-all}
use Rattle.tables.specs.Algebras.{entries, entry}
use Rattle.tables.specs.Triples.{mark_f}
use Rattle.tables.specs.Definitions.{Pair, own_triple, subsets, unite_pairs, map_pair, triples, pairs}
use Rattle.tables.specs.Exactness.{IsTriple, IsPair, ExactTables}
use Rattle.tables.proofs.Entries.{table_is, table_of, table-rising}
use Rattle.tables.proofs.Subsets.{left-out-rising, triple_of, pair, pair-own, subsets-is, subsets-of}
use Rattle.tables.proofs.Marks.{holds, has-true, has-false, has-unmet, triple-lt, reduct-unmet}
use Rattle.tables.proofs.Answers.{triples-lawful, pairs-lawful, plain-triple}

-- ---- the pair of an interpretation as a list

pair-listed : (K : ℕ) (e : Expr) (p : Interpretation) → pair K e p ≡ own_triple (pair K e p) ∷ subsets (pair K e p)
unfolding entry pairs unite_pairs map_pair entries fold
pair-listed K (atom c g) p = step (p c)
  where
    step : (b : Bool) → let x = cond b ((pairs K).present c g) ((pairs K).absent c g) in x ≡ own_triple x ∷ subsets x
    step true = refl
    step false = refl
pair-listed K (rule g) p = refl
pair-listed K (union e f) p = refl
pair-listed K (relabel i j e) p = refl
pair-listed K (connect k i j e) p = refl

subsets-rising : (K : ℕ) (e : Expr) (p : Interpretation) → Rising compare_numbers (subsets (pair K e p))
unfolding entry pairs unite_pairs map_pair entries fold set_of Rising
subsets-rising K (atom c g) p = step (p c)
  where
    step : (b : Bool) → Rising compare_numbers (subsets (cond b ((pairs K).present c g) ((pairs K).absent c g)))
    step true = left-out-rising g.role (mark_f K g.label)
    step false = tt
subsets-rising K (rule g) p = tt
subsets-rising K (union e f) p = rising-canon numbers-lawful _
subsets-rising K (relabel i j e) p = rising-canon numbers-lawful _
subsets-rising K (connect k i j e) p = rising-canon numbers-lawful _

module _ (K : ℕ) (e : Expr) where
  -- ---- a triple's marks make it, and a pair's triples

  pub triple-unique : (rs : List Rule) (q : Interpretation) (t u : ℕ) → IsTriple K e rs q t → IsTriple K e rs q u → t ≡ u
  triple-unique rs q t u h k = set-ext t u mark
    where
      at : (d : ℕ) → ((g : ℕ) → g < K → has (d + g) t ≡ has (d + g) u) → (m : ℕ) → d ≤ m → m < d + K → has m t ≡ has m u
      at d f m l b = let x : d + (m - d) ≡ m = omega arith in subst (λ (n : ℕ). has n t ≡ has n u) x (f (m - d) (omega arith))

      mark : (m : ℕ) → has m t ≡ has m u
      mark m = low (dec_le (3 * K) m)
        where
          third : Dec (2 * K ≤ m) → m < 3 * K → has m t ≡ has m u
          third (yes l) b = at (2 * K) (λ g i. h.unmet g i ∙ sym (k.unmet g i)) m l (omega arith)
          third (no l) b = second (dec_le K m)
            where
              second : Dec (K ≤ m) → has m t ≡ has m u
              second (yes i) = at K (λ g j. h.falses g j ∙ sym (k.falses g j)) m i (omega arith)
              second (no i) = h.trues m (omega arith) ∙ sym (k.trues m (omega arith))

          low : Dec (3 * K ≤ m) → has m t ≡ has m u
          low (yes l) = has-ge m (3 * K) t h.no_more l ∙ sym (has-ge m (3 * K) u k.no_more l)
          low (no l) = third (dec_le (2 * K) m) (omega arith)

  pub pair-unique : (p : Interpretation) (x y : Pair) → IsPair K e p x → IsPair K e p y → x ≡ y
  pair-unique p x y h k =
      h.listed
      ∙ ap₂ {C = List ℕ} (λ t s. t ∷ s) (triple-unique (rules e) p (own_triple x) (own_triple y) h.own k.own)
      (rising-unique numbers-lawful (subsets x) (subsets y) h.rising k.rising (among x y h k) (among y x k h))
      ∙ sym k.listed
    where
      among : (x y : Pair) → IsPair K e p x → IsPair K e p y → (r : ℕ) → Memᴰ r (subsets x) → Memᴰ r (subsets y)
      among x y h k r m =
          let a = h.subsets-are r m in
          let b = k.subsets-all a.0 a.1 in
          Memᴰ.cast (triple-unique _ a.0 r b.0 a.2 b.1) b.2

  module _ (fits : Fits K e) where
    -- ---- the triple and the pair that the definitions give an interpretation are its own

    reduct-triple : (p q : Interpretation) → IsTriple K e (reduct p (rules e)) q (triple_of K e p q)
    reduct-triple p q = record {
      trues = has-true K e fits p q;
      falses = has-false K e fits p q;
      unmet = λ g h. has-unmet K e fits p q g ∙ reduct-unmet g p q (rules e);
      no_more = triple-lt K e fits p q;
    }

    own-triple : (p : Interpretation) → IsTriple K e (rules e) p (triple_of K e p p)
    unfolding holds satisfies
    own-triple p = record {
      trues = has-true K e fits p p;
      falses = has-false K e fits p p;
      unmet = λ g h. has-unmet K e fits p p g;
      no_more = triple-lt K e fits p p;
    }

    plain-is : (p : Interpretation) → IsTriple K e (rules e) p (entry (triples K) e p)
    plain-is p = subst (IsTriple K e (rules e) p) (sym (plain-triple K e p)) (own-triple p)

    module _ (distinct : Distinct e) where
      pair_is : (p : Interpretation) → IsPair K e p (pair K e p)
      pair_is p = record {
        listed = pair-listed K e p;
        own = subst (IsTriple K e (rules e) p) (sym (pair-own K e p)) (own-triple p);
        rising = subsets-rising K e p;
        subsets-are = λ r m. let s = subsets-is K e distinct p m in
            (s.by, s.smaller, subst (IsTriple K e (reduct p (rules e)) s.by) s.is (reduct-triple p s.by));
        subsets-all = λ q s. (triple_of K e p q, reduct-triple p q, subsets-of K e s);
      }

      -- ---- demand 2

      pub exact-tables : (o : Assumptions) → ExactTables K e o
      unfolding pairs triples
      exact-tables o = record {
        pairs-are = λ x m. let s = table_is (pairs K) (pairs-lawful K) o e distinct m in (s.by, s.obeys, subst (IsPair K e s.by) s.is (pair_is s.by));
        pairs-all = λ p h. (pair K e p, pair_is p, table_of (pairs K) (pairs-lawful K) o e h);
        triples-are = λ t m. let s = table_is (triples K) (triples-lawful K) o e distinct m in (s.by, s.obeys, subst (IsTriple K e (rules e) s.by) s.is (plain-is s.by));
        triples_all = λ p h. (entry (triples K) e p, plain-is p, table_of (triples K) (triples-lawful K) o e h);
        pairs-rising = table-rising (pairs K) (pairs-lawful K) o e;
        triples-rising = table-rising (triples K) (triples-lawful K) o e;
        one-pair = pair-unique;
        one-triple = triple-unique;
      }

-- every tree that commands leave on the stack has exact tables
pub exact-all : (K : ℕ) (o : Assumptions) (cs : List Command) → All (Suits K) cs → All (λ e. ExactTables K e o) (act_all trees 0 cs [])
unfolding Chain
exact-all K o cs h = each (act_all trees 0 cs []) (atoms_after 0 cs) (fits_all K 0 cs [] h tt) (chain-all 0 cs [] refl)
  where
    each : (es : List Expr) (n : ℕ) → All (Fits K) es → Chain es n → All (λ e. ExactTables K e o) es
    each [] n f c = tt
    each (e ∷ es) n f (lo, len, numbered, l, d, rest) = (exact-tables K e f.0 d o, each es lo f.1 rest)
