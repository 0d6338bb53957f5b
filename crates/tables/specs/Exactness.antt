-- Exact tables (01, Tables; Definition 7 and Lemma 4 of the clique-width paper): what the tables of a part have, by its atoms and rules alone, over K labels.
-- Assumes nothing.
use Rattle.std.specs.Prelude.{◌≡◌, Bool, not, ◌&&◌, ℕ, ◌+◌, ◌*◌, ◌^◌, ◌<◌, eqb}
use mathlib.Core.List.{List, ◌∷◌, Memᴰ}
use Rattle.lists.specs.Lists.{some}
use Rattle.lists.specs.Sorted.{Rising, compare_numbers, compare_lists}
use Rattle.labels.specs.Sets.{has}
use Rattle.semantics.specs.Expressions.{Expr}
use Rattle.semantics.specs.Programs.{Atom, Rule, atoms, rules, numbers, externals, labelled}
use Rattle.semantics.specs.AnswerSets.{Interpretation, Assumptions, Obeys, Smaller, satisfies, reduct}
use Rattle.tables.specs.Algebras.{table}
use Rattle.tables.specs.Definitions.{Pair, own_triple, subsets, triples, pairs}

-- of the atoms of label g some is in q; some is outside q; of the rules of label g some is not met by q
abbrev pub some_in : ℕ → List Atom → Interpretation → Bool
some_in g cs q = some q (labelled g cs)

abbrev pub some_out : ℕ → List Atom → Interpretation → Bool
some_out g cs q = some (λ c. not (q c)) (labelled g cs)

abbrev pub some_unmet : ℕ → List Rule → Interpretation → Bool
some_unmet g rs q = some (λ r. eqb r.label g && not (satisfies q r)) rs

module _ (K : ℕ) (e : Expr) where
  -- 01: t is the triple of q, where rs are the rules to be met: T, F and U are the labels with an atom in q, with one outside q, with an unmet rule
  pub record IsTriple (rs : List Rule) (q : Interpretation) (t : ℕ) : Type 0 where
    pub trues : (g : ℕ) → g < K → has g t ≡ some_in g (atoms e) q
    pub falses : (g : ℕ) → g < K → has (K + g) t ≡ some_out g (atoms e) q
    pub unmet : (g : ℕ) → g < K → has (2 * K + g) t ≡ some_unmet g rs q
    pub no_more : t < 2 ^ (3 * K)

  -- 01: x is the pair of p: first its triple, then, rising, exactly the triples, in its reduct, of the strictly smaller interpretations (02, Item 9)
  pub record IsPair (p : Interpretation) (x : Pair) : Type 0 where
    pub listed : x ≡ own_triple x ∷ subsets x
    pub own : IsTriple (rules e) p (own_triple x)
    pub rising : Rising compare_numbers (subsets x)
    pub subsets-are : (r : ℕ) → Memᴰ r (subsets x) → (q : Interpretation) × Smaller (numbers e) (externals e) q p × IsTriple (reduct p (rules e)) q r
    pub subsets-all : (q : Interpretation) → Smaller (numbers e) (externals e) q p → (r : ℕ) × IsTriple (reduct p (rules e)) q r × Memᴰ r (subsets x)

  -- DEMAND 2 of a part: its table of pairs is exactly the pairs of the interpretations that obey the assumptions, its plain table exactly their triples
  pub record ExactTables (o : Assumptions) : Type 0 where
    pub pairs-are : (x : Pair) → Memᴰ x (table (pairs K) o e) → (p : Interpretation) × Obeys o (numbers e) p × IsPair p x
    pub pairs-all : (p : Interpretation) → Obeys o (numbers e) p → (x : Pair) × IsPair p x × Memᴰ x (table (pairs K) o e)
    pub triples-are : (t : ℕ) → Memᴰ t (table (triples K) o e) → (p : Interpretation) × Obeys o (numbers e) p × IsTriple (rules e) p t
    pub triples_all : (p : Interpretation) → Obeys o (numbers e) p → (t : ℕ) × IsTriple (rules e) p t × Memᴰ t (table (triples K) o e)
    -- equal ones count once, in the report's order
    pub pairs-rising : Rising compare_lists (table (pairs K) o e)
    pub triples-rising : Rising compare_numbers (table (triples K) o e)
    -- an interpretation has one pair, and one triple where the rules to be met are given
    pub one-pair : (p : Interpretation) (x y : Pair) → IsPair p x → IsPair p y → x ≡ y
    pub one-triple : (rs : List Rule) (q : Interpretation) (t u : ℕ) → IsTriple rs q t → IsTriple rs q u → t ≡ u
