-- What a walk over tables with first values says, as 64-bit words keep them: the table that it leaves is the definition's, the least value of what is
-- accepted is that of the mask shown with yes, and where nothing is accepted the answer is no. Assumes nothing.
use mathlib.Core.Path.{◌≡◌, sym, ap, ◌∙◌, subst}
use mathlib.Core.Bool.{Bool, true, false, cond}
use mathlib.Core.List.{List, [], ◌∷◌}
use Prim.Native.Nat.{ℕ}
use native.Mathlib.Omega.{arith}
use Rattle.lists.specs.Lists.{run}
use Rattle.expression.specs.declared.Counts.{Counts}
use Rattle.expression.specs.Reading.{reading}
use Rattle.expression.specs.Checks.{Passed, Request, counts_of, check}
use Rattle.expression.proofs.Accepted.{check-accepted}
use Rattle.semantics.specs.Programs.{numbers}
use Rattle.tables.specs.Algebras.{table}
use Rattle.tables.specs.Definitions.{Pair, pairs, accepting, grounded_accepts}
use Rattle.values.specs.Values.{Valued, valued, Total, none, worth, add, sum_by}
use Rattle.values.specs.First.{first_weight, firsts, first_words, passing, shown_by}
use Rattle.values.proofs.Items.{items}
use Rattle.values.proofs.First.{sum-passing}
use Rattle.values.proofs.Words.{words-table}
use Rattle.decisions.specs.Decisions.{affirmed, denied, assumed, pairs_fault, newest, walked, answer, grounded, expression_of}
use Rattle.decisions.specs.First.{FirstShown}
use Rattle.decisions.proofs.Walks.{Settled, check-readable, walked_one}
use Rattle.decisions.proofs.Demands.{Tree, tree_of, grounded-denied, grounded-affirmed}
use Rattle.decisions.proofs.Shown.{carried, least_first, none-least}
use Rattle.decisions.proofs.Carried.{valued_walk, grounded-walked}

-- the least value of what a table accepts
abbrev pub least_in : ℕ → List (Valued Pair ℕ) → Total ℕ
least_in K t = sum_by firsts (passing (accepting K)) t

pub least_in-cons : (K : ℕ) (x : Valued Pair ℕ) (t : List (Valued Pair ℕ)) → least_in K (x ∷ t) ≡ add firsts (cond (accepting K x.item) (worth x.value) none) (least_in K t)
unfolding firsts
least_in-cons K x t = sum-passing first_weight (accepting K) x t

pub answer-settled : (b : Bool) → Settled (answer b)
unfolding answer
answer-settled true = tt
answer-settled false = tt

module _ (K : ℕ) (a : Request) {z : Counts} (passed : check K a ≡ Passed z) where
  tree : Tree K a.bytes
  tree = tree_of K a (check-readable K a passed)

  -- the atoms that the checks counted are the reading's, and the tree's
  pub read-atoms : (counts_of (reading K a.bytes)).atoms ≡ z.atoms
  unfolding counts_of
  read-atoms = ap (λ r. (counts_of r).atoms) (check-accepted K a z passed).joined.read

  tree-atoms : tree.count ≡ z.atoms
  tree-atoms = sym tree.counted ∙ read-atoms

  pub tree-numbers : numbers (expression_of K a.bytes) ≡ run 0 z.atoms
  tree-numbers = tree.numbered ∙ ap (run 0) tree-atoms

  module _ {us : List (List (Valued Pair ℕ))} (left : valued_walk (pairs K) first_words a.subset_limit K a ≡ walked us) where
    -- one table is left, that of the definition
    pub words-walked : us ≡ table (valued (pairs K) firsts) (assumed a) (expression_of K a.bytes) ∷ []
    words-walked =
        walked_one (valued (pairs K) first_words) (assumed a) (λ t. pairs_fault a.pair_limit a.subset_limit (items t)) K a us (check-readable K a passed) left
        ∙ ap {B = List (List (Valued Pair ℕ))} (λ t. t ∷ []) (words-table (pairs K) (assumed a) (expression_of K a.bytes) 0 tree.count tree.numbered (omega (arith, tree.few)))

    settled : Settled (grounded K a)
    settled = subst Settled (sym (grounded-walked first_words K a passed left)) (answer-settled (grounded_accepts K (items (newest us))))

    is_carried : least_in K (newest us) ≡ carried K a tree
    is_carried = ap (λ ts. least_in K (newest ts)) words-walked

    pub first-shown : (v : ℕ) → least_in K (newest us) ≡ worth v → (grounded K a ≡ affirmed) × FirstShown K a (shown_by z.atoms v)
    first-shown v h =
        let s = subst (λ n. FirstShown K a (shown_by n v)) tree-atoms (least_first K a tree v (sym is_carried ∙ h)) in
        ((grounded-affirmed K a settled).1 (shown_by z.atoms v, s.shows), s)

    pub none-shown : least_in K (newest us) ≡ none → grounded K a ≡ denied
    none-shown h = (grounded-denied K a settled).1 (none-least K a tree (sym is_carried ∙ h))
