-- Definition 5 (plain tables, of triples) and Definition 8 (tables of pairs) of the clique-width paper, over K labels. Assumes nothing.
use Rattle.std.specs.Prelude.{Bool, not, ◌&&◌, List, [], ◌∷◌, ◌++◌, map, ℕ}
use Rattle.std.specs.Int.Bits.{bit_or}
use Rattle.lists.specs.Lists.{some, products}
use Rattle.lists.specs.Sorted.{compare_numbers, compare_lists, second, set_of}
use Rattle.expression.specs.declared.Role.{Role}
use Rattle.expression.specs.declared.Role.TheVariants.{Derived, External}
use Rattle.tables.specs.Algebras.{Algebra}
use Rattle.tables.specs.Triples.{mark_t, mark_f, mark_u, relabel_triple, connect_triple, all_met}

-- a pair (Q, subsets) as one list, Q first, then the subsets rising: its order as a list is the report's order
abbrev pub Pair : Type 0
Pair = List ℕ

abbrev pub own_triple : Pair → ℕ
own_triple [] = 0
own_triple (q ∷ s) = q

abbrev pub subsets : Pair → List ℕ
subsets [] = []
subsets (q ∷ s) = s

-- of two interpretations together a subset is a subset of one with a subset of the other, or one stays whole while the other shrinks
unfoldable pub unite_pairs : Pair → Pair → Pair
unite_pairs x y =
    bit_or (own_triple x) (own_triple y)
    ∷ set_of (products bit_or (subsets x) (subsets y) ++ map (bit_or (own_triple x)) (subsets y) ++ map (λ s. bit_or s (own_triple y)) (subsets x))

-- q for the triple, and g on each subset
unfoldable pub map_pair : ℕ → (ℕ → ℕ) → Pair → Pair
map_pair q g x = q ∷ set_of (map g (subsets x))

-- the subsets of an atom that is in: the one that leaves it out; 02, Item 9: of an external atom there is none
abbrev pub left_out : Role → ℕ → List ℕ
left_out Derived s = s ∷ []
left_out External s = []

module _ (K : ℕ) where
  -- Definition 5
  unfoldable pub triples : Algebra ℕ
  triples = record {
    present = λ c a. mark_t K a.label;
    absent = λ c a. mark_f K a.label;
    unmet = mark_u K;
    united = bit_or;
    relabelled = relabel_triple K;
    connected = λ k i j q. connect_triple K k i j q q;
    order = compare_numbers;
    merge = second;
  }

  -- Definition 8
  unfoldable pub pairs : Algebra Pair
  pairs = record {
    present = λ c a. mark_t K a.label ∷ left_out a.role (mark_f K a.label);
    absent = λ c a. mark_f K a.label ∷ [];
    unmet = λ g. mark_u K g ∷ [];
    united = unite_pairs;
    relabelled = λ i j x. map_pair (relabel_triple K i j (own_triple x)) (relabel_triple K i j) x;
    connected = λ k i j x. map_pair (connect_triple K k i j (own_triple x) (own_triple x)) (connect_triple K k i j (own_triple x)) x;
    order = compare_lists;  -- Q, then the subsets
    merge = second;
  }

  -- Definition 5 again, as the words keep it: a triple is a pair without subsets
  unfoldable pub flat : Algebra Pair
  flat = record {
    present = λ c a. mark_t K a.label ∷ [];
    absent = λ c a. mark_f K a.label ∷ [];
    unmet = λ g. mark_u K g ∷ [];
    united = unite_pairs;
    relabelled = λ i j x. map_pair (relabel_triple K i j (own_triple x)) (relabel_triple K i j) x;
    connected = λ k i j x. map_pair (connect_triple K k i j (own_triple x) (own_triple x)) (connect_triple K k i j (own_triple x)) x;
    order = compare_lists;
    merge = second;
  }

  -- 01, Tables: the plain answer is yes if some triple of the final table has U empty
  unfoldable pub plain_accepts : List ℕ → Bool
  plain_accepts t = some (all_met K) t

  -- and the grounded one if some pair has Q with U empty and no subset with U empty
  unfoldable pub accepting : Pair → Bool
  accepting x = all_met K (own_triple x) && not (some (all_met K) (subsets x))

  unfoldable pub grounded_accepts : List Pair → Bool
  grounded_accepts t = some accepting t
