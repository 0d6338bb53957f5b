-- The table between the halves of a link (02, Item 11) exceeds no limit that the one before it met, and the table after it neither: so no refusal stands there,
-- and none at a link. Assumes nothing.
use mathlib.Core.Path.{◌≡◌, ap, ◌∙◌}
use mathlib.Core.Logic.{◌⊎◌, inl, inr}
use mathlib.Core.List.Memᴰ
use mathlib.Core.List.{List, map}
use Prim.Native.Nat.{ℕ, ◌≤◌}
use native.Mathlib.Omega.{arith}
use lib.ListN.{length}
use Rattle.lists.specs.Sorted.{compare_numbers, second, set_of}
use Rattle.lists.proofs.Canon.{canon-is, length-canon-map}
use Rattle.expression.specs.declared.Kind.{Kind}
use Rattle.semantics.specs.Expressions.{link}
use Rattle.semantics.specs.AnswerSets.{Assumptions}
use Rattle.tables.specs.Algebras.{Algebra, tables}
use Rattle.tables.specs.Triples.{connect_triple}
use Rattle.tables.specs.Definitions.{Pair, own_triple, subsets, map_pair, pairs}
use Rattle.tables.proofs.Answers.{pairs-lawful}
use Rattle.decisions.specs.Decisions.{pairs_fault}
use Rattle.decisions.specs.Exceeding.{Exceeds}
use Rattle.decisions.proofs.Exceeding.{none-exceeds, exceeds-none}

-- no more entries, over any algebra
pub half-short : {X : Type 0} (A : Algebra X) (o : Assumptions) (k : Kind) (i j : ℕ) (t : List X) → length ((tables A o).connect_op k i j t) ≤ length t
unfolding tables
half-short A o k i j t = length-canon-map A.order A.merge (A.connected k i j) t

module _ (K P G : ℕ) (o : Assumptions) (k : Kind) (i j : ℕ) where
  subsets-short : (x : Pair) → length (subsets ((pairs K).connected k i j x)) ≤ length (subsets x)
  unfolding pairs map_pair set_of
  subsets-short x = length-canon-map compare_numbers second (connect_triple K k i j (own_triple x)) (subsets x)

  pub half-exceeds : (t : List Pair) → Exceeds P G ((tables (pairs K) o).connect_op k i j t) → Exceeds P G t
  unfolding tables
  half-exceeds t (inl h) = inl (omega (arith, h, half-short (pairs K) o k i j t))
  half-exceeds t (inr (x, m, h)) =
      let y = Memᴰ.of_map ((pairs K).connected k i j) t (canon-is (pairs-lawful K) (map ((pairs K).connected k i j) t) m) in
      let e : length (subsets ((pairs K).connected k i j y.0)) ≡ length (subsets x) = ap (λ (z : Pair). length (subsets z)) y.2 in
      inr (y.0, y.1, omega (arith, h, e, subsets-short y.0))

  pub half-fits : (t : List Pair) → pairs_fault P G t ≡ 0 → pairs_fault P G ((tables (pairs K) o).connect_op k i j t) ≡ 0
  half-fits t h = exceeds-none P G ((tables (pairs K) o).connect_op k i j t) (λ e. none-exceeds P G t h (half-exceeds t e))

pub link_fits : (K P G : ℕ) (o : Assumptions) (k : Kind) (i j : ℕ) (t : List Pair) → pairs_fault P G t ≡ 0 → pairs_fault P G (link (tables (pairs K) o) k i j t) ≡ 0
link_fits K P G o k i j t h = half-fits K P G o k j i ((tables (pairs K) o).connect_op k i j t) (half-fits K P G o k i j t h)
