-- The table of an expression over any algebra of entries. Assumes nothing.
use Rattle.std.specs.Prelude.{cond, List, [], ◌∷◌, ◌++◌, map, ℕ}
use Rattle.std.specs.declared.cmp.Ordering.{Ordering}
use Rattle.lists.specs.Lists.{products}
use Rattle.lists.specs.Sorted.{canon}
use Rattle.expression.specs.declared.Kind.{Kind}
use Rattle.expression.specs.declared.NewAtom.{NewAtom}
use Rattle.semantics.specs.Expressions.{Expr, Operations, fold}
use Rattle.semantics.specs.AnswerSets.{Interpretation, Assumptions}

-- what entries are made by: the entry of an atom (number; label and role) that is in, of one that is out, of a rule (label); of two operands together; of a
-- command on an operand; how entries are ordered, and what two equal ones merge to
pub record Algebra (X : Type 0) : Type 0 where
  pub present : ℕ → NewAtom → X
  pub absent : ℕ → NewAtom → X
  pub unmet : ℕ → X
  pub united : X → X → X
  pub relabelled : ℕ → ℕ → X → X
  pub connected : Kind → ℕ → ℕ → X → X
  pub order : X → X → Ordering
  pub merge : X → X → X

module _ {X : Type 0} (A : Algebra X) where
  -- the entry of one interpretation
  unfoldable pub entries : Interpretation → Operations X
  entries p = record {
    atom_op = λ c a. cond (p c) (A.present c a) (A.absent c a);
    rule_op = A.unmet;
    union_op = A.united;
    relabel_op = A.relabelled;
    connect_op = A.connected;
  }

  unfoldable pub entry : Expr → Interpretation → X
  entry e p = fold (entries p) e

  -- the entries of an atom: one assumed true has the first alone, one assumed false the second
  unfoldable pub leaf : Assumptions → ℕ → NewAtom → List X
  leaf o c a = cond (o.falses c) [] (A.present c a ∷ []) ++ cond (o.trues c) [] (A.absent c a ∷ [])

  -- the table
  unfoldable pub tables : Assumptions → Operations (List X)
  tables o = record {
    atom_op = λ c a. canon A.order A.merge (leaf o c a);
    rule_op = λ g. A.unmet g ∷ [];
    union_op = λ s t. canon A.order A.merge (products A.united s t);
    relabel_op = λ i j t. canon A.order A.merge (map (A.relabelled i j) t);
    connect_op = λ k i j t. canon A.order A.merge (map (A.connected k i j) t);
  }

  unfoldable pub table : Assumptions → Expr → List X
  table o e = fold (tables o) e
