-- The atoms and the rules that an expression makes (01: copies; rules with head, needed and barring copies). Assumes nothing.
use Rattle.std.specs.Prelude.{cond, List, [], ◌∷◌, ◌++◌, map, ℕ, eqb}
use Rattle.labels.specs.Labels.{rename}
use Rattle.expression.specs.declared.Kind.{Kind}
use Rattle.expression.specs.declared.Kind.TheVariants.{Head, Positive, Negative}
use Rattle.expression.specs.declared.Role.{Role}
use Rattle.expression.specs.declared.Role.TheVariants.{Derived, External}
use Rattle.semantics.specs.Expressions.{Expr, atom, rule, union, relabel, connect}

pub record Atom : Type 0 where
  pub number : ℕ
  pub label : ℕ

-- a rule: its label, and its three sets of atoms, by their numbers (01: head, needed, barring)
pub record Rule : Type 0 where
  pub label : ℕ
  pub head : List ℕ
  pub positive : List ℕ
  pub negative : List ℕ

unfoldable pub relabel_atom : ℕ → ℕ → Atom → Atom
relabel_atom i j c = record { number = c.number; label = rename i j c.label }

unfoldable pub relabel_rule : ℕ → ℕ → Rule → Rule
relabel_rule i j r = record { label = rename i j r.label; head = r.head; positive = r.positive; negative = r.negative }

unfoldable pub atoms : Expr → List Atom
atoms (atom c a) = record { number = c; label = a.label } ∷ []
atoms (rule g) = []
atoms (union a b) = atoms a ++ atoms b
atoms (relabel i j e) = map (relabel_atom i j) (atoms e)
atoms (connect k i j e) = atoms e

-- the numbers of the atoms of label i
unfoldable pub labelled : ℕ → List Atom → List ℕ
labelled i [] = []
labelled i (c ∷ cs) = cond (eqb c.label i) (c.number ∷ labelled i cs) (labelled i cs)

-- the atoms cs put into one set of a rule
unfoldable pub extend : Kind → List ℕ → Rule → Rule
extend Head cs r = record { label = r.label; head = cs ++ r.head; positive = r.positive; negative = r.negative }
extend Positive cs r = record { label = r.label; head = r.head; positive = cs ++ r.positive; negative = r.negative }
extend Negative cs r = record { label = r.label; head = r.head; positive = r.positive; negative = cs ++ r.negative }

-- the same, if the rule has label j
unfoldable pub connect_rule : Kind → ℕ → List ℕ → Rule → Rule
connect_rule k j cs r = cond (eqb r.label j) (extend k cs r) r

-- 02, Item 11: what a link makes of a rule, where cs are the atoms of the part linked, as it was: a rule of label j gets those of label i, a rule of label i
-- those of label j; by `semantics/proofs/Links.antt` this is what `rules` gives for the two connects that a link is
unfoldable pub link_rule : Kind → ℕ → ℕ → List Atom → Rule → Rule
link_rule k i j cs r = cond (eqb r.label j) (extend k (labelled i cs) r) (cond (eqb r.label i) (extend k (labelled j cs) r) r)

unfoldable pub rules : Expr → List Rule
rules (atom c g) = []
rules (rule g) = record { label = g; head = []; positive = []; negative = [] } ∷ []
rules (union a b) = rules a ++ rules b
rules (relabel i j e) = map (relabel_rule i j) (rules e)
rules (connect k i j e) = map (connect_rule k j (labelled i (atoms e))) (rules e)

-- the numbers of all atoms, in order of appearance
unfoldable pub numbers : Expr → List ℕ
numbers (atom c g) = c ∷ []
numbers (rule g) = []
numbers (union a b) = numbers a ++ numbers b
numbers (relabel i j e) = numbers e
numbers (connect k i j e) = numbers e

-- 02, Item 9: the numbers of the external atoms (granted copies)
abbrev pub if_external : Role → ℕ → List ℕ
if_external Derived c = []
if_external External c = c ∷ []

unfoldable pub externals : Expr → List ℕ
externals (atom c a) = if_external a.role c
externals (rule g) = []
externals (union a b) = externals a ++ externals b
externals (relabel i j e) = externals e
externals (connect k i j e) = externals e
