-- Expression trees, and what five operations make of a tree or of commands on a stack. Assumes nothing.
use Rattle.std.specs.Prelude.{List, [], ◌∷◌, ℕ, ◌+◌}
use Rattle.expression.specs.declared.Kind.{Kind}
use Rattle.expression.specs.declared.NewAtom.{NewAtom}
use Rattle.expression.specs.declared.Command.{Command}
use Rattle.expression.specs.declared.Command.TheVariants.{Atom, Rule, Union, Relabel, Connect, Name}
use Rattle.expression.specs.Reading.{new_atoms}

-- 01: a part. An atom with its number, label and role; a rule with its label; two parts joined; a label moved; atoms of one label put into rules of another
pub data Expr : Type 0 where
  atom : ℕ → NewAtom → Expr
  rule : ℕ → Expr
  union : Expr → Expr → Expr
  relabel : ℕ → ℕ → Expr → Expr
  connect : Kind → ℕ → ℕ → Expr → Expr

-- the five operations, in any type that has them
pub record Operations (Y : Type 0) : Type 0 where
  pub atom_op : ℕ → NewAtom → Y
  pub rule_op : ℕ → Y
  pub union_op : Y → Y → Y
  pub relabel_op : ℕ → ℕ → Y → Y
  pub connect_op : Kind → ℕ → ℕ → Y → Y

-- what they make of a tree
unfoldable pub fold : {Y : Type 0} → Operations Y → Expr → Y
fold B (atom c a) = B.atom_op c a
fold B (rule g) = B.rule_op g
fold B (union a b) = B.union_op (fold B a) (fold B b)
fold B (relabel i j e) = B.relabel_op i j (fold B e)
fold B (connect k i j e) = B.connect_op k i j (fold B e)

module _ {Y : Type 0} where
  -- the two newest united, the newest on the right
  unfoldable pub unite_newest : (Y → Y → Y) → List Y → List Y
  unite_newest f [] = []
  unite_newest f (b ∷ []) = b ∷ []
  unite_newest f (b ∷ a ∷ ys) = f a b ∷ ys

  -- the newest changed
  unfoldable pub change_newest : (Y → Y) → List Y → List Y
  change_newest f [] = []
  change_newest f (y ∷ ys) = f y ∷ ys

  -- 02, Item 11: a link has no direction: atoms of label i are put into rules of label j, then atoms of label j into rules of label i
  abbrev pub link : Operations Y → Kind → ℕ → ℕ → Y → Y
  link B k i j y = B.connect_op k j i (B.connect_op k i j y)

  -- what they make of a command on a stack, the newest first, where n is the number of the next atom
  unfoldable pub act : Operations Y → ℕ → Command → List Y → List Y
  act B n (Atom a) ys = B.atom_op n a ∷ ys
  act B n (Rule g) ys = B.rule_op g ∷ ys
  act B n Union ys = unite_newest B.union_op ys
  act B n (Relabel i j) ys = change_newest (B.relabel_op i j) ys
  act B n (Connect k i j) ys = change_newest (link B k i j) ys
  act B n (Name at) ys = ys

  unfoldable pub act_all : Operations Y → ℕ → List Command → List Y → List Y
  act_all B n [] ys = ys
  act_all B n (c ∷ cs) ys = act_all B (n + new_atoms c) cs (act B n c ys)

-- commands make trees
unfoldable pub trees : Operations Expr
trees = record { atom_op = atom; rule_op = rule; union_op = union; relabel_op = relabel; connect_op = connect }
