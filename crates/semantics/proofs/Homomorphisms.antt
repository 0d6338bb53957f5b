-- A map between two types that have the five operations, which carries them: it carries what they make of a tree, and of a command on a stack. Assumes nothing.
use mathlib.Core.Path.{◌≡◌, refl, ap, ap₂, ◌∙◌}
use mathlib.Core.List.{List, [], ◌∷◌, map}
use Prim.Native.Nat.{ℕ}
use Rattle.expression.specs.declared.Kind.{Kind}
use Rattle.expression.specs.declared.NewAtom.{NewAtom}
use Rattle.expression.specs.declared.Command.{Command}
use Rattle.expression.specs.declared.Command.TheVariants.{Atom, Rule, Union, Relabel, Connect, Name}
use Rattle.semantics.specs.Expressions.{Expr, atom, rule, union, relabel, connect, Operations, fold, unite_newest, change_newest, link, act, trees}

pub record Homomorphism {Y Z : Type 0} (B : Operations Y) (C : Operations Z) (h : Y → Z) : Type 0 where
  pub atom_op : (c : ℕ) (a : NewAtom) → h (B.atom_op c a) ≡ C.atom_op c a
  pub rule_op : (g : ℕ) → h (B.rule_op g) ≡ C.rule_op g
  pub union_op : (x y : Y) → h (B.union_op x y) ≡ C.union_op (h x) (h y)
  pub relabel_op : (i j : ℕ) (x : Y) → h (B.relabel_op i j x) ≡ C.relabel_op i j (h x)
  pub connect_op : (k : Kind) (i j : ℕ) (x : Y) → h (B.connect_op k i j x) ≡ C.connect_op k i j (h x)

module _ {Y Z : Type 0} {B : Operations Y} {C : Operations Z} {h : Y → Z} (H : Homomorphism B C h) where
  pub fold-map : (e : Expr) → h (fold B e) ≡ fold C e
  unfolding fold
  fold-map (atom c g) = H.atom_op c g
  fold-map (rule g) = H.rule_op g
  fold-map (union a b) = H.union_op (fold B a) (fold B b) ∙ ap₂ C.union_op (fold-map a) (fold-map b)
  fold-map (relabel i j e) = H.relabel_op i j (fold B e) ∙ ap (C.relabel_op i j) (fold-map e)
  fold-map (connect k i j e) = H.connect_op k i j (fold B e) ∙ ap (C.connect_op k i j) (fold-map e)

  link-map : (k : Kind) (i j : ℕ) (y : Y) → h (link B k i j y) ≡ link C k i j (h y)
  link-map k i j y = H.connect_op k j i (B.connect_op k i j y) ∙ ap (C.connect_op k j i) (H.connect_op k i j y)

  -- the front of a stack changes, the rest stays
  pub act-map : (n : ℕ) (c : Command) (ys : List Y) → map h (act B n c ys) ≡ act C n c (map h ys)
  unfolding act unite_newest change_newest
  act-map n (Atom g) ys = ap {B = List Z} (λ z. z ∷ map h ys) (H.atom_op n g)
  act-map n (Rule g) ys = ap {B = List Z} (λ z. z ∷ map h ys) (H.rule_op g)
  act-map n Union [] = refl
  act-map n Union (b ∷ []) = refl
  act-map n Union (b ∷ a ∷ ys) = ap {B = List Z} (λ z. z ∷ map h ys) (H.union_op a b)
  act-map n (Relabel i j) [] = refl
  act-map n (Relabel i j) (y ∷ ys) = ap {B = List Z} (λ z. z ∷ map h ys) (H.relabel_op i j y)
  act-map n (Connect k i j) [] = refl
  act-map n (Connect k i j) (y ∷ ys) = ap {B = List Z} (λ z. z ∷ map h ys) (link-map k i j y)
  act-map n (Name at) ys = refl

-- folding carries the making of trees
pub folds : {Y : Type 0} (B : Operations Y) → Homomorphism trees B (fold B)
unfolding trees fold
folds B = record {
  atom_op = λ c g. refl;
  rule_op = λ g. refl;
  union_op = λ a b. refl;
  relabel_op = λ i j e. refl;
  connect_op = λ k i j e. refl;
}
