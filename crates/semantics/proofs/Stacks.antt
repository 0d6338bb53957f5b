-- Commands on a stack of trees: what is folded from the trees is what the commands make of it; labels stay below K, and atoms are numbered in one run,
-- the oldest tree's first. Assumes nothing.
use mathlib.Core.Path.{◌≡◌, refl, sym, ap, ap₂, ◌∙◌, subst}
use mathlib.Core.List.{List, [], ◌∷◌, ◌++◌, map, Memᴰ}
use Prim.Native.Nat.{ℕ, ◌+◌, ◌<◌}
use native.Mathlib.Nat.{add-zero}
use native.Mathlib.Omega.{arith}
use Rattle.lists.specs.Lists.{All, run}
use Rattle.lists.proofs.Runs.{run-append, run-bounds}
use Rattle.expression.specs.declared.Command.{Command}
use Rattle.expression.specs.declared.Command.TheVariants.{Atom, Rule, Union, Relabel, Connect, Name}
use Rattle.expression.specs.Commands.{Suits}
use Rattle.expression.specs.Effects.{effect}
use Rattle.expression.specs.Reading.{new_atoms}
use Rattle.semantics.specs.Expressions.{Expr, atom, rule, union, relabel, connect, Operations, fold, unite_newest, change_newest, act, act_all, trees}
use Rattle.semantics.specs.Programs.{numbers}
use Rattle.semantics.proofs.Interpretations.{Distinct}
use Rattle.semantics.proofs.Homomorphisms.{act-map, folds}

-- what is folded from the trees
pub act_all-fold : {Y : Type 0} (B : Operations Y) (n : ℕ) (cs : List Command) (es : List Expr) → map (fold B) (act_all trees n cs es) ≡ act_all B n cs (map (fold B) es)
unfolding act_all
act_all-fold B n [] es = refl
act_all-fold B n (c ∷ cs) es = act_all-fold B (n + new_atoms c) cs (act trees n c es) ∙ ap (act_all B (n + new_atoms c) cs) (act-map (folds B) n c es)

-- ---- labels and numbers

-- all labels of a tree are below K
unfoldable pub Fits : ℕ → Expr → Type 0
Fits K (atom c a) = a.label < K
Fits K (rule g) = g < K
Fits K (union a b) = Fits K a × Fits K b
Fits K (relabel i j e) = (i < K) × (j < K) × Fits K e
Fits K (connect k i j e) = (i < K) × (j < K) × Fits K e

-- each tree's atoms are a run that ends where the next newer one's begins
unfoldable pub Chain : List Expr → ℕ → Type 0
Chain [] n = n ≡ 0
Chain (e ∷ es) n = (lo : ℕ) × (len : ℕ) × (numbers e ≡ run lo len) × (lo + len ≡ n) × Distinct e × Chain es lo

pub fits-act : (K n : ℕ) (d : Command) (es : List Expr) → Suits K d → All (Fits K) es → All (Fits K) (act trees n d es)
unfolding act trees unite_newest change_newest Suits Fits
fits-act K n (Atom g) es h k = (h, k)
fits-act K n (Rule g) es h k = (h, k)
fits-act K n Union [] h k = k
fits-act K n Union (b ∷ []) h k = k
fits-act K n Union (b ∷ a ∷ es) h k = ((k.1.0, k.0), k.1.1)
fits-act K n (Relabel i j) [] h k = k
fits-act K n (Relabel i j) (e ∷ es) h k = ((h.0, h.1, k.0), k.1)
fits-act K n (Connect l i j) [] h k = k
fits-act K n (Connect l i j) (e ∷ es) h k = ((h.1, h.0, (h.0, h.1, k.0)), k.1)
fits-act K n (Name at) es h k = k

-- two runs on end are one, and apart
chain-union : (a b : Expr) (es : List Expr) (n : ℕ) → Chain (b ∷ a ∷ es) n → Chain (union a b ∷ es) n
unfolding Chain numbers Distinct
chain-union a b es n (lo, len, eb, l, db, (lo', len', ea, l', da, rest)) = (
  lo',
  len' + len,
  ap₂ ◌++◌ ea eb ∙ ap (λ k. run lo' len' ++ run k len) (sym l') ∙ run-append lo' len' len,
  omega arith,
  (da, db, λ c m m'. let h = run-bounds lo' len' (subst (Memᴰ c) ea m) in let k = run-bounds lo len (subst (Memᴰ c) eb m') in omega arith),
  rest,
)

pub chain-act : (n : ℕ) (d : Command) (es : List Expr) → Chain es n → Chain (act trees n d es) (n + new_atoms d)
unfolding act trees unite_newest change_newest effect Chain numbers run Distinct
chain-act n (Atom g) es k = (n, 1, refl, refl, tt, k)
chain-act n (Rule g) es k = (n, 0, refl, refl, tt, k)
chain-act n Union [] k = add-zero n ∙ k
chain-act n Union (b ∷ []) k = rw add-zero k
chain-act n Union (b ∷ a ∷ es) k = subst (Chain (union a b ∷ es)) (sym (add-zero n)) (chain-union a b es n k)
chain-act n (Relabel i j) [] k = add-zero n ∙ k
chain-act n (Relabel i j) (e ∷ es) k = rw add-zero k
chain-act n (Connect l i j) [] k = add-zero n ∙ k
chain-act n (Connect l i j) (e ∷ es) k = rw add-zero k
chain-act n (Name at) es k = subst (Chain es) (sym (add-zero n)) k

-- what each of the commands keeps true of every operand, all of them do
pub all-act : {Y : Type 0} (B : Operations Y) (P : Command → Type 0) (Q : Y → Type 0) → ((n : ℕ) (c : Command) (ys : List Y) → P c → All Q ys → All Q (act B n c ys))
    → (n : ℕ) (cs : List Command) (ys : List Y) → All P cs → All Q ys → All Q (act_all B n cs ys)
unfolding act_all
all-act B P Q f n [] ys h k = k
all-act B P Q f n (c ∷ cs) ys h k = all-act B P Q f (n + new_atoms c) cs (act B n c ys) h.1 (f n c ys h.0 k)

pub fits_all : (K n : ℕ) (cs : List Command) (es : List Expr) → All (Suits K) cs → All (Fits K) es → All (Fits K) (act_all trees n cs es)
fits_all K = all-act trees (Suits K) (Fits K) (fits-act K)

-- how many atoms n and the commands make
unfoldable pub atoms_after : ℕ → List Command → ℕ
atoms_after n [] = n
atoms_after n (c ∷ cs) = atoms_after (n + new_atoms c) cs

pub chain-all : (n : ℕ) (cs : List Command) (es : List Expr) → Chain es n → Chain (act_all trees n cs es) (atoms_after n cs)
unfolding act_all atoms_after
chain-all n [] es k = k
chain-all n (c ∷ cs) es k = chain-all (n + new_atoms c) cs (act trees n c es) (chain-act n c es k)
