-- Algebras of entries that are alike where labels are below K: a map that carries the one to the other there carries the tables of commands that have no
-- other labels. Assumes nothing.
use mathlib.Core.Path.{◌≡◌, refl, sym, ap, ap₂, ◌∙◌}
use mathlib.Core.Bool.{Bool, true, false, cond}
use mathlib.Core.List.{List, [], ◌∷◌, map}
use Prim.Native.Nat.{ℕ, ◌+◌, ◌-◌, ◌<◌}
use lib.Dec.{ltb}
use borrow.Author.Tests.{lt-ltb, ltb-true}
use Rattle.lists.specs.Lists.{All}
use Rattle.lists.specs.Sorted.{canon}
use Rattle.expression.specs.declared.Command.{Command}
use Rattle.expression.specs.declared.Command.TheVariants.{Atom, Rule, Union, Relabel, Connect, Name}
use Rattle.expression.specs.Commands.{Suits}
use Rattle.expression.specs.Reading.{new_atoms}
use Rattle.semantics.specs.Expressions.{change_newest, act, act_all}
use Rattle.semantics.specs.AnswerSets.{Assumptions}
use Rattle.semantics.proofs.Homomorphisms.{act-map}
use Rattle.tables.specs.Algebras.{Algebra, leaf, tables}
use Rattle.tables.proofs.Morphisms.{Morphism, tables-map}

-- ---- an algebra that does nothing for labels from K on: marks of K labels collide there

module _ {X : Type 0} (K : ℕ) (none : X) where
  unfoldable pub restricted : Algebra X → Algebra X
  restricted A = record {
    present = λ c a. cond (ltb a.label K) (A.present c a) none;
    absent = λ c a. cond (ltb a.label K) (A.absent c a) none;
    unmet = λ g. cond (ltb g K) (A.unmet g) none;
    united = A.united;
    relabelled = λ i j x. cond (ltb i K) (cond (ltb j K) (A.relabelled i j x) x) x;
    connected = λ k i j x. cond (ltb i K) (cond (ltb j K) (A.connected k i j x) x) x;
    order = A.order;
    merge = A.merge;
  }

  module _ (A : Algebra X) where
    abbrev tabled : (X → X) → List X → List X
    tabled f t = canon A.order A.merge (map f t)

    -- a command whose labels are below K does the same
    pub act-restricted : (o : Assumptions) (n : ℕ) (c : Command) → Suits K c → (ts : List (List X)) → act (tables (restricted A) o) n c ts ≡ act (tables A o) n c ts
    unfolding restricted tables leaf act Suits
    act-restricted o n (Atom a) s ts = rw (lt-ltb a.label K s) refl
    act-restricted o n (Rule g) s ts = rw (lt-ltb g K s) refl
    act-restricted o n Union s ts = refl
    act-restricted o n (Relabel i j) (a, b) ts = ap₂ (λ d e. change_newest (tabled (λ x. cond d (cond e (A.relabelled i j x) x) x)) ts) (lt-ltb i K a) (lt-ltb j K b)
    act-restricted o n (Connect k i j) (a, b) ts =
        ap₂ (λ d e. change_newest (λ t. tabled (λ x. cond e (cond d (A.connected k j i x) x) x) (tabled (λ x. cond d (cond e (A.connected k i j x) x) x) t)) ts) (lt-ltb i K a) (lt-ltb j K b)
    act-restricted o n (Name at) s ts = refl

-- h carries A to B where labels are below K
pub record MorphismBelow (K : ℕ) {X Y : Type 0} (A : Algebra X) (B : Algebra Y) (h : X → Y) : Type 0 where
  pub none : X
  pub none' : Y
  pub morphism : Morphism (restricted K none A) (restricted K none' B) h

module _ {K : ℕ} {X Y : Type 0} {A : Algebra X} {B : Algebra Y} {h : X → Y} (M : MorphismBelow K A B h) (o : Assumptions) where
  act-carried : (n : ℕ) (c : Command) → Suits K c → (ts : List (List X)) → act (tables B o) n c (map (map h) ts) ≡ map (map h) (act (tables A o) n c ts)
  act-carried n c s ts =
      sym (act-restricted K M.none' B o n c s (map (map h) ts)) ∙ sym (act-map (tables-map M.morphism o) n c ts) ∙ ap (map (map h)) (act-restricted K M.none A o n c s ts)

  -- then the tables of B are those of A, carried
  pub act_all-carried : (n : ℕ) (cs : List Command) → All (Suits K) cs → (ts : List (List X)) → act_all (tables B o) n cs (map (map h) ts) ≡ map (map h) (act_all (tables A o) n cs ts)
  unfolding act_all
  act_all-carried n [] s ts = refl
  act_all-carried n (c ∷ cs) s ts = ap (act_all (tables B o) (n + new_atoms c) cs) (act-carried n c s.0 ts) ∙ act_all-carried (n + new_atoms c) cs s.1 (act (tables A o) n c ts)

-- what is carried below K, and else, is carried by the restricted algebras
pub restricted-one : {X Y : Type 0} (K : ℕ) (h : X → Y) {x z : X} {y w : Y} → h z ≡ w → (g : ℕ) → (g < K → h x ≡ y) → h (cond (ltb g K) x z) ≡ cond (ltb g K) y w
restricted-one K h {x} {z} {y} {w} else g f = step (ltb g K) refl
  where
    step : (b : Bool) → ltb g K ≡ b → h (cond b x z) ≡ cond b y w
    step true e = f (ltb-true g K e)
    step false e = else

pub restricted-two : {X Y : Type 0} (K : ℕ) (h : X → Y) {x : X} {y : Y} (z : X) (i j : ℕ) → (i < K → j < K → h x ≡ y)
    → h (cond (ltb i K) (cond (ltb j K) x z) z) ≡ cond (ltb i K) (cond (ltb j K) y (h z)) (h z)
restricted-two K h z i j f = restricted-one K h refl i (λ a. restricted-one K h refl j (f a))
