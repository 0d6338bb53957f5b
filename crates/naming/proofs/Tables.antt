-- What commands make without the names among them: the same trees and tables, and the same walk, the place of a stop apart. Assumes nothing.
use mathlib.Core.Path.{◌≡◌, refl, sym, ap, ◌∙◌}
use mathlib.Core.Logic.{◌⊎◌, inl, inr}
use mathlib.Core.Bool.{Bool, true, false}
use mathlib.Core.List.{List, [], ◌∷◌, ◌++◌, append_assoc, map-append}
use Prim.Native.Nat.{ℕ, zero, suc, ◌+◌}
use native.Mathlib.Nat.{add-zero}
use lib.ListN.{length, take, drop, take-append-drop}
use lib.Seq.{take-append_seam}
use Rattle.lists.proofs.Members.{map-take}
use Rattle.expression.specs.declared.Command.{Command}
use Rattle.expression.specs.declared.Command.TheVariants.{Name}
use Rattle.expression.specs.declared.Counts.{Counts}
use Rattle.expression.specs.Effects.{effect}
use Rattle.expression.specs.Reading.{new_atoms, Placed, whole, reading}
use Rattle.semantics.specs.Expressions.{Operations, act, act_all, trees}
use Rattle.semantics.specs.AnswerSets.{Assumptions}
use Rattle.semantics.proofs.Readings.{commands_of}
use Rattle.tables.specs.Algebras.{tables}
use Rattle.tables.specs.Definitions.{Pair, pairs}
use Rattle.decisions.specs.Decisions.{commands_in, newest, Walked, stopped, walked, walk, answer, conclude, first_tree, tree_of, expression_of}
use Rattle.decisions.specs.Exceeding.{table_after}
use Rattle.naming.specs.Unnamed.{unless_name, without_names, unnamed, placeless}
use Rattle.naming.proofs.Moved.{Other, name-or-other}
use Rattle.naming.proofs.Unnamed.{without-name, without_other, reading-unnamed}

-- ---- on any stack

pub act_all-unnamed : {Y : Type 0} (B : Operations Y) (n : ℕ) (cs : List Command) (ys : List Y) → act_all B n (without_names cs) ys ≡ act_all B n cs ys
unfolding act_all act effect without_names
act_all-unnamed B n [] ys = refl
act_all-unnamed {Y} B n (c ∷ cs) ys = step (name-or-other c) (λ m us. act_all-unnamed B m cs us)
  where
    step : ((at : ℕ) × (c ≡ Name at)) ⊎ Other c → ((m : ℕ) (us : List Y) → act_all B m (without_names cs) us ≡ act_all B m cs us)
        → act_all B n (without_names (c ∷ cs)) ys ≡ act_all B n (c ∷ cs) ys
    step (inl (at, e)) rest = rw (e, without-name at cs, add-zero) (rest n ys)
    step (inr o) rest = rw (without_other c cs o) (rest (n + new_atoms c) (act B n c ys))

-- the tree, so the meaning
pub tree-unnamed : (K : ℕ) (s : List ℕ) (cs : List Placed) (z : Counts) → reading K s ≡ whole cs z → expression_of K (unnamed K s) ≡ expression_of K s
unfolding expression_of tree_of commands_in
tree-unnamed K s cs z h =
    let (ds, e, same) = reading-unnamed K s cs z h in
    ap tree_of e ∙ ap first_tree (ap (λ xs. act_all trees 0 xs []) same ∙ act_all-unnamed trees 0 (commands_of cs) []) ∙ sym (ap tree_of h)

-- ---- the tables on the way

without-append : (cs ds : List Command) → without_names (cs ++ ds) ≡ without_names cs ++ without_names ds
unfolding without_names
without-append [] ds = refl
without-append (c ∷ cs) ds = ap (λ xs. unless_name c (c ∷ []) ++ xs) (without-append cs ds) ∙ sym (append_assoc (unless_name c (c ∷ [])) (without_names cs) (without_names ds))

-- the first k commands without their names are the first commands without names, as many as there are
take-unnamed : (k : ℕ) (cs : List Placed) → take (length (without_names (commands_of (take k cs)))) (without_names (commands_of cs)) ≡ without_names (commands_of (take k cs))
take-unnamed k cs =
    let first = commands_of (take k cs) in
    let rest = commands_of (drop k cs) in
    ap (λ xs. take (length (without_names first)) (without_names (commands_of xs))) (sym (take-append-drop k cs))
    ∙ ap (λ xs. take (length (without_names first)) (without_names xs)) (map-append (λ p. p.command) (take k cs) (drop k cs))
    ∙ ap (take (length (without_names first))) (without-append first rest)
    ∙ take-append_seam (without_names first) (without_names rest)

-- that after k commands is that after those of them that are no names, whatever is assumed
pub tables-unnamed : (K : ℕ) (s : List ℕ) (cs : List Placed) (z : Counts) → reading K s ≡ whole cs z → (o : Assumptions) (k : ℕ)
    → table_after K (unnamed K s) o (length (without_names (commands_of (take k cs)))) ≡ table_after K s o k
unfolding commands_in
tables-unnamed K s cs z h o k =
    let (ds, e, same) = reading-unnamed K s cs z h in
    let j = length (without_names (commands_of (take k cs))) in
    let made : List Command → List Pair = λ xs. newest (act_all (tables (pairs K) o) 0 xs []) in
    ap (λ r. made (commands_of (take j (commands_in r)))) e
    ∙ ap made (map-take (λ p. p.command) j ds ∙ ap (take j) same ∙ take-unnamed k cs)
    ∙ ap newest (act_all-unnamed (tables (pairs K) o) 0 (commands_of (take k cs)) [])
    ∙ sym (ap (λ r. made (commands_of (take k (commands_in r)))) h)

-- ---- the walk, its place apart

unfoldable unplaced : {X : Type 0} → Walked X → Walked X
unplaced (stopped n at) = stopped n 0
unplaced (walked ts) = walked ts

-- a walk by commands that have no places
unfoldable walk_by : {X : Type 0} → Operations (List X) → (List X → ℕ) → ℕ → List Command → List (List X) → Walked X
walk_by B f n [] ts = walked ts
walk_by B f n (c ∷ cs) ts = let us = act B n c ts in elim (f (newest us)) [ zero ↦ walk_by B f (n + new_atoms c) cs us | suc k ↦ stopped (suc k) 0 ]

module _ {X : Type 0} (B : Operations (List X)) (f : List X → ℕ) where
  walk-by : (n : ℕ) (cs : List Placed) (ts : List (List X)) → unplaced (walk B f n cs ts) ≡ walk_by B f n (commands_of cs) ts
  unfolding walk walk_by unplaced
  walk-by n [] ts = refl
  walk-by n (c ∷ cs) ts = step (f (newest us)) (walk-by (n + new_atoms c.command) cs us)
    where
      us : List (List X)
      us = act B n c.command ts

      step : (k : ℕ) → unplaced (walk B f (n + new_atoms c.command) cs us) ≡ walk_by B f (n + new_atoms c.command) (commands_of cs) us
          → unplaced {X = X} (elim k as (λ x. Walked X) [ zero ↦ walk B f (n + new_atoms c.command) cs us | suc m ↦ stopped (suc m) c.place ])
          ≡ elim k as (λ x. Walked X) [ zero ↦ walk_by B f (n + new_atoms c.command) (commands_of cs) us | suc m ↦ stopped (suc m) 0 ]
      step zero e = e
      step (suc m) e = refl

  -- a name leaves the newest table, which exceeds no limit
  name-walks : (n at : ℕ) (cs : List Command) (ts : List (List X)) → f (newest ts) ≡ 0 → walk_by B f n (Name at ∷ cs) ts ≡ walk_by B f n cs ts
  unfolding walk_by act effect
  name-walks n at cs ts h = rw (h, walk_by) (ap (λ m. walk_by B f m cs ts) (add-zero n))

  -- any other command leaves one that exceeds none, or is the last
  other-walks : (n : ℕ) (c : Command) (cs ds : List Command) (ts : List (List X))
      → (f (newest (act B n c ts)) ≡ 0 → walk_by B f (n + new_atoms c) ds (act B n c ts) ≡ walk_by B f (n + new_atoms c) cs (act B n c ts)) → walk_by B f n (c ∷ ds) ts ≡ walk_by B f n (c ∷ cs) ts
  unfolding walk_by
  other-walks n c cs ds ts rest = step (f (newest us)) rest
    where
      us : List (List X)
      us = act B n c ts

      goes : ℕ → Walked X → Walked X
      goes k w = elim k as (λ x. Walked X) [ zero ↦ w | suc m ↦ stopped (suc m) 0 ]

      step : (k : ℕ) → (k ≡ 0 → walk_by B f (n + new_atoms c) ds us ≡ walk_by B f (n + new_atoms c) cs us)
          → goes k (walk_by B f (n + new_atoms c) ds us) ≡ goes k (walk_by B f (n + new_atoms c) cs us)
      step zero g = g refl
      step (suc m) g = refl

  walk_by-unnamed : (n : ℕ) (cs : List Command) (ts : List (List X)) → f (newest ts) ≡ 0 → walk_by B f n (without_names cs) ts ≡ walk_by B f n cs ts
  unfolding without_names
  walk_by-unnamed n [] ts h = refl
  walk_by-unnamed n (c ∷ cs) ts h = step (name-or-other c) (λ m us. walk_by-unnamed m cs us)
    where
      step : ((at : ℕ) × (c ≡ Name at)) ⊎ Other c → ((m : ℕ) (us : List (List X)) → f (newest us) ≡ 0 → walk_by B f m (without_names cs) us ≡ walk_by B f m cs us)
          → walk_by B f n (without_names (c ∷ cs)) ts ≡ walk_by B f n (c ∷ cs) ts
      step (inl (at, e)) rest = rw (e, without-name at cs) (rest n ts h ∙ sym (name-walks n at cs ts h))
      step (inr o) rest = rw (without_other c cs o) (other-walks n c cs (without_names cs) ts (rest (n + new_atoms c) (act B n c ts)))

  conclude-unplaced : (y : List X → Bool) (w : Walked X) → placeless (conclude y w) ≡ conclude y (unplaced w)
  unfolding placeless conclude unplaced answer
  conclude-unplaced y (stopped n at) = refl
  conclude-unplaced y (walked ts) = said (y (newest ts))
    where
      said : (b : Bool) → placeless (answer b) ≡ answer b
      said true = refl
      said false = refl

  -- so the two walks say the same
  pub walk-unnamed : (y : List X → Bool) (cs ds : List Placed) → f [] ≡ 0 → commands_of ds ≡ without_names (commands_of cs)
      → placeless (conclude y (walk B f 0 ds [])) ≡ placeless (conclude y (walk B f 0 cs []))
  walk-unnamed y cs ds h same =
      conclude-unplaced y (walk B f 0 ds [])
      ∙ ap (conclude y) (walk-by 0 ds [] ∙ ap (λ xs. walk_by B f 0 xs []) same ∙ walk_by-unnamed 0 (commands_of cs) [] h ∙ sym (walk-by 0 cs []))
      ∙ sym (conclude-unplaced y (walk B f 0 cs []))
