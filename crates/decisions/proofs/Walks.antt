-- A decision without refusal: all checks passed, the bytes are one tree, every table on the way kept the limits, and the verdict is what that tree's
-- table says. Assumes nothing.
use mathlib.Core.Path.{◌≡◌, refl, sym, ap, ◌∙◌, subst}
use mathlib.Core.Bool.{Bool, false, true≢false}
use mathlib.Core.List.{List, [], ◌∷◌, map}
use Prim.Native.Nat.{ℕ, zero, suc, ◌+◌, ◌≤◌}
use native.Mathlib.Omega.{arith}
use lib.ListN.{length}
use Rattle.lists.specs.Lists.{All, run}
use Rattle.expression.specs.declared.Counts.{Counts}
use Rattle.expression.specs.Limits.{atom_limit}
use Rattle.expression.specs.Commands.{Suits}
use Rattle.expression.specs.Reading.{new_atoms, Placed, Reading, faulty, whole, no_counts, reading}
use Rattle.expression.specs.Checks.{Checked, Passed, Refused, Request, is_faulty, counts_of, check}
use Rattle.expression.proofs.Accepted.{check-accepted}
use Rattle.semantics.specs.Expressions.{Expr, Operations, act, act_all, trees}
use Rattle.semantics.specs.Programs.{numbers}
use Rattle.semantics.specs.AnswerSets.{Assumptions}
use Rattle.semantics.proofs.Interpretations.{Distinct}
use Rattle.semantics.proofs.Stacks.{Fits, Chain, fits_all, atoms_after, chain-all, act_all-fold}
use Rattle.semantics.proofs.Readings.{commands_of, reading-sound}
use Rattle.tables.specs.Algebras.{Algebra, tables, table}
use Rattle.decisions.specs.Decisions.{Verdict, affirmed, denied, refused, assumed, commands_in, newest, Walked, stopped, walked, walk, answer, conclude, decide, first_tree, tree_of, expression_of}

-- ---- demand 2 on the definitions: the tables that commands leave are the tables of the trees that they leave

pub tables-after : {X : Type 0} (A : Algebra X) (o : Assumptions) (cs : List Placed)
    → act_all (tables A o) 0 (commands_of cs) [] ≡ map (table A o) (act_all trees 0 (commands_of cs) [])
unfolding table
tables-after A o cs = sym (act_all-fold (tables A o) 0 (commands_of cs) [])

-- ---- a walk that no limit stops

pub walk-all : {X : Type 0} (B : Operations (List X)) (f : List X → ℕ) (n : ℕ) (cs : List Placed) (ts us : List (List X)) → walk B f n cs ts ≡ walked us
    → us ≡ act_all B n (commands_of cs) ts
unfolding walk act_all
walk-all B f n [] ts us h = cc
walk-all {X} B f n (c ∷ cs) ts us h = step (f (newest vs)) (λ k. walk-all B f (n + new_atoms c.command) cs vs us k) h
  where
    vs : List (List X)
    vs = act B n c.command ts

    step : (k : ℕ) → (walk B f (n + new_atoms c.command) cs vs ≡ walked us → us ≡ act_all B (n + new_atoms c.command) (commands_of cs) vs)
        → elim k as (λ x. Walked X) [ zero ↦ walk B f (n + new_atoms c.command) cs vs | suc m ↦ stopped (suc m) c.place ] ≡ walked us
        → us ≡ act_all B (n + new_atoms c.command) (commands_of cs) vs
    step zero g k = g k
    step (suc m) g k = let z : ◌≡◌ {A = ℕ} 0 1 = cc in absurd (omega arith)

-- ---- checks that passed

-- 5 to 12
pub record Readable (r : Reading) : Type 0 where
  pub sound : is_faulty r ≡ false
  pub one : (counts_of r).depth ≡ 1

pub check-readable : (K : ℕ) (a : Request) {z : Counts} → check K a ≡ Passed z → Readable (reading K a.bytes)
unfolding is_faulty counts_of
check-readable K a {z} h = let j = (check-accepted K a z h).joined in rw j.read (record { sound = refl; one = j.joined })

-- ---- the bytes are one tree

-- its labels are below K, its atoms are numbered 0 to n - 1, and there are at most 63
pub record OneTree (K : ℕ) (r : Reading) : Type 0 where
  pub only : act_all trees 0 (commands_of (commands_in r)) [] ≡ tree_of r ∷ []
  pub fits : Fits K (tree_of r)
  pub distinct : Distinct (tree_of r)
  pub count : ℕ
  pub numbered : numbers (tree_of r) ≡ run 0 count
  pub counted : (counts_of r).atoms ≡ count
  pub few : count ≤ atom_limit

one-tree : (es : List Expr) → 1 ≡ length es → es ≡ first_tree es ∷ []
one-tree [] h = absurd (omega arith)
one-tree (e ∷ []) h = refl
one-tree (e ∷ f ∷ es) h = absurd (omega arith)

pub readable-tree : (K : ℕ) (a : Request) (r : Reading) → reading K a.bytes ≡ r → Readable r → OneTree K r
unfolding is_faulty counts_of commands_in tree_of Chain no_counts
readable-tree K a (faulty n at) q h = absurd (true≢false h.sound)
readable-tree K a (whole cs z) q h =
    let s = reading-sound K a.bytes cs z q in
    let o = one-tree (act_all trees 0 (commands_of cs) []) (sym h.one ∙ s.depth) in
    let f = subst (All (Fits K)) o (fits_all K 0 (commands_of cs) [] s.suits tt) in
    let (lo, len, e, l, d, b) = subst (λ es. Chain es (atoms_after 0 (commands_of cs))) o (chain-all 0 (commands_of cs) [] refl) in
    let n : z.atoms ≡ len = omega (arith, s.atoms) in
    record { only = o; fits = f.0; distinct = d; count = len; numbered = e ∙ ap (λ x. run x len) b; counted = n; few = omega (arith, s.few) }

-- the labels of its commands are below K
pub commands-suit : (K : ℕ) (a : Request) {z : Counts} → check K a ≡ Passed z → All (Suits K) (commands_of (commands_in (reading K a.bytes)))
unfolding commands_in
commands-suit K a {z} h = let j = (check-accepted K a z h).joined in rw j.read (reading-sound K a.bytes j.placed z j.read).suits

-- so a walk that no limit stops leaves that tree's table
pub walked_one : {X : Type 0} (A : Algebra X) (o : Assumptions) (f : List X → ℕ) (K : ℕ) (a : Request) (us : List (List X)) → Readable (reading K a.bytes)
    → walk (tables A o) f 0 (commands_in (reading K a.bytes)) [] ≡ walked us → us ≡ table A o (expression_of K a.bytes) ∷ []
unfolding expression_of
walked_one A o f K a us r h =
    walk-all (tables A o) f 0 (commands_in (reading K a.bytes)) [] us h ∙ tables-after A o (commands_in (reading K a.bytes))
    ∙ ap (map (table A o)) (readable-tree K a (reading K a.bytes) refl r).only

-- ---- a decision without refusal

pub record Decided {X : Type 0} (A : Algebra X) (y : List X → Bool) (K : ℕ) (a : Request) (v : Verdict) : Type 0 where
  pub readable : Readable (reading K a.bytes)
  pub says : v ≡ answer (y (table A (assumed a) (expression_of K a.bytes)))

abbrev pub Settled : Verdict → Type 0
Settled affirmed = Unit {0}
Settled denied = Unit {0}
Settled (refused n at) = ⊥

pub decided : {X : Type 0} (A : Algebra X) (f : List X → ℕ) (y : List X → Bool) (K : ℕ) (a : Request) → Settled (decide A f y K a) → Decided A y K a (decide A f y K a)
unfolding decide
decided {X} A f y K a h = step (check K a) refl h
  where
    W : Walked X
    W = walk (tables A (assumed a)) f 0 (commands_in (reading K a.bytes)) []

    ends : Readable (reading K a.bytes) → (w : Walked X) → W ≡ w → Settled (conclude y w) → Decided A y K a (conclude y w)
    ends r (stopped n at) q k = unfold conclude in (absurd k)
    ends r (walked us) q k = record { readable = r; says = unfold conclude in (ap (λ vs. answer (y (newest vs))) (walked_one A (assumed a) f K a us r q)) }

    step : (c : Checked) → check K a ≡ c → Settled (elim c as (λ x. Verdict) [ Passed z ↦ conclude y W | Refused n at ↦ refused n at ])
        → Decided A y K a (elim c as (λ x. Verdict) [ Passed z ↦ conclude y W | Refused n at ↦ refused n at ])
    step (Passed z) e k = ends (check-readable K a e) W refl k
    step (Refused n at) e k = absurd k
