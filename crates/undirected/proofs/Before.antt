-- AN EXPRESSION WHOSE LINKS GO ONE WAY IS WHAT IT WAS (02, Item 11): if at every link i j the part linked has no rules of label i, or no atoms of label j, then its
-- tables, verdicts, plans and answer sets are those of directed links. Assumes nothing.
use mathlib.Core.Path.{◌≡◌, refl, sym, ap, ap₂, ◌∙◌}
use mathlib.Core.Logic.{◌↔◌}
use mathlib.Core.Bool.{Bool}
use mathlib.Core.List.{List, [], ◌∷◌, ◌++◌, map}
use Prim.Native.Nat.{ℕ, zero, suc, ◌+◌}
use Rattle.lists.specs.Lists.{All}
use Rattle.expression.specs.declared.Kind.{Kind}
use Rattle.expression.specs.declared.Command.{Command}
use Rattle.expression.specs.declared.Command.TheVariants.{Atom, Rule, Union, Relabel, Connect, Name}
use Rattle.expression.specs.Commands.{Suits}
use Rattle.expression.specs.Reading.{new_atoms, Placed, Reading, faulty, whole, reading}
use Rattle.expression.specs.Checks.{Passed, Refused, Request, check}
use Rattle.semantics.specs.Expressions.{Expr, connect, fold, unite_newest, change_newest, link, act, act_all, trees}
use Rattle.semantics.specs.Programs.{atoms, rules, numbers, externals, relabel_atom, relabel_rule, connect_rule, labelled}
use Rattle.semantics.specs.AnswerSets.{Interpretation, Assumptions, AnswerSet}
use Rattle.semantics.proofs.Homomorphisms.{act-map, folds}
use Rattle.semantics.proofs.Interpretations.{Distinct}
use Rattle.semantics.proofs.Stacks.{Fits, Chain, fits-act, chain-act}
use Rattle.semantics.proofs.Readings.{commands_of, reading-sound}
use Rattle.tables.specs.Algebras.{Algebra, tables, table}
use Rattle.tables.specs.Definitions.{triples, pairs, plain_accepts, grounded_accepts}
use Rattle.tables.proofs.Exactness.{exact-tables}
use Rattle.decisions.specs.Decisions.{refused, assumed, commands_in, pairs_fault, plain_fault, Walked, stopped, walk, newest, conclude, decide, grounded, plain, first_tree, tree_of, expression_of}
use Rattle.decisions.specs.First.{leaving, keeping, chosen, first_mask}
use Rattle.decisions.specs.Outcomes.{with_mask, without_mask, grounded_outcome, plain_outcome}
use Rattle.undirected.specs.Before.{OneWayOn, OneWay, OneWaySheet, act_before, act_all_before, walk_before, decide_before, grounded_before, plain_before, chosen_before, outcome_before, plain_outcome_before, expression_before}
use Rattle.undirected.proofs.Programs.{Same, same-link, same-pairs, same-triples, same-answers}

-- ---- tables

-- the tables of an algebra go by the program: a link whose new half is without effect makes the table of the directed one
abbrev ByProgram : {X : Type 0} → ℕ → Algebra X → Type 0
ByProgram K A = (o : Assumptions) (k : Kind) (i j : ℕ) (e : Expr) → Fits K (connect k j i (connect k i j e)) → (lo : ℕ) (es : List Expr) → Chain (e ∷ es) lo
    → Same (connect k j i (connect k i j e)) (connect k i j e) → table A o (connect k j i (connect k i j e)) ≡ table A o (connect k i j e)

pairs-by-program : (K : ℕ) → ByProgram K (pairs K)
unfolding Fits Chain Distinct
pairs-by-program K o k i j e f lo es (a, b, n, l, d, rest) s =
    same-pairs K s o (exact-tables K (connect k j i (connect k i j e)) f d o) (exact-tables K (connect k i j e) f.2 d o)

triples-by-program : (K : ℕ) → ByProgram K (triples K)
unfolding Fits Chain Distinct
triples-by-program K o k i j e f lo es (a, b, n, l, d, rest) s =
    same-triples K s o (exact-tables K (connect k j i (connect k i j e)) f d o) (exact-tables K (connect k i j e) f.2 d o)

module _ {X : Type 0} (K : ℕ) (A : Algebra X) (by : ByProgram K A) (o : Assumptions) where
  -- each command
  pub act-before : (n : ℕ) (c : Command) (es : List Expr) → Suits K c → All (Fits K) es → Chain es n → OneWayOn c es
      → act (tables A o) n c (map (table A o) es) ≡ act_before (tables A o) n c (map (table A o) es)
  unfolding act act_before change_newest table fold Suits Fits
  act-before n (Connect k i j) [] s f c w = refl
  act-before n (Connect k i j) (e ∷ es) s f c w =
      ap {B = List (List X)} (λ t. t ∷ map (table A o) es) (by o k i j e (s.1, s.0, (s.0, s.1, f.0)) n es c (same-link k i j e w))
  act-before n (Atom a) es s f c w = refl
  act-before n (Rule g) es s f c w = refl
  act-before n Union es s f c w = refl
  act-before n (Relabel i j) es s f c w = refl
  act-before n (Name at) es s f c w = refl

  -- what stands after a command, both ways
  next-before : (n : ℕ) (c : Command) (es : List Expr) → Suits K c → All (Fits K) es → Chain es n → OneWayOn c es → act_before (tables A o) n c (map (table A o) es) ≡ map (table A o) (act trees n c es)
  unfolding table
  next-before n c es s f h w = sym (act-before n c es s f h w) ∙ sym (act-map (folds (tables A o)) n c es)

  -- the tables on the way
  pub tables-before : (n : ℕ) (cs : List Command) (es : List Expr) → All (Suits K) cs → All (Fits K) es → Chain es n → OneWay n cs es
      → act_all (tables A o) n cs (map (table A o) es) ≡ act_all_before (tables A o) n cs (map (table A o) es)
  unfolding act_all act_all_before OneWay
  tables-before n [] es s f h w = refl
  tables-before n (c ∷ cs) es s f h w =
      ap (act_all (tables A o) (n + new_atoms c) cs) (act-before n c es s.0 f h w.0 ∙ next-before n c es s.0 f h w.0)
      ∙ tables-before (n + new_atoms c) cs (act trees n c es) s.1 (fits-act K n c es s.0 f) (chain-act n c es h) w.1
      ∙ ap (act_all_before (tables A o) (n + new_atoms c) cs) (sym (next-before n c es s.0 f h w.0))

  -- and where a walk over them stops
  walk-is_before : (f : List X → ℕ) (n : ℕ) (cs : List Placed) (es : List Expr) → All (Suits K) (commands_of cs) → All (Fits K) es → Chain es n → OneWay n (commands_of cs) es
      → walk (tables A o) f n cs (map (table A o) es) ≡ walk_before (tables A o) f n cs (map (table A o) es)
  unfolding walk walk_before OneWay
  walk-is_before f n [] es s g h w = refl
  walk-is_before f n (c ∷ cs) es s g h w =
      ap (λ us. goes us (walk (tables A o) f (n + new_atoms c.command) cs us)) (act-before n c.command es s.0 g h w.0 ∙ there)
      ∙ ap (goes (map (table A o) es')) (walk-is_before f (n + new_atoms c.command) cs es' s.1 (fits-act K n c.command es s.0 g) (chain-act n c.command es h) w.1)
      ∙ ap (λ us. goes us (walk_before (tables A o) f (n + new_atoms c.command) cs us)) (sym there)
    where
      es' : List Expr
      es' = act trees n c.command es

      there : act_before (tables A o) n c.command (map (table A o) es) ≡ map (table A o) es'
      there = next-before n c.command es s.0 g h w.0

      goes : List (List X) → Walked X → Walked X
      goes us v = elim (f (newest us)) as (λ x. Walked X) [ zero ↦ v | suc m ↦ stopped (suc m) c.place ]

-- ---- the verdict and the plan

suits-read : (K : ℕ) (r : Reading) (s : List ℕ) → reading K s ≡ r → All (Suits K) (commands_of (commands_in r))
unfolding commands_in
suits-read K (faulty n at) s e = tt
suits-read K (whole cs z) s e = (reading-sound K s cs z e).suits

module _ (K : ℕ) where
  decide-before : {X : Type 0} (A : Algebra X) → ByProgram K A → (f : List X → ℕ) (y : List X → Bool) (a : Request) → OneWaySheet K a.bytes → decide A f y K a ≡ decide_before A f y K a
  unfolding decide decide_before Chain
  decide-before A by f y a w =
      ap (λ v. elim (check K a) [ Passed z ↦ conclude y v | Refused n at ↦ refused n at ])
      (walk-is_before K A by (assumed a) f 0 (commands_in (reading K a.bytes)) [] (suits-read K (reading K a.bytes) a.bytes refl) tt refl w)

  pub grounded-before : (a : Request) → OneWaySheet K a.bytes → grounded K a ≡ grounded_before K a
  unfolding grounded grounded_before
  grounded-before a w = decide-before (pairs K) (pairs-by-program K) (pairs_fault a.pair_limit a.subset_limit) (grounded_accepts K) a w

  pub plain-before : (a : Request) → OneWaySheet K a.bytes → plain K a ≡ plain_before K a
  unfolding plain plain_before
  plain-before a w = decide-before (triples K) (triples-by-program K) (plain_fault a.pair_limit) (plain_accepts K) a w

  chosen-before : (a : Request) → OneWaySheet K a.bytes → (cs : List ℕ) → chosen K a cs ≡ chosen_before K a cs
  unfolding chosen chosen_before
  chosen-before a w [] = refl
  chosen-before a w (c ∷ cs) = rw (grounded-before (leaving c a) w, chosen-before (leaving c a) w cs, chosen-before (keeping c a) w cs) refl

  pub outcome-before : (a : Request) → OneWaySheet K a.bytes → grounded_outcome K a ≡ outcome_before K a
  unfolding first_mask
  outcome-before a w = ap₂ with_mask (chosen-before a w _) (grounded-before a w)

  pub plain-outcome-before : (a : Request) → OneWaySheet K a.bytes → plain_outcome K a ≡ plain_outcome_before K a
  plain-outcome-before a w = ap without_mask (plain-before a w)

  -- the tables on the way, by bytes and assumptions alone
  pub pairs-before : (o : Assumptions) (s : List ℕ) → OneWaySheet K s → let cs = commands_of (commands_in (reading K s)) in act_all (tables (pairs K) o) 0 cs [] ≡ act_all_before (tables (pairs K) o) 0 cs []
  unfolding Chain
  pairs-before o s w = tables-before K (pairs K) (pairs-by-program K) o 0 (commands_of (commands_in (reading K s))) [] (suits-read K (reading K s) s refl) tt refl w

  pub triples-before : (o : Assumptions) (s : List ℕ) → OneWaySheet K s → let cs = commands_of (commands_in (reading K s)) in act_all (tables (triples K) o) 0 cs [] ≡ act_all_before (tables (triples K) o) 0 cs []
  unfolding Chain
  triples-before o s w = tables-before K (triples K) (triples-by-program K) o 0 (commands_of (commands_in (reading K s))) [] (suits-read K (reading K s) s refl) tt refl w

-- ---- the rules

abbrev Alike : List Expr → List Expr → Type 0
Alike [] [] = Unit {0}
Alike [] (f ∷ fs) = ⊥
Alike (e ∷ es) [] = ⊥
Alike (e ∷ es) (f ∷ fs) = Same e f × Alike es fs

itself : (e : Expr) → Same e e
itself e = record { same-atoms = refl; same-rules = refl; same_numbers = refl; same-externals = refl }

then : {e f g : Expr} → Same e f → Same f g → Same e g
then s t = record {
  same-atoms = s.same-atoms ∙ t.same-atoms;
  same-rules = s.same-rules ∙ t.same-rules;
  same_numbers = s.same_numbers ∙ t.same_numbers;
  same-externals = s.same-externals ∙ t.same-externals;
}

-- a connect of two trees of one program
connect-same : (k : Kind) (i j : ℕ) {e f : Expr} → Same e f → Same (connect k i j e) (connect k i j f)
unfolding atoms rules numbers externals
connect-same k i j s = record {
  same-atoms = s.same-atoms;
  same-rules = ap₂ (λ cs rs. map (connect_rule k j (labelled i cs)) rs) s.same-atoms s.same-rules;
  same_numbers = s.same_numbers;
  same-externals = s.same-externals;
}

act-alike : (n : ℕ) (c : Command) (es fs : List Expr) → OneWayOn c es → Alike es fs → Alike (act trees n c es) (act_before trees n c fs)
unfolding act act_before trees unite_newest change_newest atoms rules numbers externals
act-alike n (Atom a) es fs w h = (itself _, h)
act-alike n (Rule g) es fs w h = (itself _, h)
act-alike n Union [] [] w h = h
act-alike n Union (b ∷ []) (c ∷ []) w h = h
act-alike n Union (b ∷ a ∷ es) (c ∷ d ∷ fs) w (s, (t, h)) = (
  record {
    same-atoms = ap₂ ◌++◌ t.same-atoms s.same-atoms;
    same-rules = ap₂ ◌++◌ t.same-rules s.same-rules;
    same_numbers = ap₂ ◌++◌ t.same_numbers s.same_numbers;
    same-externals = ap₂ ◌++◌ t.same-externals s.same-externals;
  },
  h,
)
act-alike n Union [] (f ∷ fs) w h = absurd h
act-alike n Union (e ∷ es) [] w h = absurd h
act-alike n Union (e ∷ []) (f ∷ g ∷ fs) w h = absurd h.1
act-alike n Union (e ∷ a ∷ es) (f ∷ []) w h = absurd h.1
act-alike n (Relabel i j) [] [] w h = h
act-alike n (Relabel i j) [] (f ∷ fs) w h = absurd h
act-alike n (Relabel i j) (e ∷ es) [] w h = absurd h
act-alike n (Relabel i j) (e ∷ es) (f ∷ fs) w (s, h) = (
  record {
    same-atoms = ap (map (relabel_atom i j)) s.same-atoms;
    same-rules = ap (map (relabel_rule i j)) s.same-rules;
    same_numbers = s.same_numbers;
    same-externals = s.same-externals;
  },
  h,
)
act-alike n (Connect k i j) [] [] w h = h
act-alike n (Connect k i j) [] (f ∷ fs) w h = absurd h
act-alike n (Connect k i j) (e ∷ es) [] w h = absurd h
act-alike n (Connect k i j) (e ∷ es) (f ∷ fs) w (s, h) = (then (same-link k i j e w) (connect-same k i j s), h)
act-alike n (Name at) es fs w h = h

all_alike : (n : ℕ) (cs : List Command) (es fs : List Expr) → OneWay n cs es → Alike es fs → Alike (act_all trees n cs es) (act_all_before trees n cs fs)
unfolding act_all act_all_before OneWay
all_alike n [] es fs w h = h
all_alike n (c ∷ cs) es fs w h = all_alike (n + new_atoms c) cs (act trees n c es) (act_before trees n c fs) w.1 (act-alike n c es fs w.0 h)

first_alike : (es fs : List Expr) → Alike es fs → Same (first_tree es) (first_tree fs)
first_alike [] [] h = itself _
first_alike [] (f ∷ fs) h = absurd h
first_alike (e ∷ es) [] h = absurd h
first_alike (e ∷ es) (f ∷ fs) h = h.0

-- the same program, so the same grounded plans
pub answer_set-before : (K : ℕ) (s : List ℕ) → OneWaySheet K s → (p : Interpretation) → AnswerSet (expression_of K s) p ↔ AnswerSet (expression_before K s) p
unfolding expression_of tree_of expression_before
answer_set-before K s w =
    let cs = commands_of (commands_in (reading K s)) in
    same-answers (first_alike (act_all trees 0 cs []) (act_all_before trees 0 cs []) (all_alike 0 cs [] [] w tt))
