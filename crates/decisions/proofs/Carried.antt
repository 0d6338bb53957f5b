-- Walks over tables that a map carries to other tables: both stop at the same command, or both end, in tables that the map carries. So the two decisions
-- may be read off a walk over tables of pairs with values. Assumes nothing.
use mathlib.Core.Path.{◌≡◌, refl, sym, ap, ap₂, ◌∙◌, fun_ext}
use mathlib.Core.Bool.{Bool, false, cond, ◌||◌, and-true}
use mathlib.Core.List.{List, [], ◌∷◌, map}
use Prim.Native.Nat.{ℕ, zero, suc, ◌+◌, zero-le}
use lib.Dec.{ltb}
use lib.ListN.{length, length-map}
use borrow.Author.Tests.{le-ltb}
use Rattle.lists.specs.Lists.{All, some}
use Rattle.expression.specs.declared.Command.{Command}
use Rattle.expression.specs.declared.Counts.{Counts}
use Rattle.expression.specs.Refusals.{subsets_full, plans_full}
use Rattle.expression.specs.Reading.{new_atoms, Placed, reading}
use Rattle.expression.specs.Checks.{Passed, Refused, Request, check}
use Rattle.semantics.specs.Expressions.{Operations, act}
use Rattle.semantics.specs.AnswerSets.{Assumptions}
use Rattle.tables.specs.Algebras.{Algebra, tables}
use Rattle.tables.specs.Triples.{all_met}
use Rattle.tables.specs.Definitions.{Pair, own_triple, subsets, triples, pairs, flat, plain_accepts, accepting, grounded_accepts}
use Rattle.tables.proofs.Answers.{pairs-lawful}
use Rattle.semantics.proofs.Homomorphisms.{Homomorphism, act-map}
use Rattle.semantics.proofs.Readings.{commands_of}
use Rattle.tables.proofs.Morphisms.{Morphism, tables-map, single, single-morphism}
use Rattle.values.specs.declared.Value.{Value}
use Rattle.values.specs.Values.{Values, Valued, valued, low_words, lowered}
use Rattle.values.proofs.Items.{items, item-morphism, low-morphism}
use Rattle.decisions.specs.Decisions.{refused, assumed, commands_in, pairs_fault, plain_fault, newest, Walked, stopped, walked, walk, answer, conclude, decide, grounded, plain}

-- ---- a walk, carried

unfoldable pub map_walked : {X Y : Type 0} → (X → Y) → Walked X → Walked Y
map_walked h (stopped n at) = stopped n at
map_walked h (walked ts) = walked (map (map h) ts)

pub newest-map : {X Y : Type 0} (h : X → Y) (ts : List (List X)) → newest (map (map h) ts) ≡ map h (newest ts)
newest-map h [] = refl
newest-map h (t ∷ ts) = refl

pub walk-map : {X Y : Type 0} {h : X → Y} {B : Operations (List X)} {C : Operations (List Y)} → Homomorphism B C (map h)
    → (f : List Y → ℕ) (n : ℕ) (cs : List Placed) (ts : List (List X)) → walk C f n cs (map (map h) ts) ≡ map_walked h (walk B (λ t. f (map h t)) n cs ts)
unfolding walk map_walked
walk-map H f n [] ts = refl
walk-map {X} {Y} {h} {B} {C} H f n (c ∷ cs) ts =
    ap goes (sym (act-map H n c.command ts)) ∙ ap (λ k. next k (map (map h) us)) (ap f (newest-map h us)) ∙ step (f (map h (newest us))) (walk-map H f (n + new_atoms c.command) cs us)
  where
    us : List (List X)
    us = act B n c.command ts

    next : ℕ → List (List Y) → Walked Y
    next k vs = elim k as (λ x. Walked Y) [ zero ↦ walk C f (n + new_atoms c.command) cs vs | suc m ↦ stopped (suc m) c.place ]

    goes : List (List Y) → Walked Y
    goes vs = next (f (newest vs)) vs

    step : (k : ℕ) → walk C f (n + new_atoms c.command) cs (map (map h) us) ≡ map_walked h (walk B (λ t. f (map h t)) (n + new_atoms c.command) cs us)
        → next k (map (map h) us)
        ≡ map_walked h (elim k as (λ x. Walked X) [ zero ↦ walk B (λ t. f (map h t)) (n + new_atoms c.command) cs us | suc m ↦ stopped (suc m) c.place ])
    step zero k = k
    step (suc m) k = refl

-- operations that do the same by every command of a walk make the same walk
pub walk-alike : {X : Type 0} (B C : Operations (List X)) (P : Command → Type 0) → ((n : ℕ) (c : Command) → P c → (ts : List (List X)) → act B n c ts ≡ act C n c ts)
    → (f : List X → ℕ) (n : ℕ) (cs : List Placed) → All P (commands_of cs) → (ts : List (List X)) → walk B f n cs ts ≡ walk C f n cs ts
unfolding walk
walk-alike B C P e f n [] h ts = refl
walk-alike {X} B C P e f n (c ∷ cs) h ts =
    ap (λ us. goes us (walk B f (n + new_atoms c.command) cs us)) (e n c.command h.0 ts) ∙ ap (goes vs) (walk-alike B C P e f (n + new_atoms c.command) cs h.1 vs)
  where
    vs : List (List X)
    vs = act C n c.command ts

    goes : List (List X) → Walked X → Walked X
    goes us w = elim (f (newest us)) as (λ x. Walked X) [ zero ↦ w | suc m ↦ stopped (suc m) c.place ]

pub conclude-map : {X Y : Type 0} (h : X → Y) (y : List Y → Bool) (w : Walked X) → conclude y (map_walked h w) ≡ conclude (λ t. y (map h t)) w
unfolding conclude map_walked
conclude-map h y (stopped n at) = refl
conclude-map h y (walked ts) = ap (λ t. answer (y t)) (newest-map h ts)

-- what the one walk says is what the other says
conclude-walk : {X Y : Type 0} {A : Algebra X} {B : Algebra Y} {h : X → Y} → Morphism A B h → (o : Assumptions) (f : List Y → ℕ) (y : List Y → Bool) (cs : List Placed)
    → conclude y (walk (tables B o) f 0 cs []) ≡ conclude (λ t. y (map h t)) (walk (tables A o) (λ t. f (map h t)) 0 cs [])
conclude-walk {A = A} {h = h} M o f y cs =
    ap (conclude y) (walk-map (tables-map M o) f 0 cs []) ∙ conclude-map h y (walk (tables A o) (λ t. f (map h t)) 0 cs [])

-- ---- a table of triples as pairs without subsets: nothing exceeds the limit of subsets, and what is accepted is accepted

pub single-fault : (P G : ℕ) (t : List ℕ) → pairs_fault P G (map single t) ≡ plain_fault P t
unfolding pairs_fault plain_fault some
single-fault P G t = ap₂ (λ b n. cond b subsets_full (cond (ltb P n) plans_full 0)) (none t) (length-map t single)
  where
    none : (t : List ℕ) → some (λ (x : Pair). ltb G (length (subsets x))) (map single t) ≡ false
    none [] = refl
    none (q ∷ t) = ap₂ ◌||◌ (le-ltb G 0 zero-le) (none t)

single-accepts : (K : ℕ) (t : List ℕ) → grounded_accepts K (map single t) ≡ plain_accepts K t
unfolding grounded_accepts plain_accepts accepting some
single-accepts K [] = refl
single-accepts K (q ∷ t) = ap₂ ◌||◌ (and-true (all_met K q)) (single-accepts K t)

single-own : (K : ℕ) (t : List ℕ) → some (λ (x : Pair). all_met K (own_triple x)) (map single t) ≡ plain_accepts K t
unfolding plain_accepts some
single-own K [] = refl
single-own K (q ∷ t) = ap (λ b. all_met K q || b) (single-own K t)

flat_keeps : (K : ℕ) (x y : Pair) → (flat K).merge x y ≡ y
unfolding flat
flat_keeps K x y = refl

-- ---- the two decisions

-- the walk over tables of pairs with values that a request asks for
abbrev pub valued_walk : {W : Type 0} → Algebra Pair → Values W → ℕ → ℕ → Request → Walked (Valued Pair W)
valued_walk A R G K a = walk (tables (valued A R) (assumed a)) (λ t. pairs_fault a.pair_limit G (items t)) 0 (commands_in (reading K a.bytes)) []

-- that with numbers is that with words, the low ones taken
low-items : {X : Type 0} (t : List (Valued X Value)) → items (map lowered t) ≡ items t
low-items [] = refl
low-items {X} (x ∷ t) = ap {B = List X} (λ xs. x.item ∷ xs) (low-items t)

pub low-walk : (A : Algebra Pair) (R : Values ℕ) (G K : ℕ) (a : Request) → valued_walk A R G K a ≡ map_walked lowered (valued_walk A (low_words R) G K a)
low-walk A R G K a =
    walk-map (tables-map (low-morphism A R) (assumed a)) (λ t. pairs_fault a.pair_limit G (items t)) 0 cs []
    ∙ ap (λ (f : List (Valued Pair Value) → ℕ). map_walked lowered (walk (tables (valued A (low_words R)) (assumed a)) f 0 cs [])) (fun_ext (λ t. ap (pairs_fault a.pair_limit G) (low-items t)))
  where
    cs : List Placed
    cs = commands_in (reading K a.bytes)

pub decide-passed : {X : Type 0} (A : Algebra X) (f : List X → ℕ) (y : List X → Bool) (K : ℕ) (a : Request) {z : Counts} → check K a ≡ Passed z
    → decide A f y K a ≡ conclude y (walk (tables A (assumed a)) f 0 (commands_in (reading K a.bytes)) [])
unfolding decide
decide-passed A f y K a h = rw (h, decide)

decide-refused : {X : Type 0} (A : Algebra X) (f : List X → ℕ) (y : List X → Bool) (K : ℕ) (a : Request) {n at : ℕ} → check K a ≡ Refused n at
    → decide A f y K a ≡ refused n at
unfolding decide
decide-refused A f y K a h = rw (h, decide)

pub conclude-stopped : {X : Type 0} (y : List X → Bool) {w : Walked X} {n at : ℕ} → w ≡ stopped n at → conclude y w ≡ refused n at
unfolding conclude
conclude-stopped y h = ap (conclude y) h

pub conclude-walked : {X : Type 0} (y : List X → Bool) {w : Walked X} {us : List (List X)} → w ≡ walked us → conclude y w ≡ answer (y (newest us))
unfolding conclude
conclude-walked y h = ap (conclude y) h

pub grounded-refused : (K : ℕ) (a : Request) {n at : ℕ} → check K a ≡ Refused n at → grounded K a ≡ refused n at
unfolding grounded
grounded-refused K a h = decide-refused (pairs K) (pairs_fault a.pair_limit a.subset_limit) (grounded_accepts K) K a h

pub plain-refused : (K : ℕ) (a : Request) {n at : ℕ} → check K a ≡ Refused n at → plain K a ≡ refused n at
unfolding plain
plain-refused K a h = decide-refused (triples K) (plain_fault a.pair_limit) (plain_accepts K) K a h

module _ {W : Type 0} (R : Values W) (K : ℕ) (a : Request) {z : Counts} (passed : check K a ≡ Passed z) where
  abbrev commands : List Placed
  commands = commands_in (reading K a.bytes)

  grounded-is : grounded K a ≡ conclude (λ t. grounded_accepts K (items t)) (valued_walk (pairs K) R a.subset_limit K a)
  unfolding grounded
  grounded-is =
      decide-passed (pairs K) (pairs_fault a.pair_limit a.subset_limit) (grounded_accepts K) K a passed
      ∙ conclude-walk (item-morphism (pairs K) R (pairs-lawful K).keeps) (assumed a) (pairs_fault a.pair_limit a.subset_limit) (grounded_accepts K) commands

  pub grounded-stopped : {n at : ℕ} → valued_walk (pairs K) R a.subset_limit K a ≡ stopped n at → grounded K a ≡ refused n at
  grounded-stopped h = grounded-is ∙ conclude-stopped (λ t. grounded_accepts K (items t)) h

  pub grounded-walked : {us : List (List (Valued Pair W))} → valued_walk (pairs K) R a.subset_limit K a ≡ walked us → grounded K a ≡ answer (grounded_accepts K (items (newest us)))
  grounded-walked h = grounded-is ∙ conclude-walked (λ t. grounded_accepts K (items t)) h

  -- plainly, by any limit of subsets, and by any test that says of pairs without subsets what the plain one says of their triples
  plain-is : (G : ℕ) (y : List Pair → Bool) → ((t : List ℕ) → y (map single t) ≡ plain_accepts K t) → plain K a ≡ conclude (λ t. y (items t)) (valued_walk (flat K) R G K a)
  unfolding plain
  plain-is G y same =
      decide-passed (triples K) (plain_fault a.pair_limit) (plain_accepts K) K a passed
      ∙ ap₂ (λ f v. conclude v (walk (tables (triples K) (assumed a)) f 0 commands [])) (fun_ext (λ t. sym (single-fault a.pair_limit G t))) (fun_ext (λ t. sym (same t)))
      ∙ sym (conclude-walk (single-morphism K) (assumed a) (pairs_fault a.pair_limit G) y commands)
      ∙ conclude-walk (item-morphism (flat K) R (flat_keeps K)) (assumed a) (pairs_fault a.pair_limit G) y commands

  pub plain-stopped : (G : ℕ) {n at : ℕ} → valued_walk (flat K) R G K a ≡ stopped n at → plain K a ≡ refused n at
  plain-stopped G h = plain-is G (grounded_accepts K) (single-accepts K) ∙ conclude-stopped (λ t. grounded_accepts K (items t)) h

  -- by the test of a pair's own triple, or by the grounded one
  pub plain-walked : (G : ℕ) {us : List (List (Valued Pair W))} → valued_walk (flat K) R G K a ≡ walked us → plain K a ≡ answer (some (λ x. all_met K (own_triple x)) (items (newest us)))
  plain-walked G h = plain-is G (λ t. some (λ x. all_met K (own_triple x)) t) (single-own K) ∙ conclude-walked (λ t. some (λ x. all_met K (own_triple x)) (items t)) h

  pub plain-walked-grounded : (G : ℕ) {us : List (List (Valued Pair W))} → valued_walk (flat K) R G K a ≡ walked us → plain K a ≡ answer (grounded_accepts K (items (newest us)))
  plain-walked-grounded G h = plain-is G (grounded_accepts K) (single-accepts K) ∙ conclude-walked (λ t. grounded_accepts K (items t)) h
