-- NO OTHER ANSWER CHANGES with more labels (02, Item 12): L in place of K, for K ≤ L. A request that 7 does not refuse over K gets over L the same verdict
-- and plan, by the same tables, laid out anew. Assumes nothing.
use mathlib.Core.Path.{◌≡◌, refl, sym, ap, ap₂, ◌∙◌, fun_ext}
use mathlib.Core.Bool.{Bool, cond, not, ◌&&◌, ◌||◌}
use mathlib.Core.List.{List, [], ◌∷◌, map}
use Prim.Native.Nat.{ℕ, zero, suc, ◌≤◌}
use native.Mathlib.Omega.{arith}
use lib.Dec.{ltb}
use lib.ListN.{length, length-map, take}
use Rattle.lists.specs.Lists.{some, All, run}
use Rattle.labels.specs.Labels.{label_count}
use Rattle.expression.specs.declared.Counts.{Counts}
use Rattle.expression.specs.Refusals.{group, subsets_full, plans_full}
use Rattle.expression.specs.Commands.{Suits}
use Rattle.expression.specs.Reading.{Placed, Reading, reading}
use Rattle.expression.specs.Checks.{Checked, Passed, Refused, Request, first_of, counts_of, checks, check}
use Rattle.semantics.specs.Expressions.{act_all}
use Rattle.semantics.specs.Programs.{numbers}
use Rattle.semantics.specs.AnswerSets.{Assumptions}
use Rattle.semantics.proofs.Readings.{commands_of}
use Rattle.tables.specs.Algebras.{Algebra, tables}
use Rattle.tables.specs.Triples.{all_met}
use Rattle.tables.specs.Definitions.{Pair, own_triple, subsets, pairs, plain_accepts, accepting, grounded_accepts}
use Rattle.tables.proofs.Morphisms.{tables-map}
use Rattle.decisions.specs.Decisions.{assumed, commands_in, pairs_fault, plain_fault, newest, walk, conclude, decide, grounded, plain, tree_of, expression_of}
use Rattle.decisions.specs.First.{leaving, keeping, chosen, first_mask}
use Rattle.decisions.specs.Outcomes.{with_mask, without_mask, grounded_outcome, plain_outcome}
use Rattle.decisions.specs.Exceeding.{table_after}
use Rattle.decisions.proofs.Carried.{map_walked, newest-map, walk-map, walk-alike, conclude-map, decide-passed, grounded-refused}
use Rattle.decisions.proofs.Walks.{commands-suit}
use Rattle.wider.specs.Layouts.{labels_before, laid_out}
use Rattle.wider.proofs.Checks.{check-wider, passed-wider}
use Rattle.wider.proofs.Restrictions.{restricted, act-restricted, MorphismBelow, act_all-carried}
use Rattle.wider.proofs.Laid.{laid-met, laid-own, laid-subsets, triples-wider, pairs-wider}

-- ---- walks by commands whose labels are below K

walk-carried : {X Y : Type 0} {K : ℕ} {A : Algebra X} {B : Algebra Y} {h : X → Y} → MorphismBelow K A B h → (o : Assumptions) (f : List Y → ℕ) (cs : List Placed)
    → All (Suits K) (commands_of cs) → walk (tables B o) f 0 cs [] ≡ map_walked h (walk (tables A o) (λ t. f (map h t)) 0 cs [])
walk-carried {K = K} {A = A} {B = B} {h = h} M o f cs s =
    sym (walk-alike (tables (restricted K M.none' B) o) (tables B o) (Suits K) (act-restricted K M.none' B o) f 0 cs s [])
    ∙ walk-map (tables-map M.morphism o) f 0 cs []
    ∙ ap (map_walked h) (walk-alike (tables (restricted K M.none A) o) (tables A o) (Suits K) (act-restricted K M.none A o) (λ t. f (map h t)) 0 cs s [])

-- ---- a decision whose checks say the same over K labels and over L

module _ {X Y : Type 0} (K L : ℕ) (wide : K ≤ L) {A : Algebra X} {B : Algebra Y} {h : X → Y} (M : MorphismBelow K A B h) where
  decide-wider : (a : Request) → check L a ≡ check K a → (f : List Y → ℕ) (g : List X → ℕ) → ((t : List X) → f (map h t) ≡ g t)
      → (y : List Y → Bool) (v : List X → Bool) → ((t : List X) → y (map h t) ≡ v t) → decide B f y L a ≡ decide A g v K a
  unfolding decide
  decide-wider a alike f g same y v says = step (check K a) refl
    where
      step : (c : Checked) → check K a ≡ c → decide B f y L a ≡ decide A g v K a
      step (Refused n at) e = rw (alike ∙ e, e, decide) refl
      step (Passed z) e =
          let cs = commands_in (reading K a.bytes) in
          decide-passed B f y L a (alike ∙ e)
          ∙ ap (conclude y) (ap (λ r. walk (tables B (assumed a)) f 0 (commands_in r) []) (passed-wider K L wide a e) ∙ walk-carried M (assumed a) f cs (commands-suit K a e))
          ∙ conclude-map h y (walk (tables A (assumed a)) (λ t. f (map h t)) 0 cs [])
          ∙ ap₂ (λ k u. conclude u (walk (tables A (assumed a)) k 0 cs [])) (fun_ext same) (fun_ext says)
          ∙ sym (decide-passed A g v K a e)

some-map : {X Y : Type 0} (h : X → Y) (f : Y → Bool) (g : X → Bool) → ((x : X) → f (h x) ≡ g x) → (xs : List X) → some f (map h xs) ≡ some g xs
unfolding some
some-map h f g e [] = refl
some-map h f g e (x ∷ xs) = ap₂ ◌||◌ (e x) (some-map h f g e xs)

module _ (K L : ℕ) (wide : K ≤ L) where
  -- as many pairs, each with as many subsets
  laid-fault : (P G : ℕ) (t : List Pair) → pairs_fault P G (map (map (laid_out K L)) t) ≡ pairs_fault P G t
  unfolding pairs_fault
  laid-fault P G t =
      ap₂ (λ b n. cond b subsets_full (cond (ltb P n) plans_full 0))
      (some-map (map (laid_out K L)) _ _ (λ x. ap (λ s. ltb G (length s)) (laid-subsets K L wide x) ∙ ap (ltb G) (length-map (subsets x) (laid_out K L))) t)
      (length-map t (map (laid_out K L)))

  laid-accepting : (x : Pair) → accepting L (map (laid_out K L) x) ≡ accepting K x
  unfolding accepting
  laid-accepting x =
      ap₂ (λ b d. b && not d) (ap (all_met L) (laid-own K L wide x) ∙ laid-met K L wide (own_triple x))
      (ap (some (all_met L)) (laid-subsets K L wide x) ∙ some-map (laid_out K L) (all_met L) (all_met K) (laid-met K L wide) (subsets x))

  module _ (a : Request) (alike : check L a ≡ check K a) where
    grounded-alike : grounded L a ≡ grounded K a
    unfolding grounded grounded_accepts
    grounded-alike =
        decide-wider K L wide (pairs-wider K L wide) a alike _ _ (laid-fault a.pair_limit a.subset_limit) _ _
        (some-map (map (laid_out K L)) (accepting L) (accepting K) laid-accepting)

    plain-alike : plain L a ≡ plain K a
    unfolding plain plain_accepts plain_fault
    plain-alike =
        decide-wider K L wide (triples-wider K L wide) a alike _ _ (λ t. ap (λ n. cond (ltb a.pair_limit n) plans_full 0) (length-map t (laid_out K L))) _ _
        (some-map (laid_out K L) (all_met L) (all_met K) (laid-met K L wide))

  -- ---- the first plan: what is read alike is chosen alike, whatever is assumed

  chosen-alike : (cs : List ℕ) (a : Request) → reading L a.bytes ≡ reading K a.bytes → chosen L a cs ≡ chosen K a cs
  unfolding chosen check
  chosen-alike [] a same = refl
  chosen-alike (c ∷ cs) a same =
      let alike = ap (λ (r : Reading). first_of (counts_of r) (checks (leaving c a) r)) same in
      rw (grounded-alike (leaving c a) alike, chosen-alike cs (leaving c a) same, chosen-alike cs (keeping c a) same) refl

  mask-alike : (a : Request) → reading L a.bytes ≡ reading K a.bytes → first_mask L a ≡ first_mask K a
  unfolding first_mask expression_of
  mask-alike a same = ap (λ r. chosen L a (run 0 (length (numbers (tree_of r))))) same ∙ chosen-alike (run 0 (length (numbers (tree_of (reading K a.bytes))))) a same

-- ---- a request that 7 does not refuse

module _ (K L : ℕ) (wide : K ≤ L) (a : Request) (known : (at : ℕ) → check K a ≡ Refused group at → ⊥) where
  -- 15 and 16 included, at the same place
  pub grounded-wider : grounded L a ≡ grounded K a
  grounded-wider = grounded-alike K L wide a (check-wider K L wide a known)

  pub plain-wider : plain L a ≡ plain K a
  plain-wider = plain-alike K L wide a (check-wider K L wide a known)

  -- with the same plan
  pub outcome-wider : grounded_outcome L a ≡ grounded_outcome K a
  outcome-wider = step (check K a) refl
    where
      step : (c : Checked) → check K a ≡ c → grounded_outcome L a ≡ grounded_outcome K a
      step (Passed z) e = ap₂ with_mask (mask-alike K L wide a (passed-wider K L wide a e)) grounded-wider
      step (Refused n at) e =
          ap (with_mask (first_mask L a)) (grounded-refused L a (check-wider K L wide a known ∙ e)) ∙ sym (ap (with_mask (first_mask K a)) (grounded-refused K a e))

  pub plain-outcome-wider : plain_outcome L a ≡ plain_outcome K a
  plain-outcome-wider = ap without_mask plain-wider

-- ---- the tables on the way

suits-take : (K k : ℕ) (cs : List Placed) → All (Suits K) (commands_of cs) → All (Suits K) (commands_of (take k cs))
suits-take K zero cs s = tt
suits-take K (suc k) [] s = tt
suits-take K (suc k) (c ∷ cs) s = (s.0, suits-take K k cs s.1)

-- the same, laid out anew, whatever is assumed
pub tables-wider : (K L : ℕ) → K ≤ L → (a : Request) {z : Counts} → check K a ≡ Passed z → (o : Assumptions) (k : ℕ)
    → table_after L a.bytes o k ≡ map (map (laid_out K L)) (table_after K a.bytes o k)
tables-wider K L wide a e o k =
    let cs = commands_of (take k (commands_in (reading K a.bytes))) in
    ap (λ r. newest (act_all (tables (pairs L) o) 0 (commands_of (take k (commands_in r))) [])) (passed-wider K L wide a e)
    ∙ ap newest (act_all-carried (pairs-wider K L wide) o 0 cs (suits-take K k _ (commands-suit K a e)) [])
    ∙ newest-map (map (laid_out K L)) (act_all (tables (pairs K) o) 0 cs [])

-- ---- 02, Item 12: the labels that there were, and those that there are

module _ (a : Request) (known : (at : ℕ) → check labels_before a ≡ Refused group at → ⊥) where
  pub outcome-same : grounded_outcome label_count a ≡ grounded_outcome labels_before a
  outcome-same = outcome-wider labels_before label_count (omega arith) a known

  pub plain-outcome-same : plain_outcome label_count a ≡ plain_outcome labels_before a
  plain-outcome-same = plain-outcome-wider labels_before label_count (omega arith) a known
