-- DEMAND 3 IN ITS OWN WORDS: a decision that passed its checks is refused exactly if some table on the way exceeds the limits, at the first that does, by 15
-- if a pair has over G subsets, else 16; and where none does, no and yes are right. Assumes nothing.
use mathlib.Core.Path.{◌≡◌, refl, sym, ap, ap₂, ◌∙◌, subst}
use mathlib.Core.Logic.{inl, inr}
use mathlib.Core.Bool.{Bool, true, false, cond, true≢false}
use mathlib.Core.List.{List, []}
use Prim.Native.Nat.{ℕ, zero, suc, ◌<◌}
use native.Mathlib.Omega.{arith}
use lib.Dec.{ltb}
use lib.ListN.{length}
use borrow.Author.Tests.{lt-ltb, ltb-true, ltb-false}
use Rattle.lists.specs.Lists.{some}
use Rattle.lists.proofs.Members.{some_of, some_is, not-true-false}
use Rattle.expression.specs.declared.Counts.{Counts}
use Rattle.expression.specs.Refusals.{subsets_full, plans_full}
use Rattle.expression.specs.Checks.{Checked, Passed, Refused, Request, check}
use Rattle.semantics.specs.Expressions.{Operations}
use Rattle.tables.specs.Algebras.{tables}
use Rattle.tables.specs.Definitions.{Pair, subsets, pairs, grounded_accepts}
use Rattle.decisions.specs.Decisions.{Verdict, affirmed, denied, refused, assumed, pairs_fault, newest, Walked, stopped, walked, walk, conclude, grounded}
use Rattle.decisions.specs.Outcomes.{NoAnswerSet}
use Rattle.decisions.specs.Exceeding.{OverSubsets, Exceeds, FullBy, commands, table_on, FirstExceeding, WithinLimits, Demand3}
use Rattle.decisions.proofs.Walks.{Settled}
use Rattle.decisions.proofs.Stops.{FirstFault, stopped-first, first-stopped, none-walked, walked_none}
use Rattle.decisions.proofs.Demands.{grounded-denied, grounded-affirmed}
use Rattle.decisions.proofs.Words.{answer-settled}
use Rattle.decisions.proofs.Carried.{grounded-refused, decide-passed, conclude-stopped, conclude-walked}

-- ---- the fault of a table is whether it exceeds the limits

module _ (P G : ℕ) (t : List Pair) where
  abbrev wide : Pair → Bool
  wide x = ltb G (length (subsets x))

  over-subsets : some wide t ≡ true → OverSubsets G t
  over-subsets h = let r = some_is wide t h in (r.0, r.1, ltb-true G (length (subsets r.0)) r.2)

  subsets-over : OverSubsets G t → some wide t ≡ true
  subsets-over o = some_of wide t o.1 (lt-ltb G (length (subsets o.0)) o.2)

  abbrev fault_by : Bool → Bool → ℕ
  fault_by b c = cond b subsets_full (cond c plans_full 0)

  pub fault-full : (n : ℕ) → pairs_fault P G t ≡ n → 0 < n → FullBy P G t n
  unfolding pairs_fault
  fault-full n h l = step (some wide t) (ltb P (length t)) refl refl h
    where
      step : (b c : Bool) → some wide t ≡ b → ltb P (length t) ≡ c → fault_by b c ≡ n → FullBy P G t n
      step true c e g k = inl (sym k, over-subsets e)
      step false true e g k = inr (sym k, (λ o. true≢false (sym (subsets-over o) ∙ e)), ltb-true P (length t) g)
      step false false e g k = absurd (omega arith)

  pub full-fault : (n : ℕ) → FullBy P G t n → (pairs_fault P G t ≡ n) × (0 < n)
  unfolding pairs_fault
  full-fault n (inl r) = (ap (λ b. fault_by b (ltb P (length t))) (subsets-over r.1) ∙ sym r.0, omega (arith, r.0))
  full-fault n (inr r) = (
    ap₂ fault_by (not-true-false (some wide t) (λ e. r.1 (over-subsets e))) (lt-ltb P (length t) r.2) ∙ sym r.0,
    omega (arith, r.0),
  )

  pub none-exceeds : pairs_fault P G t ≡ 0 → Exceeds P G t → ⊥
  unfolding pairs_fault
  none-exceeds h e = step (some wide t) (ltb P (length t)) refl refl h e
    where
      step : (b c : Bool) → some wide t ≡ b → ltb P (length t) ≡ c → fault_by b c ≡ 0 → Exceeds P G t → ⊥
      step true c p q k x = omega arith
      step false true p q k x = omega arith
      step false false p q k (inl o) = let l = ltb-false P (length t) q in omega arith
      step false false p q k (inr o) = true≢false (sym (subsets-over o) ∙ p)

  pub exceeds-none : (Exceeds P G t → ⊥) → pairs_fault P G t ≡ 0
  exceeds-none h = step (pairs_fault P G t) refl
    where
      full : {n : ℕ} → FullBy P G t n → Exceeds P G t
      full (inl r) = inr r.1
      full (inr r) = inl r.2

      step : (n : ℕ) → pairs_fault P G t ≡ n → n ≡ 0
      step zero e = refl
      step (suc n) e = absurd (h (full (fault-full (suc n) e (omega arith))))

-- ---- a request that passed its checks

module _ (K : ℕ) (a : Request) where
  abbrev B : Operations (List Pair)
  B = tables (pairs K) (assumed a)

  abbrev fault : List Pair → ℕ
  fault = pairs_fault a.pair_limit a.subset_limit

  -- the decision's walk
  abbrev W : Walked Pair
  W = walk B fault 0 (commands K a) []

  first-exceeding : {n at : ℕ} → FirstFault B fault (length a.bytes) 0 (commands K a) [] n at → FirstExceeding K a n at
  first-exceeding {n} r = record {
    command = r.command;
    among = r.among;
    before = λ k l. none-exceeds a.pair_limit a.subset_limit (table_on K a k) (r.before k l);
    number = fault-full a.pair_limit a.subset_limit (table_on K a r.command) n r.fault r.faulty;
    place = r.place;
  }

  exceeding-first : {n at : ℕ} → FirstExceeding K a n at → FirstFault B fault (length a.bytes) 0 (commands K a) [] n at
  exceeding-first {n} r =
      let q = full-fault a.pair_limit a.subset_limit (table_on K a r.command) n r.number in
      record {
        command = r.command;
        among = r.among;
        before = λ k l. exceeds-none a.pair_limit a.subset_limit (table_on K a k) (r.before k l);
        fault = q.0;
        faulty = q.1;
        place = r.place;
      }

  grounded-passed : {z : Counts} → check K a ≡ Passed z → grounded K a ≡ conclude (grounded_accepts K) W
  unfolding grounded
  grounded-passed h = decide-passed (pairs K) fault (grounded_accepts K) K a h

  module _ {z : Counts} (passed : check K a ≡ Passed z) where
    -- refused exactly if some table exceeds the limits, at the first that does
    pub refused-exceeding : {n at : ℕ} → grounded K a ≡ refused n at → FirstExceeding K a n at
    unfolding conclude
    refused-exceeding {n} {at} h = step W refl (sym (grounded-passed passed) ∙ h)
      where
        step : (w : Walked Pair) → W ≡ w → conclude (grounded_accepts K) w ≡ refused n at → FirstExceeding K a n at
        step (stopped m p) e k =
            let number : m ≡ n = cc in
            let place : p ≡ at = cc in
            first-exceeding (stopped-first B fault (length a.bytes) 0 (commands K a) [] (e ∙ ap₂ stopped number place))
        step (walked us) e k = absurd (subst Settled k (answer-settled (grounded_accepts K (newest us))))

    pub exceeding-refused : {n at : ℕ} → FirstExceeding K a n at → grounded K a ≡ refused n at
    exceeding-refused r =
        grounded-passed passed ∙ conclude-stopped (grounded_accepts K) (first-stopped B fault (length a.bytes) 0 (commands K a) [] (exceeding-first r))

  -- ---- within the limits, and only there, the decision is yes or no

  pub within-settled : WithinLimits K a → Settled (grounded K a)
  within-settled w =
      let went = none-walked B fault 0 (commands K a) [] (λ k l. exceeds-none a.pair_limit a.subset_limit (table_on K a k) (w.none k l)) in
      subst Settled (sym (grounded-passed w.passed ∙ conclude-walked (grounded_accepts K) went)) (answer-settled _)

  pub settled-within : Settled (grounded K a) → WithinLimits K a
  unfolding conclude
  settled-within s = checked (check K a) refl
    where
      ended : {z : Counts} → check K a ≡ Passed z → (w : Walked Pair) → W ≡ w → Settled (conclude (grounded_accepts K) w) → WithinLimits K a
      ended h (stopped n at) e k = absurd k
      ended {z} h (walked us) e k = record {
        counts = z;
        passed = h;
        none = λ i l. none-exceeds a.pair_limit a.subset_limit (table_on K a i) (walked_none B fault 0 (commands K a) [] us e i l);
      }

      checked : (c : Checked) → check K a ≡ c → WithinLimits K a
      checked (Passed z) h = ended h W refl (subst Settled (grounded-passed h) s)
      checked (Refused n at) h = absurd (subst Settled (grounded-refused K a h) s)

  -- ---- demand 3

  abbrev Refuses : Verdict → Type 0
  Refuses v = (n : ℕ) × (at : ℕ) × (v ≡ refused n at)

  pub demand3 : Demand3 K a (grounded K a)
  demand3 = record {
    no = λ w. grounded-denied K a (within-settled w);
    yes = λ w. (found, λ some. otherwise w some (grounded K a) refl);
    shown = λ h. (grounded-affirmed K a (subst Settled (sym h) tt)).0 h;
    refuses = (λ r w. subst Settled r.2 (within-settled w), λ out. refusal out (grounded K a) refl);
    by_check = λ n at h. grounded-refused K a h;
    by_table = λ z h n at. (refused-exceeding h, exceeding-refused h);
  }
    where
      found : grounded K a ≡ affirmed → NoAnswerSet K a → ⊥
      found h none = let s = (grounded-affirmed K a (subst Settled (sym h) tt)).0 h in none _ s.1.obeys s.1.answer_set

      otherwise : WithinLimits K a → (NoAnswerSet K a → ⊥) → (v : Verdict) → grounded K a ≡ v → grounded K a ≡ affirmed
      otherwise w some affirmed e = e
      otherwise w some denied e = absurd (some ((grounded-denied K a (within-settled w)).0 e))
      otherwise w some (refused n at) e = absurd (subst Settled e (within-settled w))

      refusal : (WithinLimits K a → ⊥) → (v : Verdict) → grounded K a ≡ v → Refuses (grounded K a)
      refusal out affirmed e = absurd (out (settled-within (subst Settled (sym e) tt)))
      refusal out denied e = absurd (out (settled-within (subst Settled (sym e) tt)))
      refusal out (refused n at) e = (n, at, e)
