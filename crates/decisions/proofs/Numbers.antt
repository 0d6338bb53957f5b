-- By which numbers plain decisions refuse: by those of the checks, 13 at most, and by 16. So they never give 15. Assumes nothing.
use mathlib.Core.Path.{◌≡◌, refl, sym, ap, ◌∙◌, subst}
use mathlib.Core.Logic.{◌⊎◌, inl, inr, ⊎_elim}
use mathlib.Core.Bool.{Bool, true, false, cond}
use mathlib.Core.List.{List, []}
use Prim.Native.Nat.{ℕ, suc, ◌≤◌, ◌<◌}
use native.Mathlib.Omega.{arith}
use lib.Dec.{ltb}
use lib.ListN.{length}
use Rattle.expression.specs.declared.Outcome.TheVariants as outcome
use Rattle.expression.specs.Refusals.{absent, subsets_full, plans_full}
use Rattle.expression.specs.Reading.{Placed, reading}
use Rattle.expression.specs.Checks.{Checked, Passed, Refused, Request, check}
use Rattle.expression.proofs.Numbers.{check-number}
use Rattle.semantics.specs.Expressions.{Operations}
use Rattle.tables.specs.Algebras.{tables}
use Rattle.tables.specs.Definitions.{triples, plain_accepts}
use Rattle.decisions.specs.Decisions.{Verdict, affirmed, denied, refused, assumed, commands_in, plain_fault, newest, Walked, stopped, walked, walk, conclude, plain}
use Rattle.decisions.specs.Outcomes.{without_mask, plain_outcome}
use Rattle.decisions.proofs.Walks.{Settled}
use Rattle.decisions.proofs.Stops.{newest_after, stopped-first}
use Rattle.decisions.proofs.Words.{answer-settled}
use Rattle.decisions.proofs.Carried.{plain-refused, decide-passed}

-- ---- plain tables refuse by 16 alone

pub plain-stops : (B : Operations (List ℕ)) (P n : ℕ) (cs : List Placed) (ts : List (List ℕ)) {m at : ℕ} → walk B (plain_fault P) n cs ts ≡ stopped m at → m ≡ plans_full
unfolding plain_fault
plain-stops B P n cs ts {m} h =
    let r = stopped-first B (plain_fault P) 0 n cs ts h in step (ltb P (length (newest_after B n cs ts (suc r.command)))) r.fault r.faulty
  where
    step : (b : Bool) → cond b plans_full 0 ≡ m → 0 < m → m ≡ plans_full
    step true e l = sym e
    step false e l = absurd (omega arith)

pub plain-number : (K : ℕ) (a : Request) {n at : ℕ} → plain K a ≡ refused n at → (n ≤ absent) ⊎ (n ≡ plans_full)
unfolding plain conclude
plain-number K a {n} {at} h = checked (check K a) refl
  where
    W : Walked ℕ
    W = walk (tables (triples K) (assumed a)) (plain_fault a.pair_limit) 0 (commands_in (reading K a.bytes)) []

    ended : (w : Walked ℕ) → W ≡ w → conclude (plain_accepts K) w ≡ refused n at → n ≡ plans_full
    ended (stopped m p) e k = let q : m ≡ n = cc in sym q ∙ plain-stops _ a.pair_limit 0 (commands_in (reading K a.bytes)) [] e
    ended (walked us) e k = absurd (subst Settled k (answer-settled (plain_accepts K (newest us))))

    checked : (c : Checked) → check K a ≡ c → (n ≤ absent) ⊎ (n ≡ plans_full)
    checked (Passed z) e = inr (ended W refl (sym (decide-passed (triples K) (plain_fault a.pair_limit) (plain_accepts K) K a e) ∙ h))
    checked (Refused m p) e = let r = plain-refused K a e in let q : m ≡ n = cc in inl (subst (λ x. x ≤ absent) q (check-number K a e))

-- 01: plain decisions never give 15
pub plain-never-15 : (K : ℕ) (a : Request) (at : ℕ) → plain K a ≡ refused subsets_full at → ⊥
plain-never-15 K a at h = ⊎_elim (λ l. omega arith) (λ e. omega arith) (plain-number K a h)

-- nor does what is answered
pub outcome-never-15 : (K : ℕ) (a : Request) (at : ℕ) → outcome.Refused subsets_full at ≡ plain_outcome K a → ⊥
outcome-never-15 K a at h = step (plain K a) refl h
  where
    step : (v : Verdict) → plain K a ≡ v → outcome.Refused subsets_full at ≡ without_mask v → ⊥
    step (refused n p) e k = let q : subsets_full ≡ n = cc in plain-never-15 K a p (e ∙ ap (λ x. refused x p) (sym q))
    step affirmed e k = let q : ◌≡◌ {A = ℕ} 0 1 = cc in omega arith
    step denied e k = let q : ◌≡◌ {A = ℕ} 0 1 = cc in omega arith
