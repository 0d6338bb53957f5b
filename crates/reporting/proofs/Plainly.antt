-- Plain reports never give 15 (01, Outcomes). Assumes nothing.
use mathlib.Core.Path.{◌≡◌, refl}
use mathlib.Core.Bool.{Bool, true, false, cond}
use mathlib.Core.List.{List, []}
use Prim.Native.Nat.{ℕ, ◌+◌, ◌≤◌}
use native.Mathlib.Omega.{arith}
use lib.Dec.{ltb}
use lib.ListN.{length}
use Rattle.expression.specs.Refusals.{absent, offset, subsets_full, plans_full, report_short}
use Rattle.expression.specs.Reading.{reading}
use Rattle.expression.specs.Checks.{Checked, Passed, Refused as Stopped, Request, check}
use Rattle.expression.proofs.Numbers.{check-number}
use Rattle.tables.specs.Algebras.{tables}
use Rattle.tables.specs.Definitions.{triples}
use Rattle.decisions.specs.Decisions.{assumed, commands_in, plain_fault, Walked, stopped, walked, walk}
use Rattle.decisions.proofs.Numbers.{plain-stops}
use Rattle.walks.specs.Walks.{before}
use Rattle.reporting.specs.declared.Report.TheVariants.{Written, Refused}
use Rattle.reporting.specs.Reporting.{starts_at, Asked, refused_at, table_at, newest_in, asked_table, report_answer}

module _ (K P : ℕ) (a : Request) (at : ℕ) where
  -- 1 to 13 by the checks, 14, then 16 alone
  asked-plainly : {n p : ℕ} → asked_table (triples K) (plain_fault P) K a at ≡ refused_at n p → n ≡ subsets_full → ⊥
  unfolding asked_table
  asked-plainly {n} {p} h five = checked (check K a) refl h
    where
      W : Walked ℕ
      W = walk (tables (triples K) (assumed a)) (plain_fault P) 0 (before (at + 1) (commands_in (reading K a.bytes))) []

      ended : (w : Walked ℕ) → W ≡ w → newest_in w ≡ refused_at n p → ⊥
      ended (stopped m q) e k =
          let number : m ≡ n = cc in
          let full : m ≡ plans_full = plain-stops (tables (triples K) (assumed a)) P 0 (before (at + 1) (commands_in (reading K a.bytes))) [] e in
          omega arith
      ended (walked us) e k = let z : ◌≡◌ {A = ℕ} 0 1 = cc in omega arith

      starts : (b : Bool) → cond b (newest_in W) (refused_at offset at) ≡ refused_at n p → ⊥
      starts true k = ended W refl k
      starts false k = let number : offset ≡ n = cc in omega arith

      checked : (c : Checked) → check K a ≡ c
          → ◌≡◌ {A = Asked ℕ} (elim c as (λ x. Asked ℕ) [ Passed z ↦ cond (starts_at K a.bytes at) (newest_in W) (refused_at offset at) | Stopped m q ↦ refused_at m q ]) (refused_at n p) → ⊥
      checked (Passed z) e k = starts (starts_at K a.bytes at) k
      checked (Stopped m q) e k = let number : m ≡ n = cc in let low : m ≤ absent = check-number K a e in omega arith

  -- what a plain report answers, into any room
  pub plainly-never-15 : (words : List ℕ → List ℕ) (room p : ℕ) → report_answer words room at (asked_table (triples K) (plain_fault P) K a at) ≡ Refused subsets_full p → ⊥
  plainly-never-15 words room p h = step (asked_table (triples K) (plain_fault P) K a at) refl h
    where
      fits : (b : Bool) (n m : ℕ) → cond b (Refused report_short at) (Written n m) ≡ Refused subsets_full p → ⊥
      fits true n m k = let number : report_short ≡ subsets_full = cc in omega arith
      fits false n m k = let z : ◌≡◌ {A = ℕ} 0 1 = cc in omega arith

      step : (x : Asked ℕ) → asked_table (triples K) (plain_fault P) K a at ≡ x → report_answer words room at x ≡ Refused subsets_full p → ⊥
      step (refused_at n q) e k = let number : n ≡ subsets_full = cc in asked-plainly e number
      step (table_at t) e k = fits (ltb room (length (words t))) (length t) (length (words t)) k
