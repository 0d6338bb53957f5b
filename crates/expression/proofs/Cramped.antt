-- What Item 8 of 02 changes: 3, tested for the most operands that there may be before the expression was read, is tested for those that the expression
-- has, directly after 12. Assumes nothing.
use mathlib.Core.Path.{◌≡◌, refl, sym, ap, ◌∙◌}
use mathlib.Core.Logic.{◌⊎◌, inl, inr}
use mathlib.Core.Bool.{Bool, true, false}
use mathlib.Core.List.{List, [], ◌∷◌}
use Prim.Native.Nat.{ℕ, ◌≤◌, ◌<◌, zero-le}
use native.Mathlib.Nat.{mul-le-mul_right}
use native.Mathlib.Omega.{arith}
use lib.Dec.{ltb}
use borrow.Author.Tests.{ltb-true, ltb-false, lt-ltb, le-ltb}
use Rattle.expression.specs.declared.Counts.{Counts}
use Rattle.expression.specs.declared.Outcome.TheVariants as outcome
use Rattle.expression.specs.Limits.{depth_limit, area_words, workspace_need}
use Rattle.expression.specs.Refusals.{limits, cramped}
use Rattle.expression.specs.Reading.{Reading, no_counts, faulty, whole, reading}
use Rattle.expression.specs.Checks.{Checked, Passed, Refused, Request, Test, first_of, counts_of, overlong_test, limits_test, cramped_test, clash_test, fault_test, unjoined_test, absent_test, checks, check, check_bytes, check_sheet, depth_of, need_of, depth_told, depth_outcome}
use Rattle.expression.proofs.Readings.{reading-limited}
use Rattle.expression.proofs.Checks.{Pass, refuses, passes, passed-all, first_else, else-pass, else-refuse, bytes-refuse}
use Rattle.expression.proofs.Moving.{moved_passes, moved-behind, refused-before, passed-after, refused-after}
use Rattle.expression.proofs.Clashes.{clash_checks, clash_check}

-- no expression has more operands than there may be
pub depth-limited : (K : ℕ) (s : List ℕ) → depth_of K s ≤ depth_limit
unfolding depth_of counts_of no_counts
depth-limited K s = by (reading K s) refl
  where
    by : (r : Reading) → reading K s ≡ r → (counts_of r).deepest ≤ depth_limit
    by (faulty n at) e = zero-le
    by (whole cs z) e = (reading-limited K s cs z e).deepest

module _ (K : ℕ) (a : Request) where
  abbrev r : Reading
  r = reading K a.bytes

  -- for the most operands, and for those of the expression
  abbrev most : Test
  most = cramped_test depth_limit a.pair_limit a.subset_limit a.room

  abbrev used : Test
  used = cramped_test (counts_of r).deepest a.pair_limit a.subset_limit a.room

  -- 1, 2
  abbrev first : List Test
  first = overlong_test a.bytes ∷ limits_test a.pair_limit a.subset_limit ∷ []

  -- 5 to 12
  abbrev read : List Test
  read = fault_test r ∷ unjoined_test a.bytes r ∷ []

  -- 13, 4
  abbrev later : List Test
  later = absent_test a.bytes (counts_of r).atoms a.assumed_true a.assumed_false ∷ clash_test a.assumed_true a.assumed_false ∷ []

  pub need-most : need_of K a ≤ workspace_need depth_limit a.pair_limit a.subset_limit
  need-most = let l = depth-limited K a.bytes in mul-le-mul_right (area_words a.pair_limit a.subset_limit) (omega arith)

  -- the room is enough for the most operands
  pub same-roomy : workspace_need depth_limit a.pair_limit a.subset_limit ≤ a.room → check K a ≡ clash_check K a
  unfolding check checks clash_check clash_checks cramped_test depth_of
  same-roomy e = moved_passes (counts_of r) most used first read later (le-ltb a.room _ e) (le-ltb a.room _ (let l = need-most in omega (arith, l, e)))

  -- 1 or 2 refuses
  pub same-refused : {n at : ℕ} → first_of (counts_of r) first ≡ Refused n at → check K a ≡ clash_check K a
  unfolding check checks clash_check clash_checks
  same-refused h = moved-behind (counts_of r) most used first read later h

  -- 1 and 2 pass, and the room is too little for the most operands
  module _ (pass : Pass first) (short : a.room < workspace_need depth_limit a.pair_limit a.subset_limit) where
    pub cramped-before : clash_check K a ≡ Refused cramped 0
    unfolding clash_check clash_checks cramped_test
    cramped-before = refused-before (counts_of r) most used first read later pass (lt-ltb a.room _ short)

    -- the first of 5 to 12 that refuses; where none does, 3 for the operands that there are, 13 and 4
    pub cramped-now : check K a ≡ first_else (first_of (counts_of r) (used ∷ later)) read
    unfolding check checks
    cramped-now = passed-after (counts_of r) most used first read later pass

    -- too little room beside a fault of the expression gives the fault
    pub fault-now : {n at : ℕ} → check_bytes K a.bytes ≡ Refused n at → check K a ≡ Refused n at
    unfolding check_bytes
    fault-now h = cramped-now ∙ else-refuse (counts_of r) _ read h

    -- too little for the expression itself is refused as before
    pub cramped-still : {z : Counts} → check_bytes K a.bytes ≡ Passed z → a.room < need_of K a → check K a ≡ Refused cramped 0
    unfolding check checks check_bytes cramped_test depth_of
    cramped-still {z} h e = refused-after (counts_of r) most used first read later pass (lt-ltb a.room _ e) ∙ else-pass _ read (passed-all (counts_of r) z read h).0

  -- the answer from before, or one in place of 3 at 0
  abbrev Changed : Type 0
  Changed = (check K a ≡ clash_check K a) ⊎ ((clash_check K a ≡ Refused cramped 0) × (check K a ≡ first_else (first_of (counts_of r) (used ∷ later)) read))

  -- no other answer changes
  pub changed : Changed
  changed = early (first_of (counts_of r) first) refl
    where
      short : (b : Bool) → ltb a.room (workspace_need depth_limit a.pair_limit a.subset_limit) ≡ b → Pass first → Changed
      short false e p = inl (same-roomy (ltb-false a.room _ e))
      short true e p = let l = ltb-true a.room _ e in inr (cramped-before p l, cramped-now p l)

      early : (c : Checked) → first_of (counts_of r) first ≡ c → Changed
      early (Refused n at) e = inl (same-refused e)
      early (Passed z) e = short (ltb a.room (workspace_need depth_limit a.pair_limit a.subset_limit)) refl (passed-all _ z first e).0

-- ---- the depth told: in room for it 2, 13 and 4 are left to refuse

module _ (K : ℕ) (a : Request) (d : ℕ) (told : depth_outcome K a.bytes ≡ outcome.Yes d) where
  abbrev Passes : Type 0
  Passes = Pass (overlong_test a.bytes ∷ fault_test (r K a) ∷ unjoined_test a.bytes (r K a) ∷ []) × (d ≡ depth_of K a.bytes)

  sheet-passes : Passes
  unfolding depth_outcome check_sheet depth_of
  sheet-passes = by (check_sheet K a.bytes) refl told
    where
      by : (c : Checked) → check_sheet K a.bytes ≡ c → depth_told c ≡ outcome.Yes d → Passes
      by (Passed z) e g = let (p, q) = passed-all _ z _ e in let y : z.deepest ≡ d = cc in (p, sym y ∙ sym (ap (λ (x : Counts). x.deepest) q))
      by (Refused n at) e g = let q : ◌≡◌ {A = ℕ} 0 1 = cc in absurd (omega arith)

  pub depth-enough : workspace_need d a.pair_limit a.subset_limit ≤ a.room → check K a ≡ first_of (counts_of (r K a)) (limits_test a.pair_limit a.subset_limit ∷ later K a)
  unfolding check checks first_of cramped_test depth_of
  depth-enough e =
      let ((one, (five, (twelve, none))), same) = sheet-passes in
      let fits : need_of K a ≤ a.room = rw (sym same) e in
      rw (one, five, twelve, le-ltb a.room _ fits)

-- where none is told, the checks refuse alike, or by 2: no room is needed
module _ (K : ℕ) (a : Request) {n at : ℕ} (told : depth_outcome K a.bytes ≡ outcome.Refused n at) where
  abbrev one : Test
  one = overlong_test a.bytes

  abbrev two : Test
  two = limits_test a.pair_limit a.subset_limit

  abbrev z : Counts
  z = counts_of (r K a)

  abbrev rest : List Test
  rest = fault_test (r K a) ∷ unjoined_test a.bytes (r K a) ∷ used K a ∷ later K a

  pub depth-refused : (check K a ≡ Refused n at) ⊎ (check K a ≡ Refused limits 0)
  unfolding depth_outcome check_sheet check checks check_bytes limits_test
  depth-refused = by one.refuses two.refuses refl refl (alike (check_sheet K a.bytes) told)
    where
      alike : (c : Checked) → depth_told c ≡ outcome.Refused n at → c ≡ Refused n at
      alike (Passed z) g = let q : ◌≡◌ {A = ℕ} 0 1 = cc in absurd (omega arith)
      alike (Refused m p) g = cc

      by : (b c : Bool) → one.refuses ≡ b → two.refuses ≡ c → check_sheet K a.bytes ≡ Refused n at → (check K a ≡ Refused n at) ⊎ (check K a ≡ Refused limits 0)
      by true c e f h = inl (sym (refuses z one (two ∷ rest) e) ∙ refuses z one (read K a) e ∙ h)
      by false true e f h = inr (sym (passes z one (two ∷ rest) _ e (refuses z two rest f)))
      by false false e f h =
          inl (sym (passes z one (two ∷ rest) _ e (passes z two rest _ f (bytes-refuse K a.bytes (used K a ∷ later K a) n at (passes z one (read K a) _ e refl ∙ h)))))
