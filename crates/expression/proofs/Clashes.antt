-- What Item 4 of 02 changed: a clash, tested directly before the expression was read, is tested directly after 13. Both lists have 3 as 01 has it:
-- before the expression is read, for the most operands that there may be (Cramped.antt has what Item 8 made of it). Assumes nothing.
use mathlib.Core.Path.{◌≡◌, refl, sym, ap, ◌∙◌}
use mathlib.Core.Logic.{◌⊎◌, inl, inr}
use mathlib.Core.Bool.{Bool, true, false, not}
use mathlib.Core.List.{List, [], ◌∷◌}
use Prim.Native.Nat.{ℕ}
use native.Mathlib.Omega.{arith}
use lib.Bits.{bit_and}
use lib.Dec.{eqb}
use borrow.Author.Tests.{eq-eqb, ne_eqb, eqb-true, eqb-false}
use Rattle.expression.specs.Limits.{depth_limit}
use Rattle.expression.specs.Refusals.{clash}
use Rattle.expression.specs.Reading.{Reading, reading}
use Rattle.expression.specs.Checks.{Checked, Passed, Refused, Request, Test, first_of, counts_of, overlong_test, limits_test, cramped_test, clash_test, fault_test, unjoined_test, absent_test}
use Rattle.expression.proofs.Checks.{Pass, passed-all, first_else}
use Rattle.expression.proofs.Numbers.{reading-number}
use Rattle.expression.proofs.Moving.{else-only, moved_passes, moved-behind, refused-before, refused-after}

-- the list of 01
pub base_checks : Request → Reading → List Test
base_checks a r =
    overlong_test a.bytes
    ∷ limits_test a.pair_limit a.subset_limit
    ∷ cramped_test depth_limit a.pair_limit a.subset_limit a.room
    ∷ clash_test a.assumed_true a.assumed_false
    ∷ fault_test r
    ∷ unjoined_test a.bytes r
    ∷ absent_test a.bytes (counts_of r).atoms a.assumed_true a.assumed_false
    ∷ []

pub base_check : ℕ → Request → Checked
base_check K a = let r = reading K a.bytes in first_of (counts_of r) (base_checks a r)

-- the list after Item 4
unfoldable pub clash_checks : Request → Reading → List Test
clash_checks a r =
    overlong_test a.bytes
    ∷ limits_test a.pair_limit a.subset_limit
    ∷ cramped_test depth_limit a.pair_limit a.subset_limit a.room
    ∷ fault_test r
    ∷ unjoined_test a.bytes r
    ∷ absent_test a.bytes (counts_of r).atoms a.assumed_true a.assumed_false
    ∷ clash_test a.assumed_true a.assumed_false
    ∷ []

unfoldable pub clash_check : ℕ → Request → Checked
clash_check K a = let r = reading K a.bytes in first_of (counts_of r) (clash_checks a r)

module _ (K : ℕ) (a : Request) where
  abbrev r : Reading
  r = reading K a.bytes

  abbrev clashing : Test
  clashing = clash_test a.assumed_true a.assumed_false

  -- 1 to 3
  abbrev first : List Test
  first = overlong_test a.bytes ∷ limits_test a.pair_limit a.subset_limit ∷ cramped_test depth_limit a.pair_limit a.subset_limit a.room ∷ []

  -- 5 to 13
  abbrev later : List Test
  later = fault_test r ∷ unjoined_test a.bytes r ∷ absent_test a.bytes (counts_of r).atoms a.assumed_true a.assumed_false ∷ []

  -- no atom is assumed both true and false
  pub same-apart : bit_and a.assumed_true a.assumed_false ≡ 0 → clash_check K a ≡ base_check K a
  unfolding clash_check clash_checks base_check base_checks clash_test
  same-apart e = let h = ap not (eq-eqb _ 0 e) in moved_passes (counts_of r) clashing clashing first later [] h h

  -- one of 1 to 3 refuses
  pub same-refused : {n at : ℕ} → first_of (counts_of r) first ≡ Refused n at → clash_check K a ≡ base_check K a
  unfolding clash_check clash_checks base_check base_checks
  same-refused h = moved-behind (counts_of r) clashing clashing first later [] h

  -- some atom is assumed both true and false, and 1 to 3 pass
  module _ (both : bit_and a.assumed_true a.assumed_false ≡ 0 → ⊥) (pass : Pass first) where
    pub clash-before : base_check K a ≡ Refused clash 0
    unfolding base_check base_checks clash_test
    clash-before = refused-before (counts_of r) clashing clashing first later [] pass (ap not (ne_eqb _ 0 both))

    -- the first of 5 to 13 that refuses, and 4 at 0 where none does
    pub clash-now : clash_check K a ≡ first_else (Refused clash 0) later
    unfolding clash_check clash_checks clash_test
    clash-now = refused-after (counts_of r) clashing clashing first later [] pass (ap not (ne_eqb _ 0 both))

    -- and only there
    pub clash-only : clash_check K a ≡ Refused clash 0 → Pass later
    unfolding fault_test unjoined_test absent_test
    clash-only h = else-only clash 0 later ((λ f e. omega (arith, (reading-number K a.bytes).1 f)), ((λ f e. omega arith), ((λ f e. omega arith), tt))) (sym clash-now ∙ h)

  -- the answer of 01, or one in place of 4 at 0
  abbrev Changed : Type 0
  Changed = (clash_check K a ≡ base_check K a) ⊎ ((base_check K a ≡ Refused clash 0) × (clash_check K a ≡ first_else (Refused clash 0) later))

  -- no other answer changes
  pub changed : Changed
  changed = early (first_of (counts_of r) first) refl
    where
      clashes : (b : Bool) → eqb (bit_and a.assumed_true a.assumed_false) 0 ≡ b → Pass first → Changed
      clashes true e p = inl (same-apart (eqb-true _ 0 e))
      clashes false e p = let both = eqb-false _ 0 e in inr (clash-before both p, clash-now both p)

      early : (c : Checked) → first_of (counts_of r) first ≡ c → Changed
      early (Refused n at) e = inl (same-refused e)
      early (Passed z) e = clashes (eqb (bit_and a.assumed_true a.assumed_false) 0) refl (passed-all _ z first e).0
