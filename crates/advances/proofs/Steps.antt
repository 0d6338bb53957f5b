-- One command of a walk over tables: where the walk goes. Assumes nothing.
use mathlib.Core.Path.{◌≡◌, refl}
use mathlib.Core.Bool.{Bool, true, false, cond}
use mathlib.Core.List.{List, [], ◌∷◌}
use Prim.Native.Nat.{ℕ, zero, suc, ◌+◌, ◌≤◌, ◌<◌}
use native.Mathlib.Omega.{arith}
use lib.Dec.{ltb}
use borrow.Author.Tests.{lt-ltb, le-ltb}
use Rattle.expression.specs.declared.Command.{Command}
use Rattle.expression.specs.Refusals.{subsets_full, plans_full}
use Rattle.expression.specs.Reading.{new_atoms, Placed}
use Rattle.semantics.specs.Expressions.{Operations, act}
use Rattle.decisions.specs.Decisions.{stopped, walked, newest, walk}
use Rattle.workspace.specs.Workspace.{fault_of}

-- ---- the walk

pub walk-nil : {X : Type 0} (B : Operations (List X)) (f : List X → ℕ) (n : ℕ) (ts : List (List X)) → walk B f n [] ts ≡ walked ts
unfolding walk
walk-nil B f n ts = refl

module _ {X : Type 0} (B : Operations (List X)) (f : List X → ℕ) (n at : ℕ) (c : Command) (cs : List Placed) (ts : List (List X)) where
  abbrev here : List Placed
  here = record { place = at; command = c } ∷ cs

  pub walk-on : f (newest (act B n c ts)) ≡ 0 → walk B f n here ts ≡ walk B f (n + new_atoms c) cs (act B n c ts)
  unfolding walk
  walk-on e = rw e

  pub walk-stops : (k : ℕ) → 0 < k → f (newest (act B n c ts)) ≡ k → walk B f n here ts ≡ stopped k at
  unfolding walk
  walk-stops zero l e = absurd (omega arith)
  walk-stops (suc k) l e = rw e

-- ---- faults

pub fault-none : (p r : ℕ) → r ≤ p → fault_of p r ≡ 0
unfolding fault_of
fault-none p r l = rw (le-ltb (p + 1) r (omega arith), le-ltb p r l)

pub fault-subsets : (p r : ℕ) → p + 1 < r → fault_of p r ≡ subsets_full
unfolding fault_of
fault-subsets p r l = rw (lt-ltb (p + 1) r l)

pub fault-plans : (p r : ℕ) → p < r → r ≤ p + 1 → fault_of p r ≡ plans_full
unfolding fault_of
fault-plans p r l m = rw (le-ltb (p + 1) r m, lt-ltb p r l)

pub fault-some : (p r : ℕ) → p < r → 0 < fault_of p r
unfolding fault_of
fault-some p r l = step (ltb (p + 1) r)
  where
    step : (b : Bool) → 0 < cond b subsets_full (cond (ltb p r) plans_full 0)
    step true = omega arith
    step false = rw (lt-ltb p r l) (omega arith)
