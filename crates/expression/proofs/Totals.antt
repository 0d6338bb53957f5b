-- Laws of counts: equal field by field, within a bound, as words hold them, and within the limits. Assumes nothing.
use mathlib.Core.Path.{◌≡◌, refl, ap, ◌∙◌}
use mathlib.Core.Bool.{Bool, true, false, cond}
use Prim.Native.Nat.{ℕ, suc, ◌≤◌, ◌<◌, zero-le}
use native.Mathlib.Omega.{arith}
use borrow.Author.Tests.{ltb-false, leb-false}
use Rattle.expression.specs.declared.Command.{Command}
use Rattle.expression.specs.declared.Leaf.TheVariants as leaf
use Rattle.expression.specs.declared.Effect.{Effect}
use Rattle.expression.specs.declared.Effect.TheVariants.{Push, Unite, Change, Pass}
use Rattle.expression.specs.declared.Counts.{Counts}
use Rattle.expression.specs.Limits.{atom_limit, rule_limit, depth_limit, count_limit}
use Rattle.expression.specs.Effects.{effect, operands_by, depth_by}
use Rattle.expression.specs.Reading.{no_counts, counted_by, counted, capped, fault_by, count_fault}

pub same-counts : (m n : Counts) → m.atoms ≡ n.atoms → m.rules ≡ n.rules → m.depth ≡ n.depth → m.deepest ≡ n.deepest → m ≡ n
same-counts m n a r d e = same
  where
    of : ℕ → ℕ → ℕ → ℕ → Counts
    of a r d e = record { atoms = a; rules = r; depth = d; deepest = e }

    same : of m.atoms m.rules m.depth m.deepest ≡ of n.atoms n.rules n.depth n.deepest
    same = cc

-- every count is at most m
pub record AtMost (m : ℕ) (n : Counts) : Type 0 where
  pub atoms : n.atoms ≤ m
  pub rules : n.rules ≤ m
  pub depth : n.depth ≤ m
  pub deepest : n.deepest ≤ m

pub none-at-most : (m : ℕ) → AtMost m no_counts
unfolding no_counts
none-at-most m = record { atoms = zero-le; rules = zero-le; depth = zero-le; deepest = zero-le }

-- a command has a byte, and adds at most one to each count: so counts are at most the offset
pub counted-at-most : (m next : ℕ) (n : Counts) (c : Command) → AtMost m n → m < next → AtMost next (counted n c)
unfolding counted
counted-at-most m next n c h l = step (effect c)
  where
    step : (e : Effect) → AtMost next (counted_by n e)
    step (Push leaf.Atom) = record { atoms = omega arith; rules = omega arith; depth = omega arith; deepest = omega arith }
    step (Push leaf.Rule) = record { atoms = omega arith; rules = omega arith; depth = omega arith; deepest = omega arith }
    step Unite = record { atoms = omega arith; rules = omega arith; depth = omega arith; deepest = omega arith }
    step Change = record { atoms = omega arith; rules = omega arith; depth = omega arith; deepest = omega arith }
    step Pass = record { atoms = omega arith; rules = omega arith; depth = omega arith; deepest = omega arith }

pub capped_same : (m : ℕ) (n : Counts) → AtMost m n → m ≤ count_limit → capped n ≡ n
unfolding capped
capped_same m n h l = same-counts _ _ (omega arith) (omega arith) (omega arith) (omega arith)

-- ---- 9 to 11 keep the counts within the limits

pub record Limited (n : Counts) : Type 0 where
  pub atoms : n.atoms ≤ atom_limit
  pub rules : n.rules ≤ rule_limit
  pub depth : n.depth ≤ depth_limit
  pub deepest : n.deepest ≤ depth_limit
  pub within : n.depth ≤ n.deepest

pub none-limited : Limited no_counts
unfolding no_counts
none-limited = record { atoms = zero-le; rules = zero-le; depth = zero-le; deepest = zero-le; within = zero-le }

unrefused : (b : Bool) (f m : ℕ) → cond b (suc f) m ≡ 0 → (b ≡ false) × (m ≡ 0)
unrefused true f m h = absurd (omega arith)
unrefused false f m h = (refl, h)

pub counted-limited : (n : Counts) (c : Command) → count_fault n c ≡ 0 → Limited n → Limited (counted n c)
unfolding count_fault counted
counted-limited n c f h = step (effect c) f
  where
    step : (e : Effect) → fault_by n e ≡ 0 → Limited (counted_by n e)
    step (Push leaf.Atom) f =
        let p = unrefused _ _ _ f in
        let a = leb-false atom_limit n.atoms p.0 in
        let d = leb-false depth_limit n.depth (unrefused _ _ _ p.1).0 in
        record { atoms = omega arith; rules = omega arith; depth = omega arith; deepest = omega arith; within = omega arith }
    step (Push leaf.Rule) f =
        let p = unrefused _ _ _ f in
        let a = leb-false rule_limit n.rules p.0 in
        let d = leb-false depth_limit n.depth (unrefused _ _ _ p.1).0 in
        record { atoms = omega arith; rules = omega arith; depth = omega arith; deepest = omega arith; within = omega arith }
    step Unite f = record { atoms = omega arith; rules = omega arith; depth = omega arith; deepest = omega arith; within = omega arith }
    step Change f = record { atoms = omega arith; rules = omega arith; depth = omega arith; deepest = omega arith; within = omega arith }
    step Pass f = record { atoms = omega arith; rules = omega arith; depth = omega arith; deepest = omega arith; within = omega arith }

-- ---- a command that passes 9 to 11 has its operands, and leaves one at least

pub passes-operands : (n : Counts) (c : Command) → count_fault n c ≡ 0 → operands_by (effect c) ≤ n.depth
unfolding count_fault
passes-operands n c f = step (effect c) f
  where
    step : (e : Effect) → fault_by n e ≡ 0 → operands_by e ≤ n.depth
    step (Push l) f = zero-le
    step Unite f = ltb-false n.depth 2 (unrefused _ _ _ f).0
    step Change f = ltb-false n.depth 1 (unrefused _ _ _ f).0
    step Pass f = ltb-false n.depth 1 (unrefused _ _ _ f).0

pub one_left : (e : Effect) (t : ℕ) → operands_by e ≤ t → 1 ≤ depth_by e t
one_left (Push l) t h = omega arith
one_left Unite t h = omega arith
one_left Change t h = h
one_left Pass t h = h

pub capped-limited : (n : Counts) → Limited n → capped n ≡ n
unfolding capped
capped-limited n h = same-counts _ _ (omega arith) (omega arith) (omega arith) (omega arith)

-- a command that passes the stack by changes no count
pub pass-counted : (n : Counts) (c : Command) → effect c ≡ Pass → Limited n → counted n c ≡ n
unfolding counted
pass-counted n c e h = ap (counted_by n) e ∙ same-counts _ _ (omega arith) (omega arith) refl (omega (arith, h.within))
