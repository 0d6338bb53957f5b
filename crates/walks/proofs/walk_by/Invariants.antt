-- `walks::walk_by`: what is left of the expression, from the tables at hand, leads to what the whole walk gives.
use mathlib.Core.Path.{◌≡◌}
use Prim.Native.Nat.{◌-◌}
use lib.ListN.{length}
use Rattle.semantics.specs.AnswerSets.{by_masks}
use Rattle.walks.proofs.Led.{Led}
use Rattle.walks.proofs.walk_by.Given as goal

abbrev pub invariant-loop-at : goal.invariant-loop-at
invariant-loop-at l =
    (length l.row ≡ l.w) × (length l.ws ≡ length l.initial.ws) × (length l.index ≡ length l.initial.index) × (length l.vals ≡ length l.initial.vals) × (length l.counts ≡ length l.initial.counts) × (length l.ops ≡ length l.initial.ops)
    × Led l.kind l.carry (by_masks l.pins.assumed_true l.pins.assumed_false) l.d l.w l.p l.stop l.s l.initial.ws l.initial.vals l.initial.counts l.at l.n l.ws l.vals l.counts

abbrev pub decreases-loop-at : goal.decreases-loop-at
decreases-loop-at l = l.stop - l.at
