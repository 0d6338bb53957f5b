-- `forms::triples_rise`: what is left of the triples, from the least that the next one may be, tells of all of them. Assumes nothing.
use mathlib.Core.Path.{◌∙◌}
use Prim.Native.Nat.{◌*◌, ◌^◌}
use native.Mathlib.Omega.{arith}
use Rattle.labels.specs.Labels.{label_count}
use Rattle.forms.proofs.Scans.{climbs-is, climbs-ended, climbs-over, climbs-low, climbs-passed}
use Rattle.forms.proofs.triples_rise.Goals as goal

pub returns-then-x-ge-TRIPLE_LIMIT : goal.returns-then-x-ge-TRIPLE_LIMIT
returns-then-x-ge-TRIPLE_LIMIT c =
    climbs-over _ _ _ _ c.loop-x-test.true c.loop-x.invariant.1 c.if-x-ge-TRIPLE_LIMIT.true ∙ climbs-is (2 ^ (3 * label_count)) _

pub returns-then-x-low : goal.returns-then-x-low
returns-then-x-low c =
    climbs-low _ _ _ _ c.loop-x-test.true c.loop-x.invariant.1 c.if-x-ge-TRIPLE_LIMIT.false c.if-x-low.true ∙ climbs-is (2 ^ (3 * label_count)) _

pub loop-x-preserved : goal.loop-x-preserved
loop-x-preserved c =
    (omega arith, climbs-passed _ _ _ _ c.loop-x-test.true c.loop-x.invariant.1 c.if-x-ge-TRIPLE_LIMIT.false c.if-x-low.false)

pub returns : goal.returns
returns c = climbs-ended _ _ _ _ c.loop-x-test.false c.loop-x.invariant.1 ∙ climbs-is (2 ^ (3 * label_count)) _
