-- `forms::triples_rise`: what is left of the triples, from the least that the next one may be, tells of all of them. Assumes nothing.
use mathlib.Core.Path.{◌≡◌}
use Prim.Native.Nat.{◌*◌, ◌^◌, ◌≤◌}
use lib.ListN.{drop}
use Rattle.labels.specs.Labels.{label_count}
use Rattle.forms.proofs.Scans.{climbs}
use Rattle.forms.proofs.triples_rise.Given as goal

abbrev pub invariant-loop-x : goal.invariant-loop-x
invariant-loop-x l =
    (l.low ≤ 2 ^ (3 * label_count)) × (climbs (2 ^ (3 * label_count)) l.low (drop l.x-index l.triples) ≡ climbs (2 ^ (3 * label_count)) 0 l.triples)
