-- `stretches::read_stretch`: the words written so far stand for the commands passed.
use mathlib.Core.Path.{◌≡◌}
use Prim.Native.Nat.{◌-◌, ◌≤◌}
use lib.ListN.{length, take}
use Rattle.labels.specs.Labels.{label_count}
use Rattle.batches.specs.Batches.{commands_of}
use Rattle.stretches.specs.Stretches.{Chain, chain_counts}
use Rattle.stretches.proofs.read_stretch.Given as goal

abbrev pub invariant-loop-count : goal.invariant-loop-count
invariant-loop-count l =
    (l.count ≤ length l.ops) × (length l.ops ≡ length l.initial.ops) × Chain label_count l.s l.stop l.at l.next (commands_of (take l.count l.ops)) × (l.counts ≡ chain_counts l.initial.counts (commands_of (take l.count l.ops)))
