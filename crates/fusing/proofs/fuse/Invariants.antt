-- `fusing::fuse`: the halves left, after the words so far, lead to what all commands make; what stands there has no marks but those seen.
use mathlib.Core.Path.{◌≡◌}
use mathlib.Core.List.{List}
use Prim.Native.Nat.{ℕ, ◌+◌, ◌-◌, ◌*◌, ◌≤◌}
use lib.ListN.{length, take, drop}
use Rattle.labels.specs.Labels.{label_count}
use Rattle.marks.specs.Marks.{Marked}
use Rattle.batches.specs.Batches.{commands_of, steps, word_steps}
use Rattle.fusing.proofs.Halves.{left}
use Rattle.fusing.proofs.fuse.Given as goal

abbrev pub invariant-loop-k : goal.invariant-loop-k
invariant-loop-k l =
    (2 * l.k + l.back ≤ 2 * length l.ops) × (l.back ≤ 1) × (l.m ≤ 2 * l.k + l.back) × (length l.code ≡ length l.initial.code)
    × ((x : List ℕ) → Marked l.marks x → Marked l.seen (word_steps label_count (take l.m l.code) x) × (left label_count l.back (commands_of (drop l.k l.ops)) (word_steps label_count (take l.m l.code) x) ≡ steps label_count (commands_of l.ops) x))

abbrev pub decreases-loop-k : goal.decreases-loop-k
decreases-loop-k l = 2 * (length l.ops - l.k) + (1 - l.back)
