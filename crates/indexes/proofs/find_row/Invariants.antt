-- `indexes::find_row`: the rank lies between lo and hi.
use Prim.Native.Nat.{◌-◌, ◌≤◌, ◌<◌}
use Rattle.lists.specs.Sorted.{compare_lists, rank}
use Rattle.candidates.specs.Candidates.{pair_of}
use Rattle.rows.specs.Rows.{sorted_of}
use Rattle.indexes.proofs.find_row.Given as goal

abbrev pub invariant-loop-lo : goal.invariant-loop-lo
invariant-loop-lo l =
    (l.lo ≤ rank compare_lists (pair_of l.row) (sorted_of l.w l.m l.area l.index)) × (rank compare_lists (pair_of l.row) (sorted_of l.w l.m l.area l.index) ≤ l.hi) × (l.hi ≤ l.m)
    × (l.lo < l.hi → (l.lo ≤ l.mid) × (l.mid < l.hi))

abbrev pub decreases-loop-lo : goal.decreases-loop-lo
decreases-loop-lo l = l.hi - l.lo
