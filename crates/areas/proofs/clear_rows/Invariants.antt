-- `areas::clear_rows`: the first i rows stand.
use mathlib.Core.Path.{◌≡◌}
use Prim.Native.Nat.{◌≤◌}
use lib.ListN.{take}
use Rattle.rows.specs.Rows.{table_of, rows_in}
use Rattle.areas.proofs.clear_rows.Given as goal

abbrev pub invariant-loop-i : goal.invariant-loop-i
invariant-loop-i l = (l.m ≤ l.i) × (l.area ≡ table_of l.w l.p (take l.i (rows_in l.w l.n l.initial.area)))
