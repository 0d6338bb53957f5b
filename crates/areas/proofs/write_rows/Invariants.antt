-- `areas::write_rows`: the first i rows are written.
use mathlib.Core.Path.{◌≡◌}
use mathlib.Core.List.{◌++◌}
use Prim.Native.Nat.{◌*◌}
use lib.ListN.{length, take, drop}
use Rattle.rows.specs.Parts.{part, put}
use Rattle.rows.specs.Rows.{table_of, rows_in, sorted_of}
use Rattle.areas.proofs.write_rows.Given as goal

abbrev pub invariant-loop-i : goal.invariant-loop-i
invariant-loop-i l =
    (length l.ws ≡ length l.initial.ws)
    × (l.ws ≡ put l.to (l.p * l.w) l.initial.ws (table_of l.w l.p (take l.i (sorted_of l.w l.m (part l.from (l.p * l.w) l.initial.ws) l.index) ++ drop l.i (rows_in l.w l.n (part l.to (l.p * l.w) l.initial.ws)))))
