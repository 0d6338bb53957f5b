-- `rows::clear_row`: zeros stand behind the words that a row uses.
use mathlib.Core.Path.{sym}
use Prim.Native.Nat.{◌+◌, ◌≤◌}
use lib.ListN.{length, get_or}
use lib.Seq.{length-take-le}
use Rattle.rows.proofs.Single.{row-used, cleared}
use native.Mathlib.Omega.{arith}
use Rattle.rows.proofs.clear_row.Goals as goal

pub bounds-part-1 : goal.bounds-part-1
bounds-part-1 c =
    let within : 2 + get_or c.args.part.now 1 0 ≤ length c.args.part.now = row-used c.requires in
    omega (arith, within)

pub slice_bounds-clear-end : goal.slice_bounds-clear-end
slice_bounds-clear-end c =
    let within : 2 + get_or c.args.part.now 1 0 ≤ length c.args.part.now = row-used c.requires in
    within

pub slice_bounds-clear-end-2 : goal.slice_bounds-clear-end-2
slice_bounds-clear-end-2 c =
    let within : 2 + get_or c.args.part.now 1 0 ≤ length c.args.part.now = row-used c.requires in
    sym (length-take-le _ _ within)

pub returns : goal.returns
returns c = rw c.clear.ensures (cleared c.requires)
