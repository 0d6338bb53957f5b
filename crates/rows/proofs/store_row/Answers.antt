-- `rows::store_row`: the words that the row reads, and zeros where the old row was longer.
use mathlib.Core.Path.{◌∙◌}
use Prim.Native.Nat.{◌+◌, ◌≤◌}
use lib.ListN.{length, get_or}
use Rattle.rows.proofs.Single.{row-used, stored-long, stored_short}
use native.Mathlib.Omega.{arith}
use Rattle.rows.proofs.store_row.Goals as goal

pub slice_bounds-clear-end : goal.slice_bounds-clear-end
slice_bounds-clear-end c =
    let within : 2 + get_or c.args.part.now 1 0 ≤ length c.args.part.now = row-used c.requires.row in
    omega (arith, within, c.copy_words.auto.part)

pub returns-then-new-old : goal.returns-then-new-old
returns-then-new-old c =
    rw c.copy_words.ensures (stored_short c.requires.row c.args.row.now c.requires.readable c.requires.row_len c.if-new-old.true _ (rw c.copy_words.ensures at c.clear.ensures))

pub returns-else-new-old : goal.returns-else-new-old
returns-else-new-old c =
    c.copy_words.ensures ∙ stored-long c.requires.row c.args.row.now c.requires.readable c.requires.row_len c.if-new-old.false
