-- `put_rows` is safe: both offsets are kept in their arrays. Assumes nothing.
use Rattle.std.proofs.Common.{◌≤◌}
use Rattle.walk_vectors.proofs.put_rows.Given as goal

abbrev pub invariant-loop : goal.invariant-loop
invariant-loop l = (l.to ≤ 20000) × (l.at ≤ 16512)
