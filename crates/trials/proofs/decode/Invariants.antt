-- `decode` is safe: a byte brings at most one digit. Assumes nothing.
use Rattle.std.proofs.Common.{◌≤◌}
use Rattle.trials.proofs.decode.Given as goal

abbrev pub invariant-loop-b : goal.invariant-loop-b
invariant-loop-b l = l.n ≤ l.b-index
