-- `draft` is safe and ends: a turn writes at most 20 bytes. Assumes nothing.
use Rattle.std.proofs.Common.{◌≤◌, ◌*◌}
use Rattle.generator.proofs.draft.Given as goal

abbrev pub invariant-loop-turn : goal.invariant-loop-turn
invariant-loop-turn l = (l.depth ≤ l.turn) × (l.at ≤ 20 * l.turn)
