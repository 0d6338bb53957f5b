-- `rows::clear`: zeros below x.
use Rattle.std.proofs.Common.{◌≡◌, length, replicate}
use Rattle.words.proofs.Mix.{mix}
use Rattle.rows.proofs.clear.Given as goal

abbrev pub invariant-loop-x : goal.invariant-loop-x
invariant-loop-x l = l.part ≡ mix l.x-index (replicate (length l.initial.part) 0) l.initial.part
