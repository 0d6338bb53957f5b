-- `checking::is_limit`: 1 to 1024. Assumes nothing.
use native.Mathlib.Omega.{arith}
use borrow.Author.Tests.{lt-ltb, le-ltb}
use Rattle.expression.specs.Checks.{is_limit}
use Rattle.checks.proofs.checking.is_limit.Goals as goal

pub returns-then-n-eq0 : goal.returns-then-n-eq0
unfolding is_limit
returns-then-n-eq0 c = rw c.if-n-eq0.true

pub returns-then-n-gt-TABLE_LIMIT : goal.returns-then-n-gt-TABLE_LIMIT
unfolding is_limit
returns-then-n-gt-TABLE_LIMIT c = let n = c.args.n in simp (lt-ltb 0 n (omega arith), le-ltb n 1025 (omega arith))

pub returns : goal.returns
unfolding is_limit
returns c = let n = c.args.n in simp (lt-ltb 0 n (omega arith), lt-ltb n 1025 (omega arith))
