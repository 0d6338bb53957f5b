-- `checking::check_sheet`: what the bytes say, or 1. Assumes nothing.
use borrow.Author.Tests.{lt-ltb, le-ltb}
use Rattle.expression.specs.Checks.{overlong_test, check_bytes, check_sheet}
use Rattle.expression.proofs.Checks.{refuses, passes}
use Rattle.checks.proofs.checking.check_sheet.Goals as goal

pub returns-then-s-le-BYTE_LIMIT : goal.returns-then-s-le-BYTE_LIMIT
unfolding check_bytes check_sheet overlong_test
returns-then-s-le-BYTE_LIMIT c = passes _ _ _ _ (le-ltb _ _ c.if-s-le-BYTE_LIMIT.true) c.check_bytes.ensures

pub returns : goal.returns
unfolding check_sheet overlong_test
returns c = rw c.at.ensures (refuses _ _ _ (lt-ltb _ _ c.if-s-le-BYTE_LIMIT.false))
