-- More room than is needed changes no answer. Assumes nothing.
use mathlib.Core.Path.{◌≡◌}
use Prim.Native.Nat.{ℕ, ◌≤◌}
use borrow.Author.Tests.{le-ltb}
use Rattle.expression.specs.Checks.{Request, first_of, cramped_test, checks, check, depth_of, need_of}
use Rattle.decisions.specs.Decisions.{assumed, decide, grounded, plain}

-- the same request with another room
unfoldable pub with_room : ℕ → Request → Request
with_room n a = record { bytes = a.bytes; pair_limit = a.pair_limit; subset_limit = a.subset_limit; room = n; assumed_true = a.assumed_true; assumed_false = a.assumed_false }

module _ (K : ℕ) (a : Request) (n : ℕ) (enough : need_of K a ≤ a.room) (enough' : need_of K a ≤ n) where
  pub check-room : check K (with_room n a) ≡ check K a
  unfolding with_room check checks cramped_test depth_of first_of
  check-room = rw (le-ltb n _ enough', le-ltb a.room _ enough)

  pub grounded-room : grounded K (with_room n a) ≡ grounded K a
  unfolding with_room grounded decide assumed
  grounded-room = rw (check-room, grounded, decide)

  pub plain-room : plain K (with_room n a) ≡ plain K a
  unfolding with_room plain decide assumed
  plain-room = rw (check-room, plain, decide)
