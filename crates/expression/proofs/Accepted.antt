-- What it means that all checks pass: every bound that the code after them may use. Assumes nothing.
use mathlib.Core.Path.{◌≡◌, sym, ap, ◌∙◌, subst}
use mathlib.Core.List.{[]}
use Prim.Native.Nat.{ℕ, ◌^◌, ◌≤◌, ◌<◌}
use lib.Bits.{bit_and}
use lib.Dec.{ltb}
use lib.ListN.{length}
use borrow.Author.Tests.{eqb-true, ltb-true, ltb-false, not-false}
use Rattle.lists.proofs.Members.{and_both}
use Rattle.expression.specs.declared.Counts.{Counts}
use Rattle.expression.specs.Limits.{byte_limit, table_limit}
use Rattle.expression.specs.Reading.{reading}
use Rattle.expression.specs.Checks.{Passed, Request, counts_of, is_limit, overlong_test, limits_test, cramped_test, clash_test, fault_test, unjoined_test, absent_test, checks, check, check_bytes, depth_of, need_of}
use Rattle.expression.proofs.Checks.{passed-all, passes, none_left, Joined, bytes-joined, limit-tested}

pub record Accepted (K : ℕ) (a : Request) (n : Counts) : Type 0 where
  pub short : length a.bytes ≤ byte_limit
  pub pairs : (0 < a.pair_limit) × (a.pair_limit ≤ table_limit)
  pub subsets : (0 < a.subset_limit) × (a.subset_limit ≤ table_limit)
  pub deepest : n.deepest ≡ depth_of K a.bytes
  pub room : need_of K a ≤ a.room
  pub apart : bit_and a.assumed_true a.assumed_false ≡ 0
  pub bytes : check_bytes K a.bytes ≡ Passed n
  pub joined : Joined K a.bytes n
  pub true_there : a.assumed_true < 2 ^ n.atoms
  pub false_there : a.assumed_false < 2 ^ n.atoms

-- what passes all checks passes each, by its place in the list
pub check-accepted : (K : ℕ) (a : Request) (n : Counts) → check K a ≡ Passed n → Accepted K a n
unfolding check checks check_bytes depth_of overlong_test limits_test cramped_test clash_test absent_test
check-accepted K a n h =
    let r = reading K a.bytes in
    let ((one, (two, (read, (twelve, (three, (thirteen, (four, none))))))), e) = passed-all (counts_of r) n _ h in
    let limits = and_both (is_limit a.pair_limit) (is_limit a.subset_limit) (not-false _ two) in
    let there = and_both (ltb a.assumed_true (2 ^ (counts_of r).atoms)) (ltb a.assumed_false (2 ^ (counts_of r).atoms)) (not-false _ thirteen) in
    let passed = sym (passes (counts_of r) (fault_test r) _ (Passed n) read (passes (counts_of r) (unjoined_test a.bytes r) [] (Passed n) twelve (ap Passed (sym e) ∙ none_left (counts_of r)))) in
    record {
      short = ltb-false byte_limit (length a.bytes) one;
      pairs = limit-tested a.pair_limit limits.0;
      subsets = limit-tested a.subset_limit limits.1;
      deepest = sym (ap (λ x. x.deepest) e);
      room = ltb-false a.room (need_of K a) three;
      apart = eqb-true (bit_and a.assumed_true a.assumed_false) 0 (not-false _ four);
      bytes = passed;
      joined = bytes-joined K a.bytes n passed;
      true_there = subst (λ x. a.assumed_true < 2 ^ x.atoms) e (ltb-true a.assumed_true (2 ^ (counts_of r).atoms) there.0);
      false_there = subst (λ x. a.assumed_false < 2 ^ x.atoms) e (ltb-true a.assumed_false (2 ^ (counts_of r).atoms) there.1);
    }

-- what passes all checks passes those of the bytes
pub check-bytes : (K : ℕ) (a : Request) (n : Counts) → check K a ≡ Passed n → check_bytes K a.bytes ≡ Passed n
check-bytes K a n h = (check-accepted K a n h).bytes
