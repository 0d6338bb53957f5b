-- `rows::compare_words`: what is left decides, and as much is gone of both.
use Rattle.std.proofs.Common.{◌≡◌, ◌+◌, length}
use Rattle.lists.specs.Sorted.{compare_lists}
use Rattle.rows.proofs.compare_words.Given as goal

abbrev pub invariant-loop-x : goal.invariant-loop-x
invariant-loop-x l = record {
  order : compare_lists l.a l.b ≡ compare_lists l.x-iterator.a.rest.now l.x-iterator.b.rest.now;
  lengths : length l.a + length l.x-iterator.b.rest.now ≡ length l.b + length l.x-iterator.a.rest.now;
}
