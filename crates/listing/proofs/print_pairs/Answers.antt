-- `print_pairs`: from where it stands on, as many pairs are written as are left to print. Assumes nothing.
use Rattle.std.proofs.Common.{◌-◌, arith}
use Rattle.listing.proofs.Printing.{pair-next}
use Rattle.listing.proofs.print_pairs.Goals as goal

pub overflow_add-end : goal.overflow_add-end
overflow_add-end g c = let n = pair-next c.loop.at (c.args.n - c.loop.counter) c.args.words.now (omega (arith, c.loop-test.true)) c.loop.invariant in omega (arith, n.0)

pub overflow_add-end-in-loop : goal.overflow_add-end-in-loop
overflow_add-end-in-loop g c = let n = pair-next c.loop.at (c.args.n - c.loop.counter) c.args.words.now (omega (arith, c.loop-test.true)) c.loop.invariant in omega (arith, n.0)

pub offset_bounds-words-at : goal.offset_bounds-words-at
offset_bounds-words-at g c = let n = pair-next c.loop.at (c.args.n - c.loop.counter) c.args.words.now (omega (arith, c.loop-test.true)) c.loop.invariant in omega (arith, n.0)

pub bounds-words-at : goal.bounds-words-at
bounds-words-at g c = let n = pair-next c.loop.at (c.args.n - c.loop.counter) c.args.words.now (omega (arith, c.loop-test.true)) c.loop.invariant in omega (arith, n.0)

pub overflow_add-end-in-loop-2 : goal.overflow_add-end-in-loop-2
overflow_add-end-in-loop-2 g c = let n = pair-next c.loop.at (c.args.n - c.loop.counter) c.args.words.now (omega (arith, c.loop-test.true)) c.loop.invariant in omega (arith, n.0)

pub print_line-requires : goal.print_line-requires
print_line-requires g c = let n = pair-next c.loop.at (c.args.n - c.loop.counter) c.args.words.now (omega (arith, c.loop-test.true)) c.loop.invariant in (omega arith, n.0)

pub loop-preserved : goal.loop-preserved
loop-preserved g c =
    let n = (pair-next c.loop.at (c.args.n - c.loop.counter) c.args.words.now (omega (arith, c.loop-test.true)) c.loop.invariant).1 in
    (n.0, n.1, n.2, omega (arith, n.3))
