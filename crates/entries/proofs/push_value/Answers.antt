-- `entries::push_value`: by what is carried.
use Rattle.entries.proofs.Keeping.{nothing-pushed, first-pushed, both-entered}
use Rattle.entries.proofs.push_value.Goals as goal

pub returns-in-Nothing : goal.returns-in-Nothing
returns-in-Nothing c = rw c.in-Nothing.is (nothing-pushed c.args.p c.args.m c.args.k c.args.v c.args.vals.now (rw c.in-Nothing.is at c.requires.kept.0) (rw c.in-Nothing.is at c.requires.kept.1) c.requires.k_le_m.0)

pub returns-in-First : goal.returns-in-First
returns-in-First c =
    rw c.in-First.is (c.push_word.ensures.0, first-pushed c.args.m c.args.k c.args.v c.args.vals.now c.push_word.new.vals (rw c.in-First.is at c.requires.kept.1) c.push_word.ensures.1)

pub returns-in-Consequences : goal.returns-in-Consequences
returns-in-Consequences c =
    rw c.in-Consequences.is (both-entered c.args.p c.args.m c.args.k c.args.v c.args.vals.now c.push_both.new.vals (rw c.in-Consequences.is at c.requires.kept.0) c.requires.k_le_m.0 c.requires.k_le_m.1 c.push_both.ensures)
