-- `entries::put_value`: by what is carried.
use Rattle.entries.proofs.Keeping.{nothing_put, first-put, both-put}
use Rattle.entries.proofs.put_value.Goals as goal

pub returns-in-Nothing : goal.returns-in-Nothing
returns-in-Nothing c = rw c.in-Nothing.is (nothing_put c.args.p c.args.m c.args.k c.args.v c.args.vals.now (rw c.in-Nothing.is at c.requires.kept.0) (rw c.in-Nothing.is at c.requires.kept.1) c.requires.k_lt_m.0)

pub returns-in-First : goal.returns-in-First
returns-in-First c = rw c.in-First.is (first-put c.args.p c.args.m c.args.k c.args.v c.args.vals.now (rw c.in-First.is at c.requires.kept.0) (rw c.in-First.is at c.requires.kept.1) c.requires.k_lt_m.0 c.requires.k_lt_m.1)

pub returns-in-Consequences : goal.returns-in-Consequences
returns-in-Consequences c = rw c.in-Consequences.is (both-put c.args.p c.args.m c.args.k c.args.v c.args.vals.now (rw c.in-Consequences.is at c.requires.kept.0) c.requires.k_lt_m.0 c.requires.k_lt_m.1)
