-- `entries::value_at`: by what is carried.
use Rattle.entries.proofs.Keeping.{both-value}
use Rattle.entries.proofs.value_at.Goals as goal

pub returns-in-Consequences : goal.returns-in-Consequences
returns-in-Consequences c =
    rw c.in-Consequences.is (both-value c.args.m c.args.i c.args.vals.now c.requires.1 (rw c.in-Consequences.is at c.requires.0))
