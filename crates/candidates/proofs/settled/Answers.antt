-- `candidates::settled`. Assumes nothing.
use Rattle.labels.proofs.Masks.{digit-is}
use Rattle.tables.specs.Triples.{settles}
use Rattle.candidates.proofs.settled.Goals as goal

pub returns-in-Head : goal.returns-in-Head
unfolding settles
returns-in-Head c = rw c.in-Head.is (digit-is _ _)

pub returns-in-Positive : goal.returns-in-Positive
unfolding settles
returns-in-Positive c = rw c.in-Positive.is (digit-is _ _)

pub returns-in-Negative : goal.returns-in-Negative
unfolding settles
returns-in-Negative c = rw c.in-Negative.is (digit-is _ _)
