-- `meaning::is_met`: test by test.
use Rattle.meaning.proofs.Sets.{met-by-negative, met-by-positive, met-by-head}
use Rattle.meaning.proofs.is_met.Goals as goal

pub returns-then-negative-interpretation-ne0 : goal.returns-then-negative-interpretation-ne0
returns-then-negative-interpretation-ne0 c =
    met-by-negative c.args.head c.args.positive c.args.negative c.args.interpretation c.args.subset c.if-negative-interpretation-ne0.true

pub returns-then-positive-subset : goal.returns-then-positive-subset
returns-then-positive-subset c =
    met-by-positive c.args.head c.args.positive c.args.negative c.args.interpretation c.args.subset c.if-negative-interpretation-ne0.false c.if-positive-subset.true

pub returns : goal.returns
returns c =
    met-by-head c.args.head c.args.positive c.args.negative c.args.interpretation c.args.subset c.if-negative-interpretation-ne0.false c.if-positive-subset.false
