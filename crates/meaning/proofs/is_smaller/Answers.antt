-- `meaning::is_smaller`: test by test.
use Rattle.meaning.proofs.Sets.{not-subset, not-proper, by-granted}
use Rattle.meaning.proofs.is_smaller.Goals as goal

pub returns-then-subset-interpretation : goal.returns-then-subset-interpretation
returns-then-subset-interpretation c =
    not-subset c.args.external c.args.interpretation c.args.subset c.if-subset-interpretation.true

pub returns-then-interpretation-subset : goal.returns-then-interpretation-subset
returns-then-interpretation-subset c =
    not-proper c.args.external c.args.interpretation c.args.subset c.if-subset-interpretation.false c.if-interpretation-subset.true

pub returns : goal.returns
returns c =
    by-granted c.args.external c.args.interpretation c.args.subset c.if-subset-interpretation.false c.if-interpretation-subset.false
