-- `meaning::obeys`: test by test.
use Rattle.meaning.proofs.Sets.{not-of-copies, lacks-pinned, by-pins-out}
use Rattle.meaning.proofs.obeys.Goals as goal

pub returns-then-set-atoms : goal.returns-then-set-atoms
returns-then-set-atoms c =
    not-of-copies c.args.set c.args.atoms c.args.assumed_true c.args.assumed_false c.if-set-atoms.true

pub returns-then-forced-set : goal.returns-then-forced-set
returns-then-forced-set c =
    lacks-pinned c.args.set c.args.atoms c.args.assumed_true c.args.assumed_false c.if-set-atoms.false c.if-forced-set.true

pub returns : goal.returns
returns c =
    by-pins-out c.args.set c.args.atoms c.args.assumed_true c.args.assumed_false c.if-set-atoms.false c.if-forced-set.false
