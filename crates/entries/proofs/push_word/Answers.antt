-- `entries::push_word`: the part from k on.
use Rattle.std.proofs.Common.{refl}
use Rattle.entries.proofs.Keeping.{word-pushed}
use Rattle.entries.proofs.push_word.Goals as goal

pub returns : goal.returns
returns c = word-pushed c.args.p c.args.m c.args.k c.args.x c.args.vals.now _ _ c.requires.0 c.requires.1 c.requires.2 c.push_front.ensures refl
