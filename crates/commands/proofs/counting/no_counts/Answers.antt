-- `counting::no_counts`: by computation. Assumes nothing.
use mathlib.Core.Path.{refl}
use Rattle.expression.specs.Reading.{no_counts}
use Rattle.commands.proofs.counting.no_counts.Goals as goal

pub returns : goal.returns
unfolding no_counts
returns c = refl
