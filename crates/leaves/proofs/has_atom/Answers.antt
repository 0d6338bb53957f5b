-- `leaves::has_atom`.
use mathlib.Core.Path.{refl}
use Rattle.labels.specs.Sets.{has}
use Rattle.leaves.proofs.has_atom.Goals as goal

pub returns : goal.returns
unfolding has
returns c = refl
