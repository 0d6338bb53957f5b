-- `leaves::atom_at`: two values and two tests.
use Rattle.semantics.specs.AnswerSets.{by_masks}
use Rattle.leaves.specs.Leaves.{atom_at}
use Rattle.leaves.proofs.Writing.{absent-value}
use Rattle.leaves.proofs.atom_at.Goals as goal

pub returns : goal.returns
unfolding atom_at by_masks
returns c =
    rw (c.has_atom.ensures, c.has_atom-2.ensures, c.present_value-value_in.ensures, absent-value c.args.carry c.args.c)
