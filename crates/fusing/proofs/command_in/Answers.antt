-- `fusing::command_in`: a word's labels are labels.
use native.Mathlib.Omega.{arith}
use Rattle.labels.specs.Labels.{label_count}
use Rattle.batches.proofs.Steps.{suits-word}
use Rattle.fusing.proofs.command_in.Goals as goal

pub returns : goal.returns
returns c = (c.command_of.ensures, rw c.command_of.ensures (suits-word label_count (omega arith) _))
