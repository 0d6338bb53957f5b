-- `batches::with_unmet`.
use native.Mathlib.Omega.{arith}
use Rattle.labels.specs.Labels.{label_count}
use Rattle.batches.proofs.Words.{unmet-marked}
use Rattle.batches.proofs.with_unmet.Goals as goal

pub returns : goal.returns
returns c = unmet-marked label_count 32 c.args.r c.args.g c.args.met (omega arith) c.requires
