-- `batches::without_rule`.
use Prim.Native.Nat.{◌+◌, ◌*◌}
use native.Mathlib.Omega.{arith}
use Rattle.labels.specs.Labels.{label_count}
use Rattle.batches.proofs.Steps.{mark-is}
use Rattle.batches.proofs.Words.{taken_out, mark-within}
use Rattle.batches.proofs.without_rule.Goals as goal

pub overflow_sub-result : goal.overflow_sub-result
overflow_sub-result c = rw (mark-is (2 * label_count + c.args.g) 32 (omega (arith, c.requires))) (mark-within (2 * label_count + c.args.g) c.args.r)

pub returns : goal.returns
returns c = rw (mark-is (2 * label_count + c.args.g) 32 (omega (arith, c.requires))) (taken_out (2 * label_count + c.args.g) c.args.r)
