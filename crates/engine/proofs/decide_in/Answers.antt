-- `engine::decide_in`: the front of each array is lent.
use Rattle.engine.proofs.Arrays.{roomy-zeros}
use native.Mathlib.Omega.{arith}
use Rattle.engine.proofs.decide_in.Goals as goal

pub decide-requires-clause-roomy : goal.decide-requires-clause-roomy
decide-requires-clause-roomy c =
    (roomy-zeros c.args.carry c.args.frame.areas c.args.frame.limit c.args.vals.now (omega (arith, c.requires.enough.0.2)) c.requires.vals_value.0 c.requires.vals_value.1, c.requires.vals_value.2)
