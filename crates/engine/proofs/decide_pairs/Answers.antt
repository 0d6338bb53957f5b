-- `engine::decide_pairs`: the arrays made here are long enough.
use Rattle.std.proofs.Common.{rules, arith}
use Rattle.engine.proofs.decide_pairs.Goals as goal

pub decide_in-requires-clause-vals_value : goal.decide_in-requires-clause-vals_value
decide_in-requires-clause-vals_value c = (search rules, grind arith, search rules)
