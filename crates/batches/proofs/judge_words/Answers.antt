-- `batches::judge_words`: the triples before the index are mapped.
use Prim.Native.Nat.{◌<◌}
use native.Mathlib.Omega.{arith}
use lib.ListN.{length}
use Rattle.std.proofs.lemmas.List.{get_or_default}
use Rattle.std.proofs.lemmas.List.Edits.{map_over_more}
use Rattle.batches.proofs.judge_words.Goals as goal

pub loop-x-preserved : goal.loop-x-preserved
loop-x-preserved c =
    let l : c.loop-x.x-index < length c.loop-x.run = omega arith in
    rw c.judge_triple.ensures (map_over_more _ _ _ _ _ (omega arith) c.loop-x.invariant (get_or_default _ _ _ _ l))
