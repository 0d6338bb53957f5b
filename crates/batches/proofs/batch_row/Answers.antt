-- `batches::batch_row`: the subsets are made behind the first two words, which are written then.
use mathlib.Core.Path.{◌≡◌}
use mathlib.Core.List.{◌∷◌}
use Prim.Native.Nat.{◌-◌}
use native.Mathlib.Omega.{arith}
use lib.ListN.{length, take, drop, get_or}
use lib.Seq.{take-take}
use Rattle.labels.specs.Labels.{label_count}
use Rattle.candidates.specs.Candidates.{pair_of}
use Rattle.candidates.proofs.Making.{room}
use Rattle.batches.specs.Batches.{words_pair}
use Rattle.batches.proofs.Gathering.{written-pair}
use Rattle.batches.proofs.batch_row.Goals as goal

pub returns : goal.returns
unfolding pair_of
returns c =
    let made : c.batch_subsets-left.result.own ∷ take c.batch_subsets-left.result.count c.batch_subsets-left.new.run ≡ words_pair label_count c.args.code.now (pair_of c.args.src.now) = rw (take-take (get_or c.args.src.now 1 0) (length c.args.src.now - 2) (drop 2 c.args.src.now) (omega (arith, c.requires))) at c.batch_subsets-left.ensures.1 in
    let few = c.batch_subsets-left.ensures.0 in
    written-pair c.args.row.now c.batch_subsets-left.new.run _ _ _ (omega (arith, c.requires)) c.batch_subsets-left.auto.run (omega (arith, few, c.requires, room c.args.row.now, c.batch_subsets-left.auto.run)) made
