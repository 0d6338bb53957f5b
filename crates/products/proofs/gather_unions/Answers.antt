-- `products::gather_unions`. Assumes nothing.
use Rattle.products.proofs.Filtering.{rising-set, from-grown}
use Rattle.products.proofs.gather_unions.Goals as goal

pub insert_unions-requires-clause-rising : goal.insert_unions-requires-clause-rising
insert_unions-requires-clause-rising c =
    rw c.settle-m.ensures.1 (rising-set _)

pub returns : goal.returns
returns c =
    from-grown _ _ _ c.settle-m.new.run _ _ (rising-set _) c.insert_unions.auto.run (rw c.settle-m.ensures.1 at c.insert_unions.ensures)
