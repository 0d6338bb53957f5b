-- `products::insert_seen`. Assumes nothing.
use Rattle.products.proofs.Filtering.{hit, missed}
use Rattle.products.proofs.insert_seen.Goals as goal

pub returns-then-seen-h : goal.returns-then-seen-h
returns-then-seen-h c =
    hit _ _ _ _ _ c.requires.n_in_bounds c.requires.rising c.requires.known c.slot-h.ensures c.if-seen-h.true

pub returns : goal.returns
returns c =
    missed _ c.args.run.now _ c.args.n _ c.args.x _ c.requires.known c.insert-m.ensures
