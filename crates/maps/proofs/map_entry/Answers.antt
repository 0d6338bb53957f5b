-- `maps::map_entry`: the candidate is made, then put in.
use Rattle.rows.proofs.Parts.{span}
use Rattle.maps.proofs.map_entry.Goals as goal

pub returns : goal.returns
returns c =
    let holds = rw (span c.args.ra c.args.w) at c.batch_row.ensures.2 in
    λ cands rest ws₀ h. c.put_entry.ensures cands rest ws₀ (rw holds h)
