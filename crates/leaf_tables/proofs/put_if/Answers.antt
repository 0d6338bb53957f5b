-- `leaf_tables::put_if`: it is put in, or not allowed.
use Rattle.leaf_tables.proofs.put_if.Goals as goal

pub returns-then-is_allowed : goal.returns-then-is_allowed
returns-then-is_allowed c =
    λ cands rest ws₀ h. c.put_entry.ensures cands rest ws₀ (rw c.if-is_allowed.true at h)
