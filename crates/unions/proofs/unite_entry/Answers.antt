-- `unions::unite_entry`: the candidate is made, then put in.
use Rattle.rows.proofs.Parts.{span}
use Rattle.making.proofs.Stepping.{made-unfit, step-wide, stepped}
use native.Mathlib.Omega.{arith}
use Rattle.unions.proofs.unite_entry.Goals as goal

pub returns-then-w-k : goal.returns-then-w-k
returns-then-w-k c =
    let made = rw (span c.args.ra c.args.w, span c.args.rb c.args.w, c.requires.le_w.3) at c.unite_row-k.ensures in
    λ cands rest ws₀ h. step-wide h c.requires.le_w.0 (made-unfit made (omega (arith, c.if-w-k.true, c.unite_row-k.auto.row)))

pub returns : goal.returns
returns c =
    let made = rw (span c.args.ra c.args.w, span c.args.rb c.args.w, c.requires.le_w.3) at c.unite_row-k.ensures in
    let holds = (made.fits (omega (arith, c.if-w-k.false, c.requires.le_w.0, c.unite_row-k.auto.row))).1 in
    λ cands rest ws₀ h. stepped c.requires.le_w.0 (c.put_entry.ensures cands rest ws₀ (rw holds h))
