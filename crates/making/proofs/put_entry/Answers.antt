-- `making::put_entry`: the table is over already, or the entry goes in.
use mathlib.Core.Path.{refl, ◌∙◌}
use Prim.Native.Nat.{◌*◌}
use Rattle.rows.proofs.Parts.{span, part-long}
use Rattle.rows.proofs.Single.{read_fits}
use Rattle.making.proofs.Stepping.{over-more, put-more}
use native.Mathlib.Omega.{arith}
use Rattle.making.proofs.put_entry.Goals as goal

pub returns-then-p-m : goal.returns-then-p-m
returns-then-p-m c =
    λ cands rest ws₀ h. over-more h c.if-p-m.true (read_fits c.args.row.now c.requires.readable.0 c.requires.readable.1)

pub returns : goal.returns
returns c =
    let q = span c.args.to (c.args.p * c.args.w) in
    let fits = read_fits c.args.row.now c.requires.readable.0 c.requires.readable.1 in
    let long = (rw q at c.insert_entry.auto.area) ∙ part-long c.args.to (c.args.p * c.args.w) c.args.ws.now c.requires.le_w.2 in
    λ cands rest ws₀ h. rw q (put-more h (omega (arith, c.if-p-m.false)) fits c.requires.le_w.2 c.insert_entry.result c.insert_entry.new.area _ c.insert_entry.new.index c.insert_entry.new.vals (rw q at c.insert_entry.ensures) refl long)
