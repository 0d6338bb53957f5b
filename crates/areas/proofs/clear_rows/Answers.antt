-- `areas::clear_rows`: the first i rows stand.
use Prim.Native.Nat.{◌-◌, ◌*◌}
use native.Mathlib.Omega.{arith}
use Rattle.rows.proofs.Parts.{span}
use Rattle.rows.proofs.Single.{row-long}
use Rattle.areas.proofs.Clearing.{all-stand, next-row, next-cleared}
use Rattle.areas.proofs.clear_rows.Goals as goal

pub loop-i-init : goal.loop-i-init
loop-i-init c = (c.requires.m_le_n, all-stand c.requires.rows)

pub clear_row-requires : goal.clear_row-requires
clear_row-requires c =
    let r = next-row c.requires.rows c.loop-i.auto.i (omega arith) c.loop-i.invariant.1 c.requires.le_w in
    rw (span ((c.loop-i.i - 1) * c.args.w) c.args.w, row-long r) r

pub loop-i-preserved : goal.loop-i-preserved
loop-i-preserved c =
    let r = next-row c.requires.rows c.loop-i.auto.i (omega arith) c.loop-i.invariant.1 c.requires.le_w in
    let z = rw (span ((c.loop-i.i - 1) * c.args.w) c.args.w, row-long r) at c.clear_row.ensures in
    (omega arith, rw (span ((c.loop-i.i - 1) * c.args.w) c.args.w, z) (next-cleared c.requires.rows c.loop-i.auto.i (omega arith) c.loop-i.invariant.1))
