-- `leaf_tables::put_leaf`: the present entry, then the absent one.
use mathlib.Core.List.{◌++◌}
use Rattle.leaf_tables.proofs.Leaves.{absents, present-step, absent-step}
use Rattle.leaf_tables.proofs.put_leaf.Goals as goal

pub put_if-m-requires-clause-next : goal.put_if-m-requires-clause-next
put_if-m-requires-clause-next c =
    let n = c.requires.next in
    (n.0, absents c.args.tables c.args.atom c.args.new ++ n.1, n.2, present-step c.args.tables c.args.atom c.args.new c.write_present.new.row n.1 (c.write_present.ensures.1 0) n.3)

pub put_if-requires-clause-next : goal.put_if-requires-clause-next
put_if-requires-clause-next c =
    let n = c.requires.next in
    let first = present-step c.args.tables c.args.atom c.args.new c.write_present.new.row n.1 (c.write_present.ensures.1 0) n.3 in
    (n.0, n.1, n.2, absent-step c.args.tables c.args.atom c.args.new c.write_absent.new.row n.1 c.write_absent.ensures.1 (c.put_if-m.ensures n.0 (absents c.args.tables c.args.atom c.args.new ++ n.1) n.2 first))

pub returns : goal.returns
returns c =
    λ cands rest ws₀ h.
    let first = present-step c.args.tables c.args.atom c.args.new c.write_present.new.row rest (c.write_present.ensures.1 0) h in
    c.put_if.ensures cands rest ws₀
    (absent-step c.args.tables c.args.atom c.args.new c.write_absent.new.row rest c.write_absent.ensures.1 (c.put_if-m.ensures cands (absents c.args.tables c.args.atom c.args.new ++ rest) ws₀ first))
