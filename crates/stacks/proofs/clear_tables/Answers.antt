-- `stacks::clear_tables`: the i oldest tables stand.
use mathlib.Core.Path.{◌≡◌, ap, ◌∙◌}
use mathlib.Core.List.{List}
use Prim.Native.Nat.{ℕ, ◌+◌, ◌-◌, ◌*◌}
use native.Mathlib.Omega.{arith}
use lib.ListN.{drop}
use borrow.Rule.Slice.PartMut.{same_len_mid}
use Rattle.tables.specs.Definitions.{Pair}
use Rattle.rows.specs.Rows.{table_of}
use Rattle.rows.proofs.Parts.{span}
use Rattle.workspace.specs.Workspace.{workspace_of}
use Rattle.stacks.proofs.Clearing.{all_left, none_left, counts-room, stack-room, area-rows, one_less}
use Rattle.stacks.proofs.clear_tables.Goals as goal

pub loop-i-init : goal.loop-i-init
loop-i-init c =
    let h = c.requires.by_index.3 in
    record { counted = counts-room h; room = stack-room h; left = λ d ts beyond g. all_left g }

pub clear_rows-requires-clause-rows : goal.clear_rows-requires-clause-rows
clear_rows-requires-clause-rows c =
    let h = c.requires.by_index in
    rw (span ((c.loop-i.i - 1) * (c.args.p * c.args.w)) (c.args.p * c.args.w))
    (area-rows h.3 c.loop-i.i (c.loop-i.i - 1) (omega arith) (omega arith) c.loop-i.ws (c.loop-i.invariant.left h.0 h.1 h.2 h.3))

pub loop-i-preserved : goal.loop-i-preserved
unfolding table_of
loop-i-preserved c =
    let k = c.args.p * c.args.w in
    let at = (c.loop-i.i - 1) * k in record {
      counted = omega arith;
      room = grind (arith, same_len_mid at (at + k - at) c.loop-i.ws c.clear_rows.new.area c.clear_rows.auto.area);
      left = λ d ts beyond h. rw (span at k, c.clear_rows.ensures) (one_less h c.loop-i.i (c.loop-i.i - 1) (omega arith) (omega arith) c.loop-i.ws (c.loop-i.invariant.left d ts beyond h));
    }

pub returns : goal.returns
returns c =
    λ d ts beyond h. c.loop-i.invariant.left d ts beyond h
    ∙ ap (λ (us : List (List Pair)). workspace_of d c.args.w c.args.p us beyond) (ap (λ (m : ℕ). drop (c.args.t - m) ts) (let z : c.loop-i.i ≡ 0 = omega arith in z) ∙ none_left h)
