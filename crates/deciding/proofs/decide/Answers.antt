-- `deciding::decide`: from the cleared words through the walk to what its last table says, and to cleared words again.
use mathlib.Core.Path.{◌≡◌, refl, ap, ◌∙◌}
use mathlib.Core.List.{map}
use Prim.Native.Nat.{◌*◌}
use lib.ListN.{length}
use Rattle.labels.specs.Labels.{label_count}
use Rattle.expression.specs.Limits.{depth_limit}
use Rattle.semantics.specs.AnswerSets.{by_masks}
use Rattle.tables.specs.Definitions.{accepting}
use Rattle.rows.proofs.Tables.{row_within}
use Rattle.workspace.specs.Workspace.{pairs_of}
use Rattle.stacks.proofs.Clearing.{holds-counted}
use Rattle.advances.proofs.Advancing.{counts-reach}
use Rattle.answers.specs.Answers.{least_of}
use Rattle.advances.proofs.Clear.{all-clear}
use Rattle.advances.proofs.Last.{last-rows, last-beside, last-entries}
use Rattle.deciding.proofs.Deciding.{begun, found-decides, value-told}
use native.Mathlib.Omega.{arith}
use Rattle.deciding.proofs.decide.Goals as goal

pub walk-reached-requires-clause-enough : goal.walk-reached-requires-clause-enough
walk-reached-requires-clause-enough c =
    (c.requires.enough.0, (_, begun c.args.carry c.args.frame c.args.s.now c.args.ws.now _ _ _ c.requires.enough c.requires.roomy c.clear_need.ensures))

pub clear_tables-requires-clause-by_index : goal.clear_tables-requires-clause-by_index
clear_tables-requires-clause-by_index c =
    let R = c.in-Err.ensures _ (begun c.args.carry c.args.frame c.args.s.now c.args.ws.now _ _ _ c.requires.enough c.requires.roomy c.clear_need.ensures) in
    (_, R.1.0, _, R.1.1)

pub count_below-n-requires : goal.count_below-n-requires
count_below-n-requires c =
    let R = c.in-Ok.ensures _ (begun c.args.carry c.args.frame c.args.s.now c.args.ws.now _ _ _ c.requires.enough c.requires.roomy c.clear_need.ensures) in
    (omega arith, counts-reach R.2 c.in-Ok.t R.3)

pub least_accepting-found-requires : goal.least_accepting-found-requires
least_accepting-found-requires c =
    let R = c.in-Ok.ensures _ (begun c.args.carry c.args.frame c.args.s.now c.args.ws.now _ _ _ c.requires.enough c.requires.roomy c.clear_need.ensures) in
    let long : length c.walk-reached.new.ws ≡ length c.args.ws.now = c.walk-reached.auto.ws ∙ c.clear_need.auto.ws in
    let first = row_within 0 c.args.frame.areas (c.args.frame.limit * c.args.frame.width) (omega (arith, c.requires.enough.0.2)) in
    (omega (arith, c.requires.enough.1, c.requires.enough.2, long, first), last-rows R.2 c.in-Ok.t R.3 (R.4 refl) c.count_below-n.result c.count_below-n.ensures, last-beside R.2 c.in-Ok.t R.3 (R.4 refl) c.count_below-n.result c.count_below-n.ensures)

pub clear_tables-requires-in-Ok-clause-by_index : goal.clear_tables-requires-in-Ok-clause-by_index
clear_tables-requires-in-Ok-clause-by_index c =
    let R = c.in-Ok.ensures _ (begun c.args.carry c.args.frame c.args.s.now c.args.ws.now _ _ _ c.requires.enough c.requires.roomy c.clear_need.ensures) in
    (_, map pairs_of R.0, _, holds-counted depth_limit R.2.holds R.3 R.2.tallies)

pub returns-in-Err-clause-decides : goal.returns-in-Err-clause-decides
returns-in-Err-clause-decides c =
    (c.in-Err.ensures _ (begun c.args.carry c.args.frame c.args.s.now c.args.ws.now _ _ _ c.requires.enough c.requires.roomy c.clear_need.ensures)).0

pub returns-in-Err-clause-ws_after : goal.returns-in-Err-clause-ws_after
returns-in-Err-clause-ws_after c =
    let R = c.in-Err.ensures _ (begun c.args.carry c.args.frame c.args.s.now c.args.ws.now _ _ _ c.requires.enough c.requires.roomy c.clear_need.ensures) in
    all-clear c.args.frame.areas c.args.frame.width c.args.frame.limit c.args.frame.need c.args.ws.now c.requires.enough.2 _ (c.clear_tables.ensures _ R.1.0 _ R.1.1)

pub returns-in-Ok-clause-decides : goal.returns-in-Ok-clause-decides
returns-in-Ok-clause-decides c =
    let R = c.in-Ok.ensures _ (begun c.args.carry c.args.frame c.args.s.now c.args.ws.now _ _ _ c.requires.enough c.requires.roomy c.clear_need.ensures) in
    let o = by_masks c.args.pins.assumed_true c.args.pins.assumed_false in
    let least = c.least_accepting-found.ensures ∙ ap (least_of (accepting label_count)) (last-entries R.2 c.in-Ok.t R.3 (R.4 refl) c.count_below-n.result c.count_below-n.ensures) in
    rw value-told (found-decides c.args.kind c.args.carry o c.args.frame.width c.args.frame.limit c.args.s.now R.0 R.1 c.least_accepting-found.result least)

pub returns-in-Ok-clause-ws_after : goal.returns-in-Ok-clause-ws_after
returns-in-Ok-clause-ws_after c =
    let R = c.in-Ok.ensures _ (begun c.args.carry c.args.frame c.args.s.now c.args.ws.now _ _ _ c.requires.enough c.requires.roomy c.clear_need.ensures) in
    all-clear c.args.frame.areas c.args.frame.width c.args.frame.limit c.args.frame.need c.args.ws.now c.requires.enough.2 _ (c.clear_tables-in-Ok.ensures _ (map pairs_of R.0) _ (holds-counted depth_limit R.2.holds R.3 R.2.tallies))
