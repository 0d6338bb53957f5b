-- `maps::map_fused`: the commands become words, the candidates are put in, the table is settled.
use native.Mathlib.Omega.{arith}
use lib.ListN.{take}
use Rattle.labels.specs.Labels.{label_count}
use Rattle.batches.specs.Batches.{words_pair}
use Rattle.entries.specs.Carries.{value_area, values_in}
use Rattle.entries.proofs.ValueAreas.{area-beside}
use Rattle.making.proofs.Settling.{starts, after-puts, after-all, finished, stepped-indexed, stepped-rows}
use Rattle.maps.proofs.Mapping.{worded-is, few-mapped, not-over}
use Rattle.maps.proofs.map_fused.Goals as goal

pub map_all-r-requires-clause-next : goal.map_all-r-requires-clause-next
map_all-r-requires-clause-next c =
    starts c.requires.ws_value.0 c.requires.ws_value.1 c.requires.ws_value.2 _

pub settle-requires-clause-rows : goal.settle-requires-clause-rows
settle-requires-clause-rows c =
    let all_in = after-all c.requires.ws_value.0 c.requires.ws_value.1 c.requires.ws_value.2 c.requires.le_w.0 c.map_all-r.ensures.puts in
    stepped-rows all_in c.args.a c.args.n c.requires.w_bound.0 (omega (arith, c.requires.w_bound.1)) c.requires.rows.0

pub settle-requires-clause-indexed : goal.settle-requires-clause-indexed
settle-requires-clause-indexed c =
    let all_in = after-all c.requires.ws_value.0 c.requires.ws_value.1 c.requires.ws_value.2 c.requires.le_w.0 c.map_all-r.ensures.puts in
    stepped-indexed all_in

pub returns-clause-upper_bound : goal.returns-clause-upper_bound
returns-clause-upper_bound c =
    let old = value_area c.args.carry c.args.p c.args.old c.args.vals.now in
    let words = take c.fuse-m.result c.fuse-m.new.code in
    let made = after-puts c.requires.ws_value.0 c.requires.ws_value.1 c.requires.ws_value.2 c.map_all-r.ensures.puts in
    let all_in = after-all c.requires.ws_value.0 c.requires.ws_value.1 c.requires.ws_value.2 c.requires.le_w.0 c.map_all-r.ensures.puts in
    let beside = area-beside c.args.carry c.args.p c.args.old c.args.n c.args.vals.now c.requires.rows.0.room (omega (arith, c.requires.rows.1.before, c.requires.rows.1.within)) in
    let few = few-mapped c.args.carry c.args.w c.args.p c.args.a c.args.n old c.args.ws.now (omega (arith, c.requires.w_bound.0, c.requires.w_bound.1)) c.requires.rows.0 beside (words_pair label_count words) in
    let same = worded-is words c.args.ops.now _ c.fuse-m.ensures.1 _ (values_in c.args.carry c.args.n old) c.table_marks-marks.ensures in
    (not-over made few, rw (← same) (finished c.requires.w_bound.0 c.requires.w_bound.1 c.requires.ws_value.0 all_in c.settle.ensures))
