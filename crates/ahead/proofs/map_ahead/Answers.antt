-- `ahead::map_ahead`: the newest table is mapped, and then its count follows.
use mathlib.Core.Path.{◌≡◌, refl}
use mathlib.Core.List.{List}
use Prim.Native.Nat.{ℕ}
use native.Mathlib.Omega.{arith}
use lib.ListN.{length}
use Rattle.batches.specs.Batches.{commands_of}
use Rattle.entries.specs.Carries.{Entry}
use Rattle.maps.specs.Maps.{batched_table}
use Rattle.stacks.specs.Stacks.{count_below}
use Rattle.operands.specs.Operands.{Loaded}
use Rattle.advances.specs.Advances.{Stands}
use Rattle.advances.proofs.Advancing.{counts-reach, loaded}
use Rattle.ahead.proofs.Keeping.{changed-stands}
use Rattle.ahead.proofs.map_ahead.Goals as goal

pub count_below-n-requires : goal.count_below-n-requires
count_below-n-requires c =
    let standing : Stands c.args.carry c.args.d c.args.w c.args.p c.requires.le_t.1.0 c.requires.le_t.1.1 c.args.ws.now c.args.vals.now c.args.counts.now = c.requires.le_t.1.2 in
    (omega arith, counts-reach standing c.args.t c.requires.le_t.1.3)

pub map_newest-r-requires-clause-le_t : goal.map_newest-r-requires-clause-le_t
map_newest-r-requires-clause-le_t c =
    let standing : Stands c.args.carry c.args.d c.args.w c.args.p c.requires.le_t.1.0 c.requires.le_t.1.1 c.args.ws.now c.args.vals.now c.args.counts.now = c.requires.le_t.1.2 in
    let below : ℕ = count_below c.args.t 2 c.args.counts.now in
    let load : (ts : List (List Entry)) (beyond : List ℕ) → Stands c.args.carry c.args.d c.args.w c.args.p ts beyond c.args.ws.now c.args.vals.now c.args.counts.now → length ts ≡ c.args.t → Loaded c.args.carry c.args.d c.args.w c.args.p c.args.t c.count_below-n.result below ts beyond c.args.ws.now c.args.vals.now = λ ts beyond h e. loaded h c.args.t e c.count_below-n.result below c.count_below-n.ensures refl in
    (c.requires.le_t.0, (below, (c.requires.le_t.1.0, c.requires.le_t.1.1, load c.requires.le_t.1.0 c.requires.le_t.1.1 standing c.requires.le_t.1.3)))

pub tally-requires : goal.tally-requires
tally-requires c =
    let standing : Stands c.args.carry c.args.d c.args.w c.args.p c.requires.le_t.1.0 c.requires.le_t.1.1 c.args.ws.now c.args.vals.now c.args.counts.now = c.requires.le_t.1.2 in
    let reach = counts-reach standing c.args.t c.requires.le_t.1.3 in (c.requires.le_t.0, reach, reach)

pub returns : goal.returns
returns c =
    let below : ℕ = count_below c.args.t 2 c.args.counts.now in
    let load : (ts : List (List Entry)) (beyond : List ℕ) → Stands c.args.carry c.args.d c.args.w c.args.p ts beyond c.args.ws.now c.args.vals.now c.args.counts.now → length ts ≡ c.args.t → Loaded c.args.carry c.args.d c.args.w c.args.p c.args.t c.count_below-n.result below ts beyond c.args.ws.now c.args.vals.now = λ ts beyond h e. loaded h c.args.t e c.count_below-n.result below c.count_below-n.ensures refl in
    λ ts beyond h e. changed-stands h e c.requires.le_t.0 (omega (arith, h.holds.free, h.areas, e)) (batched_table c.args.carry (commands_of c.args.ops.now)) (c.map_newest-r.ensures.1 below ts beyond (load ts beyond h e)) c.map_newest-r.ensures.0 c.tally.ensures
