-- `ahead::run_ahead`: the commands are read, and done where there are any.
use mathlib.Core.Path.{refl}
use mathlib.Core.List.{List, []}
use Prim.Native.Nat.{ℕ, ◌≤◌}
use native.Mathlib.Omega.{arith}
use lib.ListN.{take}
use Rattle.lists.specs.Lists.{All}
use Rattle.labels.specs.Labels.{label_count}
use Rattle.expression.specs.declared.Command.{Command}
use Rattle.decisions.specs.Decisions.{newest}
use Rattle.batches.specs.Batches.{commands_of}
use Rattle.entries.specs.Carries.{Entry}
use Rattle.maps.specs.Maps.{Small}
use Rattle.stretches.proofs.Reading.{chain-none, counts-none}
use Rattle.advances.specs.Advances.{Stands}
use Rattle.ahead.proofs.Keeping.{small-newest}
use Rattle.ahead.proofs.Doing.{none_done, some-done, no_words, some_words}
use Rattle.ahead.proofs.run_ahead.Goals as goal

pub returns-then-n-eq0 : goal.returns-then-n-eq0
returns-then-n-eq0 c =
    let small : (ts : List (List Entry)) (beyond : List ℕ) → Stands c.args.carry c.args.d c.args.w c.args.p ts beyond c.args.ws.now c.args.vals.now c.args.counts.now → All (Small c.args.carry) (newest ts) = λ ts beyond h. small-newest c.args.carry c.args.p ts c.args.vals.now (λ i. (c.slice_known-5-1.given i).fits) h.holds.values in
    λ ts beyond h e. none_done [] (chain-none label_count c.args.s.now c.args.stop c.args.at) (counts-none c.args.n) (small ts beyond h) refl h

pub returns-then-r-eq0 : goal.returns-then-r-eq0
returns-then-r-eq0 c =
    let small : (ts : List (List Entry)) (beyond : List ℕ) → Stands c.args.carry c.args.d c.args.w c.args.p ts beyond c.args.ws.now c.args.vals.now c.args.counts.now → All (Small c.args.carry) (newest ts) = λ ts beyond h. small-newest c.args.carry c.args.p ts c.args.vals.now (λ i. (c.slice_known-5-1.given i).fits) h.holds.values in
    let words : List ℕ = c.read_stretch-r.new.ops in
    let done : List Command = commands_of (take c.read_stretch-r.result.count words) in
    λ ts beyond h e. none_done done c.read_stretch-r.ensures.1 c.read_stretch-r.ensures.2 (small ts beyond h) (no_words words _ c.if-r-eq0.true) h

pub returns : goal.returns
returns c =
    let small : (ts : List (List Entry)) (beyond : List ℕ) → Stands c.args.carry c.args.d c.args.w c.args.p ts beyond c.args.ws.now c.args.vals.now c.args.counts.now → All (Small c.args.carry) (newest ts) = λ ts beyond h. small-newest c.args.carry c.args.p ts c.args.vals.now (λ i. (c.slice_known-5-1.given i).fits) h.holds.values in
    let words : List ℕ = c.read_stretch-r.new.ops in
    let done : List Command = commands_of (take c.read_stretch-r.result.count words) in
    let there : 1 ≤ c.args.n.depth = omega (arith, c.if-n-eq0.false) in
    λ ts beyond h e. some-done done c.read_stretch-r.ensures.1 c.read_stretch-r.ensures.2 (small ts beyond h) (some_words words _ c.read_stretch-r.ensures.0 c.if-r-eq0.false) (omega (arith, there, e)) (c.map_ahead.ensures ts beyond h e)
