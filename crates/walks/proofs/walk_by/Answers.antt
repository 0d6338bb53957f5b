-- `walks::walk_by`: what is left of the expression, from the tables at hand, leads to what the whole walk gives.
use mathlib.Core.Path.{◌≡◌, refl, sym, ap, ◌∙◌}
use mathlib.Core.List.{map}
use Prim.Native.Nat.{◌≤◌, ◌<◌}
use Rattle.labels.specs.Labels.{label_count}
use Rattle.expression.specs.Told.{read_of}
use Rattle.expression.proofs.Commands.{read-ends}
use Rattle.expression.proofs.Checks.{bytes-joined}
use Rattle.semantics.specs.AnswerSets.{by_masks}
use Rattle.workspace.specs.Workspace.{pairs_of}
use Rattle.walks.proofs.Going.{going_start, not-fault, suits, meets, going_on, going-stops, standing-still}
use Rattle.walks.proofs.Stretching.{chain-up}
use Rattle.walks.proofs.Led.{led-ahead, led-ends}
use native.Mathlib.Omega.{arith}
use Rattle.walks.proofs.walk_by.Goals as goal

pub loop-at-init : goal.loop-at-init
loop-at-init c =
    (c.requires.wide.4, refl, refl, refl, refl, refl, λ z beyond h g. going_start c.args.kind c.args.carry (by_masks c.args.pins.assumed_true c.args.pins.assumed_false) c.args.w c.args.p c.args.stop c.args.s.now z (bytes-joined label_count c.args.s.now z h) beyond _ _ _ g _ c.no_counts-n.ensures)

pub run_ahead-b-requires-clause-some_stand : goal.run_ahead-b-requires-clause-some_stand
run_ahead-b-requires-clause-some_stand c =
    let g = c.loop-at.invariant.6 c.requires.enough.0.0 c.requires.enough.1.0 c.requires.enough.0.1 c.requires.enough.1.1 in
    (g.stack, c.requires.enough.1.0, g.stands, g.leading.deep)

pub returns-then-stop-b : goal.returns-then-stop-b
returns-then-stop-b c =
    λ beyond h.
    let g = led-ahead c.args.kind c.args.carry (by_masks c.args.pins.assumed_true c.args.pins.assumed_false) c.args.d c.args.w c.args.p c.args.stop c.args.s.now c.requires.wide.0 c.requires.wide.2 c.requires.wide.6 c.loop-at.invariant.6 c.run_ahead-b.ensures c.requires.enough.0.0 beyond c.requires.enough.0.1 h in
    led-ends c.args.kind c.args.carry (by_masks c.args.pins.assumed_true c.args.pins.assumed_false) c.args.d c.args.w c.args.p c.args.stop c.args.s.now c.requires.wide.0 c.requires.wide.2 c.requires.wide.6 c.requires.enough.0.1 g (omega (arith, c.if-stop-b.true))

pub returns-in_default : goal.returns-in_default
returns-in_default c =
    λ beyond h.
    let g = led-ahead c.args.kind c.args.carry (by_masks c.args.pins.assumed_true c.args.pins.assumed_false) c.args.d c.args.w c.args.p c.args.stop c.args.s.now c.requires.wide.0 c.requires.wide.2 c.requires.wide.6 c.loop-at.invariant.6 c.run_ahead-b.ensures c.requires.enough.0.0 beyond c.requires.enough.0.1 h in
    absurd (not-fault c.args.kind c.args.carry (by_masks c.args.pins.assumed_true c.args.pins.assumed_false) c.args.w c.args.p c.args.stop c.args.s.now g.leading c.requires.wide.6 (omega (arith, c.if-stop-b.false)) _ (sym c.read_next.ensures ∙ ap read_of c.in_default.is))

pub atom_at-atom-requires : goal.atom_at-atom-requires
atom_at-atom-requires c =
    let g = led-ahead c.args.kind c.args.carry (by_masks c.args.pins.assumed_true c.args.pins.assumed_false) c.args.d c.args.w c.args.p c.args.stop c.args.s.now c.requires.wide.0 c.requires.wide.2 c.requires.wide.6 c.loop-at.invariant.6 c.run_ahead-b.ensures c.requires.enough.0.0 c.requires.enough.1.0 c.requires.enough.0.1 c.requires.enough.1.1 in
    g.leading.remains.1.atoms

pub advance-k-requires-clause-suits : goal.advance-k-requires-clause-suits
advance-k-requires-clause-suits c =
    let g = led-ahead c.args.kind c.args.carry (by_masks c.args.pins.assumed_true c.args.pins.assumed_false) c.args.d c.args.w c.args.p c.args.stop c.args.s.now c.requires.wide.0 c.requires.wide.2 c.requires.wide.6 c.loop-at.invariant.6 c.run_ahead-b.ensures c.requires.enough.0.0 c.requires.enough.1.0 c.requires.enough.0.1 c.requires.enough.1.1 in
    let there : c.run_ahead-b.result.next < c.args.stop = omega (arith, c.if-stop-b.false) in
    (suits c.args.kind c.args.carry (by_masks c.args.pins.assumed_true c.args.pins.assumed_false) c.args.w c.args.p c.args.stop c.args.s.now g.leading c.requires.wide.6 there _ _ (sym c.in-Ok.ensures), meets c.args.kind c.args.carry (by_masks c.args.pins.assumed_true c.args.pins.assumed_false) c.args.w c.args.p c.args.stop c.args.s.now g.leading c.requires.wide.6 there _ _ (sym c.in-Ok.ensures) c.requires.enough.0.2, (_, _, c.atom_at-atom.ensures))

pub advance-k-requires-clause-some_stand : goal.advance-k-requires-clause-some_stand
advance-k-requires-clause-some_stand c =
    let g = led-ahead c.args.kind c.args.carry (by_masks c.args.pins.assumed_true c.args.pins.assumed_false) c.args.d c.args.w c.args.p c.args.stop c.args.s.now c.requires.wide.0 c.requires.wide.2 c.requires.wide.6 c.loop-at.invariant.6 c.run_ahead-b.ensures c.requires.enough.0.0 c.requires.enough.1.0 c.requires.enough.0.1 c.requires.enough.1.1 in
    (g.stack, c.requires.enough.1.0, g.stands, g.leading.deep)

pub returns-then-p-k : goal.returns-then-p-k
returns-then-p-k c =
    let there : c.run_ahead-b.result.next < c.args.stop = omega (arith, c.if-stop-b.false) in
    λ beyond h.
    let g = led-ahead c.args.kind c.args.carry (by_masks c.args.pins.assumed_true c.args.pins.assumed_false) c.args.d c.args.w c.args.p c.args.stop c.args.s.now c.requires.wide.0 c.requires.wide.2 c.requires.wide.6 c.loop-at.invariant.6 c.run_ahead-b.ensures c.requires.enough.0.0 beyond c.requires.enough.0.1 h in
    let b = c.advance-k.ensures _ _ c.atom_at-atom.ensures g.stack beyond g.stands g.leading.deep in
    let over : c.args.p < c.advance-k.result = omega (arith, c.if-p-k.true) in
    rw c.at.ensures (going-stops c.args.kind c.args.carry (by_masks c.args.pins.assumed_true c.args.pins.assumed_false) c.args.w c.args.p c.args.stop c.args.s.now g.leading c.requires.wide.6 there _ _ (sym c.in-Ok.ensures) b over _ c.fault_of.ensures, (map pairs_of g.stack, standing-still c.args.kind c.args.carry (by_masks c.args.pins.assumed_true c.args.pins.assumed_false) c.args.w c.args.p c.args.stop c.args.s.now g.leading c.requires.wide.6 there _ _ (sym c.in-Ok.ensures) b g.stands over))

pub loop-at-smaller : goal.loop-at-smaller
loop-at-smaller c =
    let g = c.loop-at.invariant.6 c.requires.enough.0.0 c.requires.enough.1.0 c.requires.enough.0.1 c.requires.enough.1.1 in
    let forward = chain-up c.args.s.now c.args.stop c.loop-at.at c.run_ahead-b.result.next _ (c.run_ahead-b.ensures g.stack c.requires.enough.1.0 g.stands g.leading.deep).chain in
    let z = read-ends _ _ c.run_ahead-b.result.next _ _ (sym c.in-Ok.ensures) in
    omega (arith, z.0, forward, c.if-stop-b.false)

pub loop-at-preserved : goal.loop-at-preserved
loop-at-preserved c =
    let i = c.loop-at.invariant in
    let there : c.run_ahead-b.result.next < c.args.stop = omega (arith, c.if-stop-b.false) in
    let few : c.advance-k.result ≤ c.args.p = omega (arith, c.if-p-k.false) in (
      c.advance-k.auto.row ∙ c.run_ahead-b.auto.row ∙ i.0,
      c.advance-k.auto.ws ∙ c.run_ahead-b.auto.ws ∙ i.1,
      c.advance-k.auto.index ∙ c.run_ahead-b.auto.index ∙ i.2,
      c.advance-k.auto.vals ∙ c.run_ahead-b.auto.vals ∙ i.3,
      c.advance-k.auto.counts ∙ c.run_ahead-b.auto.counts ∙ i.4,
      c.run_ahead-b.auto.ops ∙ i.5,
      λ z beyond hz h.
          let g = led-ahead c.args.kind c.args.carry (by_masks c.args.pins.assumed_true c.args.pins.assumed_false) c.args.d c.args.w c.args.p c.args.stop c.args.s.now c.requires.wide.0 c.requires.wide.2 c.requires.wide.6 c.loop-at.invariant.6 c.run_ahead-b.ensures z beyond hz h in
          let b = c.advance-k.ensures _ _ c.atom_at-atom.ensures g.stack beyond g.stands g.leading.deep in
          going_on c.args.kind c.args.carry (by_masks c.args.pins.assumed_true c.args.pins.assumed_false) c.args.w c.args.p c.args.stop c.args.s.now g.leading c.requires.wide.6 there _ _ (sym c.in-Ok.ensures) b few _ c.counted-n.ensures,
    )

pub returns : goal.returns
returns c =
    λ beyond h.
    let g = c.loop-at.invariant.6 c.requires.enough.0.0 beyond c.requires.enough.0.1 h in
    led-ends c.args.kind c.args.carry (by_masks c.args.pins.assumed_true c.args.pins.assumed_false) c.args.d c.args.w c.args.p c.args.stop c.args.s.now c.requires.wide.0 c.requires.wide.2 c.requires.wide.6 c.requires.enough.0.1 g (omega (arith, c.loop-at-test.false))
