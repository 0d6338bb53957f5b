-- `calls::decided`: a check refuses, or the walk decides.
use mathlib.Core.Path.{◌≡◌, sym, ◌∙◌}
use lib.ListN.{length}
use Rattle.std.proofs.lemmas.Result.{err_from_is_err_and}
use Rattle.std.specs.Prelude.{Ok, Err}
use Prim.Native.Nat.{◌≤◌}
use Rattle.labels.specs.Labels.{label_count}
use Rattle.expression.specs.Limits.{atom_limit}
use Rattle.std.proofs.iter.Serving.{serving}
use Rattle.std.specs.Option.{option_map}
use Rattle.std.proofs.Common.{rules}
use Rattle.values.specs.First.{shown_by}
use Rattle.expression.specs.Checks.{Request}
use Rattle.checks.specs.Requests.{asked as asked_of}
use Rattle.stacks.proofs.After.{words-stay, words-cleared}
use Rattle.checks.proofs.Passing.{accepted, framed, frame-need, frame-limits, frame-deep, frame-fits}
use Rattle.calls.proofs.Outcomes.{refused-grounded, grounded-framed, shown-mapped}
use Rattle.calls.proofs.decided.Goals as goal

pub returns-in_err-n-clause-value : goal.returns-in_err-n-clause-value
returns-in_err-n-clause-value c =
    let asked : Request = asked_of c.args.s.now c.args.terms (length c.args.ws.now) in
    let p = err_from_is_err_and c.from_residual.result c.from_residual.ensures.1 in
    rw (p.1, p.2) (refused-grounded asked (sym c.in_err-n.ensures))

pub returns-in_err-n-clause-ws_after : goal.returns-in_err-n-clause-ws_after
returns-in_err-n-clause-ws_after c =
    let asked : Request = asked_of c.args.s.now c.args.terms (length c.args.ws.now) in
    words-stay label_count asked c.args.ws.now (sym c.in_err-n.ensures)

pub frame_for-frame-requires : goal.frame_for-frame-requires
frame_for-frame-requires c =
    let asked : Request = asked_of c.args.s.now c.args.terms (length c.args.ws.now) in
    framed asked (sym c.in_ok-n.ensures)

pub decide_pairs-requires-clause-le_w : goal.decide_pairs-requires-clause-le_w
decide_pairs-requires-clause-le_w c =
    let asked : Request = asked_of c.args.s.now c.args.terms (length c.args.ws.now) in
    frame-limits asked (sym c.in_ok-n.ensures) c.frame_for-frame.result c.frame_for-frame.ensures

pub decide_pairs-requires-clause-enough : goal.decide_pairs-requires-clause-enough
decide_pairs-requires-clause-enough c =
    let asked : Request = asked_of c.args.s.now c.args.terms (length c.args.ws.now) in
    let made = c.frame_for-frame.ensures in
    let fits = frame-fits asked (sym c.in_ok-n.ensures) c.frame_for-frame.result made in
    (frame-deep asked (sym c.in_ok-n.ensures) c.frame_for-frame.result made, fits.0, fits.1, fits.2)

pub returns-in_err-found-clause-value : goal.returns-in_err-found-clause-value
returns-in_err-found-clause-value c =
    let asked : Request = asked_of c.args.s.now c.args.terms (length c.args.ws.now) in
    let e = c.in_err-found.field-0.0 in
    let p = err_from_is_err_and c.from_residual-in_err-found.result c.from_residual-in_err-found.ensures.1 in
    rw (p.1, p.2) (grounded-framed asked (sym c.in_ok-n.ensures) c.frame_for-frame.result c.frame_for-frame.ensures (Err e) c.in_err-found.ensures.decides)

pub returns-in_err-found-clause-ws_after : goal.returns-in_err-found-clause-ws_after
returns-in_err-found-clause-ws_after c =
    let asked : Request = asked_of c.args.s.now c.args.terms (length c.args.ws.now) in
    let passed = sym c.in_ok-n.ensures in
    c.in_err-found.ensures.ws_after ∙ words-cleared label_count asked c.args.ws.now passed (frame-need asked passed c.frame_for-frame.result c.frame_for-frame.ensures)

pub map-requires : goal.map-requires
map-requires c =
    let asked : Request = asked_of c.args.s.now c.args.terms (length c.args.ws.now) in
    let h : c.in_ok-n.n.atoms ≤ atom_limit = (accepted asked (sym c.in_ok-n.ensures)).joined.limited.atoms in
    grind serving

pub returns-clause-value : goal.returns-clause-value
returns-clause-value c =
    let asked : Request = asked_of c.args.s.now c.args.terms (length c.args.ws.now) in
    let told = grounded-framed asked (sym c.in_ok-n.ensures) c.frame_for-frame.result c.frame_for-frame.ensures (Ok c.in_ok-found.found) c.in_ok-found.ensures.decides in
    let m : c.map.result ≡ option_map (shown_by c.in_ok-n.n.atoms) c.in_ok-found.found = search rules in
    rw m (shown-mapped c.in_ok-n.n.atoms c.in_ok-found.found ∙ told)

pub returns-clause-ws_after : goal.returns-clause-ws_after
returns-clause-ws_after c =
    let asked : Request = asked_of c.args.s.now c.args.terms (length c.args.ws.now) in
    let passed = sym c.in_ok-n.ensures in
    c.in_ok-found.ensures.ws_after ∙ words-cleared label_count asked c.args.ws.now passed (frame-need asked passed c.frame_for-frame.result c.frame_for-frame.ensures)
