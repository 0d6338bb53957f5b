-- `starts::start`: a check refuses, or all is cleared.
use mathlib.Core.Path.{◌≡◌, refl, sym, ap, ◌∙◌}
use Prim.Native.Nat.{ℕ}
use lib.ListN.{length}
use Rattle.labels.specs.Labels.{label_count}
use Rattle.expression.specs.Checks.{Passed, Request, check, need_of}
use Rattle.checks.specs.Requests.{asked as asked_of}
use Rattle.stacks.specs.Stacks.{cleared}
use Rattle.checks.proofs.Passing.{accepted, framed, frame-need}
use Rattle.starts.proofs.Cases.{start-refused, start-follows, by-stays}
use Rattle.starts.proofs.start.Goals as goal

pub returns-in-Err : goal.returns-in-Err
returns-in-Err c =
    let asked : Request = asked_of c.args.s.now c.args.terms (length c.args.ws.now) in
    let f = by-stays (start-refused label_count asked c.args.state c.args.ws.now (sym c.in-Err.ensures)) _ refl in
    record { state_value = f.0; progress_value = f.1; ws_after = f.2 }

pub frame_for-requires : goal.frame_for-requires
frame_for-requires c =
    let asked : Request = asked_of c.args.s.now c.args.terms (length c.args.ws.now) in
    let passed : check label_count asked ≡ Passed c.in-Ok.n = sym c.in-Ok.ensures in
    framed asked passed

pub clear_need-requires : goal.clear_need-requires
clear_need-requires c =
    let asked : Request = asked_of c.args.s.now c.args.terms (length c.args.ws.now) in
    let passed : check label_count asked ≡ Passed c.in-Ok.n = sym c.in-Ok.ensures in
    let need : c.frame_for.result.need ≡ need_of label_count asked = frame-need asked passed c.frame_for.result c.frame_for.ensures in
    rw need (accepted asked passed).room

pub returns : goal.returns
returns c =
    let asked : Request = asked_of c.args.s.now c.args.terms (length c.args.ws.now) in
    let passed : check label_count asked ≡ Passed c.in-Ok.n = sym c.in-Ok.ensures in
    let need : c.frame_for.result.need ≡ need_of label_count asked = frame-need asked passed c.frame_for.result c.frame_for.ensures in
    let f = start-follows label_count asked c.args.state c.args.ws.now passed (c.clear_need.ensures ∙ ap (λ (n : ℕ). cleared n c.args.ws.now) need) in
    record { state_value = f.0; progress_value = f.1; ws_after = f.2 }
