-- `steps::advance`: a check refuses, or 18 does, or the command at its place acts.
use Rattle.std.specs.Prelude.{Err}
use mathlib.Core.Path.{◌≡◌, refl, sym, ap, ◌∙◌}
use lib.ListN.{length}
use Rattle.labels.specs.Labels.{label_count}
use Rattle.expression.specs.Checks.{Passed, Request, check}
use Rattle.expression.specs.declared.refusals.Refusal.{Refusal}
use Rattle.checks.specs.Requests.{asked as asked_of}
use Rattle.checks.proofs.Passing.{framed, frame-areas}
use Rattle.records.specs.Told.{progress_of}
use Rattle.starts.proofs.Cases.{step-refused, step-unformed, step-formed, by-stays, by_all}
use Rattle.steps.proofs.advance.Goals as goal

pub returns-in-Err : goal.returns-in-Err
returns-in-Err c =
    let asked : Request = asked_of c.args.s.now c.args.terms (length c.args.ws.now) in
    let f = by-stays (step-refused label_count asked c.args.state c.args.ws.now (sym c.in-Err.ensures)) _ refl in
    record { state_value = f.0; progress_value = f.1; ws_after = f.2 }

pub frame_for-areas-requires : goal.frame_for-areas-requires
frame_for-areas-requires c =
    let asked : Request = asked_of c.args.s.now c.args.terms (length c.args.ws.now) in
    let passed : check label_count asked ≡ Passed c.in-Ok.z = sym c.in-Ok.ensures in
    framed asked passed

pub formed_at-requires : goal.formed_at-requires
formed_at-requires c =
    let asked : Request = asked_of c.args.s.now c.args.terms (length c.args.ws.now) in
    let passed : check label_count asked ≡ Passed c.in-Ok.z = sym c.in-Ok.ensures in
    (c.args.terms.pins.assumed_true, c.args.terms.pins.assumed_false, c.in-Ok.z, passed, frame-areas asked passed c.frame_for-areas.result c.frame_for-areas.ensures)

pub returns-in_default : goal.returns-in_default
returns-in_default c =
    let asked : Request = asked_of c.args.s.now c.args.terms (length c.args.ws.now) in
    let passed : check label_count asked ≡ Passed c.in-Ok.z = sym c.in-Ok.ensures in
    let f = by-stays (step-unformed label_count asked c.args.state c.args.ws.now passed (sym (c.formed_at.ensures c.args.terms.pins.assumed_true c.args.terms.pins.assumed_false) ∙ c.in_default.is)) _ refl in
    record { state_value = f.0; progress_value = ap (λ (e : Refusal). progress_of (Err e)) c.at.ensures ∙ f.1; ws_after = f.2 }

pub command-requires-clause-passed : goal.command-requires-clause-passed
command-requires-clause-passed c =
    let asked : Request = asked_of c.args.s.now c.args.terms (length c.args.ws.now) in
    let passed : check label_count asked ≡ Passed c.in-Ok.z = sym c.in-Ok.ensures in
    (c.in-Ok.z, passed, frame-areas asked passed c.frame_for-areas.result c.frame_for-areas.ensures)

pub command-requires-clause-formed : goal.command-requires-clause-formed
command-requires-clause-formed c = sym (c.in-Some.ensures c.args.terms.pins.assumed_true c.args.terms.pins.assumed_false)

pub returns : goal.returns
returns c =
    let asked : Request = asked_of c.args.s.now c.args.terms (length c.args.ws.now) in
    let passed : check label_count asked ≡ Passed c.in-Ok.z = sym c.in-Ok.ensures in
    let f = by_all (step-formed label_count asked c.args.state c.args.ws.now passed (sym (c.in-Some.ensures c.args.terms.pins.assumed_true c.args.terms.pins.assumed_false))) c.command.ensures in
    record { state_value = f.0; progress_value = f.1; ws_after = f.2 }
