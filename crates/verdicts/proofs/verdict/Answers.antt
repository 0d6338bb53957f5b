-- `verdicts::verdict`: a check refuses, or 18 does, or the conclusion stands.
use mathlib.Core.Path.{◌≡◌, sym, ◌∙◌}
use lib.ListN.{length}
use Rattle.std.proofs.lemmas.Result.{err_from_is_err_and}
use Rattle.labels.specs.Labels.{label_count}
use Rattle.expression.specs.Checks.{Passed, Request, check}
use Rattle.checks.specs.Requests.{asked as asked_of}
use Rattle.checks.proofs.Passing.{framed, frame-areas}
use Rattle.verdicts.proofs.Cases.{verdict-refused, verdict-unformed, verdict-formed}
use Rattle.verdicts.proofs.verdict.Goals as goal

pub returns-in_err-z : goal.returns-in_err-z
returns-in_err-z c =
    let asked : Request = asked_of c.args.s.now c.args.terms (length c.args.ws.now) in
    let p = err_from_is_err_and c.from_residual.result c.from_residual.ensures.1 in
    rw (p.1, p.2) (sym (verdict-refused label_count asked c.args.state c.args.ws.now (sym c.in_err-z.ensures)))

pub frame_for-areas-requires : goal.frame_for-areas-requires
frame_for-areas-requires c =
    let asked : Request = asked_of c.args.s.now c.args.terms (length c.args.ws.now) in
    let passed : check label_count asked ≡ Passed c.in_ok-z.z = sym c.in_ok-z.ensures in
    framed asked passed

pub formed_at-requires : goal.formed_at-requires
formed_at-requires c =
    let asked : Request = asked_of c.args.s.now c.args.terms (length c.args.ws.now) in
    let passed : check label_count asked ≡ Passed c.in_ok-z.z = sym c.in_ok-z.ensures in
    (c.args.terms.pins.assumed_true, c.args.terms.pins.assumed_false, c.in_ok-z.z, passed, frame-areas asked passed c.frame_for-areas.result c.frame_for-areas.ensures)

pub returns-in_default : goal.returns-in_default
returns-in_default c =
    let asked : Request = asked_of c.args.s.now c.args.terms (length c.args.ws.now) in
    let passed : check label_count asked ≡ Passed c.in_ok-z.z = sym c.in_ok-z.ensures in
    rw c.at.ensures (sym (verdict-unformed label_count asked c.args.state c.args.ws.now passed (sym (c.formed_at.ensures c.args.terms.pins.assumed_true c.args.terms.pins.assumed_false) ∙ c.in_default.is)))

pub conclusion-requires-clause-formed : goal.conclusion-requires-clause-formed
conclusion-requires-clause-formed c = (c.in-Some.field-0, sym (c.formed_at.ensures c.args.terms.pins.assumed_true c.args.terms.pins.assumed_false) ∙ c.in-Some.is)

pub returns : goal.returns
returns c =
    let asked : Request = asked_of c.args.s.now c.args.terms (length c.args.ws.now) in
    let passed : check label_count asked ≡ Passed c.in_ok-z.z = sym c.in_ok-z.ensures in
    c.conclusion.ensures ∙ sym (verdict-formed label_count asked c.args.state c.args.ws.now passed (sym (c.formed_at.ensures c.args.terms.pins.assumed_true c.args.terms.pins.assumed_false) ∙ c.in-Some.is))
