-- `report_calls::report_kind`: a check refuses, no command starts there, or the walk goes up to it.
use mathlib.Core.Path.{sym, ap, ◌∙◌}
use mathlib.Core.Bool.{not}
use mathlib.Core.List.{List}
use lib.ListN.{length}
use borrow.Author.Tests.{not-true, not-false}
use Rattle.std.proofs.lemmas.Result.{err_from_is_err_and}
use Rattle.labels.specs.Labels.{label_count}
use Rattle.expression.specs.Checks.{Request}
use Rattle.checks.specs.Requests.{asked}
use Rattle.checks.proofs.Passing.{framed}
use Rattle.entries.specs.Carries.{Entry}
use Rattle.workspace.specs.Workspace.{pairs_of}
use Rattle.reports.specs.Reports.{report_of}
use Rattle.reporting.specs.Reporting.{report_answer, report_buffer}
use Rattle.report_calls.specs.ReportCalls.{narrowed}
use Rattle.report_calls.proofs.Asked.{entries-refused, entries-nowhere, words-refused, words-nowhere, words-cleared, walks-asked, kind-wide, kind-enough, kind-need, starts-within}
use Rattle.report_calls.proofs.report_kind.Goals as goal

pub returns-in_err-n-clause-value : goal.returns-in_err-n-clause-value
returns-in_err-n-clause-value c =
    let a : Request = asked c.args.s.now c.args.terms (length c.args.ws.now) in
    let p = err_from_is_err_and c.from_residual.result c.from_residual.ensures.1 in
    rw (p.1, p.2) (sym (ap (report_answer (λ (x : List Entry). report_of c.args.kind (pairs_of x)) (length c.args.out.now) c.args.at) (entries-refused a c.args.at c.args.kind (sym c.in_err-n.ensures))))

pub returns-in_err-n-clause-out_after : goal.returns-in_err-n-clause-out_after
returns-in_err-n-clause-out_after c =
    let a : Request = asked c.args.s.now c.args.terms (length c.args.ws.now) in
    sym (ap (report_buffer (λ (x : List Entry). report_of c.args.kind (pairs_of x)) c.args.out.now) (entries-refused a c.args.at c.args.kind (sym c.in_err-n.ensures)))

pub returns-in_err-n-clause-ws_after : goal.returns-in_err-n-clause-ws_after
returns-in_err-n-clause-ws_after c =
    words-refused (asked c.args.s.now c.args.terms (length c.args.ws.now)) c.args.at c.args.ws.now (sym c.in_err-n.ensures)

pub returns-then-not-starts_at-clause-value : goal.returns-then-not-starts_at-clause-value
returns-then-not-starts_at-clause-value c =
    let a : Request = asked c.args.s.now c.args.terms (length c.args.ws.now) in
    let n = sym c.starts_at.ensures ∙ not-true _ (ap not c.if-not-starts_at.true) in
    rw c.at.ensures (sym (ap (report_answer (λ (x : List Entry). report_of c.args.kind (pairs_of x)) (length c.args.out.now) c.args.at) (entries-nowhere a c.args.at c.args.kind (sym c.in_ok-n.ensures) n)))

pub returns-then-not-starts_at-clause-out_after : goal.returns-then-not-starts_at-clause-out_after
returns-then-not-starts_at-clause-out_after c =
    let a : Request = asked c.args.s.now c.args.terms (length c.args.ws.now) in
    let n = sym c.starts_at.ensures ∙ not-true _ (ap not c.if-not-starts_at.true) in
    sym (ap (report_buffer (λ (x : List Entry). report_of c.args.kind (pairs_of x)) c.args.out.now) (entries-nowhere a c.args.at c.args.kind (sym c.in_ok-n.ensures) n))

pub returns-then-not-starts_at-clause-ws_after : goal.returns-then-not-starts_at-clause-ws_after
returns-then-not-starts_at-clause-ws_after c =
    let n = sym c.starts_at.ensures ∙ not-true _ (ap not c.if-not-starts_at.true) in
    words-nowhere (asked c.args.s.now c.args.terms (length c.args.ws.now)) c.args.at (sym c.in_ok-n.ensures) c.args.ws.now n

pub frame_for-requires : goal.frame_for-requires
frame_for-requires c = framed (asked c.args.s.now c.args.terms (length c.args.ws.now)) (sym c.in_ok-n.ensures)

pub tabulate_here-requires-clause-wide : goal.tabulate_here-requires-clause-wide
tabulate_here-requires-clause-wide c =
    let e = c.narrowed-frame.ensures ∙ ap (narrowed c.args.kind) c.frame_for.ensures in
    let starts = sym c.starts_at.ensures ∙ not-false _ (ap not c.if-not-starts_at.false) in
    let l = kind-wide (asked c.args.s.now c.args.terms (length c.args.ws.now)) (sym c.in_ok-n.ensures) c.narrowed-frame.result c.args.kind e in
    (l.0, l.1, l.2, l.3, starts-within label_count c.args.s.now c.args.at starts)

pub tabulate_here-requires-clause-enough : goal.tabulate_here-requires-clause-enough
tabulate_here-requires-clause-enough c =
    let e = c.narrowed-frame.ensures ∙ ap (narrowed c.args.kind) c.frame_for.ensures in
    kind-enough (asked c.args.s.now c.args.terms (length c.args.ws.now)) (sym c.in_ok-n.ensures) c.narrowed-frame.result c.args.kind e

pub returns-clause-value : goal.returns-clause-value
returns-clause-value c =
    let a : Request = asked c.args.s.now c.args.terms (length c.args.ws.now) in
    let e = c.narrowed-frame.ensures ∙ ap (narrowed c.args.kind) c.frame_for.ensures in
    let starts = sym c.starts_at.ensures ∙ not-false _ (ap not c.if-not-starts_at.false) in
    c.tabulate_here.ensures.value ∙ ap (report_answer (λ (x : List Entry). report_of c.args.kind (pairs_of x)) (length c.args.out.now) c.args.at) (walks-asked a c.args.at c.args.kind c.narrowed-frame.result e (sym c.in_ok-n.ensures) starts)

pub returns-clause-out_after : goal.returns-clause-out_after
returns-clause-out_after c =
    let a : Request = asked c.args.s.now c.args.terms (length c.args.ws.now) in
    let e = c.narrowed-frame.ensures ∙ ap (narrowed c.args.kind) c.frame_for.ensures in
    let starts = sym c.starts_at.ensures ∙ not-false _ (ap not c.if-not-starts_at.false) in
    c.tabulate_here.ensures.out_after ∙ ap (report_buffer (λ (x : List Entry). report_of c.args.kind (pairs_of x)) c.args.out.now) (walks-asked a c.args.at c.args.kind c.narrowed-frame.result e (sym c.in_ok-n.ensures) starts)

pub returns-clause-ws_after : goal.returns-clause-ws_after
returns-clause-ws_after c =
    let a : Request = asked c.args.s.now c.args.terms (length c.args.ws.now) in
    let e = c.narrowed-frame.ensures ∙ ap (narrowed c.args.kind) c.frame_for.ensures in
    let starts = sym c.starts_at.ensures ∙ not-false _ (ap not c.if-not-starts_at.false) in
    c.tabulate_here.ensures.ws_after ∙ words-cleared a c.args.at (sym c.in_ok-n.ensures) c.args.ws.now starts (kind-need a (sym c.in_ok-n.ensures) c.narrowed-frame.result c.args.kind e)
