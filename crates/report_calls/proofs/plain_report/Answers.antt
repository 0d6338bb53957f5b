-- `report_calls::plain_report`: what is asked of tables with values is what is asked of those without.
use mathlib.Core.Path.{◌∙◌}
use lib.ListN.{length}
use Rattle.checks.specs.Requests.{asked}
use Rattle.report_calls.proofs.Asked.{plain-answer, plain-buffer}
use Rattle.report_calls.proofs.plain_report.Goals as goal

pub returns-clause-value : goal.returns-clause-value
returns-clause-value c = c.report_kind.ensures.value ∙ plain-answer (asked c.args.s.now c.args.terms (length c.args.ws.now)) c.args.at (length c.args.out.now)

pub returns-clause-out_after : goal.returns-clause-out_after
returns-clause-out_after c = c.report_kind.ensures.out_after ∙ plain-buffer (asked c.args.s.now c.args.terms (length c.args.ws.now)) c.args.at c.args.out.now
