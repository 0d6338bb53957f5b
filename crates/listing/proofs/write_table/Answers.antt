-- `write_table`: no limit is exceeded, so the report is written and no other answer is given. Assumes nothing.
use Rattle.std.proofs.Common.{ap, ◌∙◌, length}
use Rattle.labels.specs.Labels.{label_count}
use Rattle.checks.specs.Requests.{request}
use Rattle.reporting.specs.Report.{reported_of}
use Rattle.listing.proofs.Final.{written, in_buffer, not-both, same_count}
use Rattle.listing.proofs.write_table.Goals as goal

pub returns-in_default-clause-value : goal.returns-in_default-clause-value
returns-in_default-clause-value c =
    let a = request c.args.s.now 32 32 (length c.args.ws.now) 0 0 in
    absurd (not-both _ (c.report.ensures.value ∙ written label_count a c.requires.ws_value c.last_start-at.result c.last_start-at.ensures _ c.requires.area_words_in_bounds) (ap reported_of c.in_default.is))

pub returns-in_default-clause-words_after : goal.returns-in_default-clause-words_after
returns-in_default-clause-words_after c =
    let a = request c.args.s.now 32 32 (length c.args.ws.now) 0 0 in
    c.report.ensures.out_after ∙ in_buffer label_count a c.requires.ws_value c.last_start-at.result c.last_start-at.ensures _ c.requires.area_words_in_bounds

pub returns-clause-value : goal.returns-clause-value
returns-clause-value c =
    let a = request c.args.s.now 32 32 (length c.args.ws.now) 0 0 in
    same_count _ (ap reported_of c.in-Ok.is) (c.report.ensures.value ∙ written label_count a c.requires.ws_value c.last_start-at.result c.last_start-at.ensures _ c.requires.area_words_in_bounds)

pub returns-clause-words_after : goal.returns-clause-words_after
returns-clause-words_after c =
    let a = request c.args.s.now 32 32 (length c.args.ws.now) 0 0 in
    c.report.ensures.out_after ∙ in_buffer label_count a c.requires.ws_value c.last_start-at.result c.last_start-at.ensures _ c.requires.area_words_in_bounds
