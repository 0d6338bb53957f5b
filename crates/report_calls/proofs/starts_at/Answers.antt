-- `report_calls::starts_at`: an offset within the bytes that the walk over them comes to.
use mathlib.Core.Path.{sym, ◌∙◌}
use lib.ListN.{length}
use borrow.Author.Tests.{le-ltb}
use Rattle.labels.specs.Labels.{label_count}
use Rattle.report_calls.proofs.Asked.{starts-past, starts_by}
use Rattle.report_calls.proofs.starts_at.Goals as goal

pub returns-then-at-s : goal.returns-then-at-s
returns-then-at-s c =
    c.is_some.ensures ∙ starts_by label_count c.args.s.now c.args.at c.if-at-s.true c.locate.result (sym c.locate.ensures)

pub returns-else-at-s : goal.returns-else-at-s
returns-else-at-s c = le-ltb c.args.at (length c.args.s.now) c.if-at-s.false ∙ starts-past label_count c.args.s.now c.args.at c.if-at-s.false
