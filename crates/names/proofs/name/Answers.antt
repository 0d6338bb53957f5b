-- `names::name`: what it is called, or the refusal. Assumes nothing.
use mathlib.Core.Path.{◌∙◌}
use Rattle.std.proofs.lemmas.Result.{err_from_is_err_and}
use Rattle.expression.specs.Names.{name_of}
use Rattle.names.proofs.name.Goals as goal

pub returns : goal.returns
unfolding name_of
returns c = rw (← c.in_ok-check_sheet.ensures) c.called.ensures

pub returns-in_err-check_sheet : goal.returns-in_err-check_sheet
unfolding name_of
returns-in_err-check_sheet c =
    let p = err_from_is_err_and c.from_residual.result c.from_residual.ensures.1 in
    rw (p.1, p.2, ← c.in_err-check_sheet.ensures)
