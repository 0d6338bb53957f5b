-- `names::name_bytes`: the part that the name is, or none. Assumes nothing.
use mathlib.Core.Path.{sym, ap, ◌∙◌}
use Prim.Native.Nat.{◌+◌, ◌-◌, ◌≤◌}
use native.Mathlib.Omega.{arith}
use lib.ListN.{length}
use Rattle.labels.specs.Labels.{label_count}
use Rattle.expression.specs.Limits.{name_length}
use Rattle.expression.specs.Told.{named_of, naming_of}
use Rattle.names.proofs.Calling.{named-within}
use Rattle.names.proofs.name_bytes.Goals as goal

pub overflow_add-result : goal.overflow_add-result
overflow_add-result c =
    let within : c.in-Ok-Some.at + name_length ≤ length c.args.s.now = named-within label_count _ _ _ (sym c.name.ensures ∙ ap naming_of c.in-Ok-Some.is ∙ ap named_of c.in-Ok-Some.field-0-is) in
    omega (arith, within)

pub slice_bounds-result-end : goal.slice_bounds-result-end
slice_bounds-result-end c =
    let within : c.in-Ok-Some.at + name_length ≤ length c.args.s.now = named-within label_count _ _ _ (sym c.name.ensures ∙ ap naming_of c.in-Ok-Some.is ∙ ap named_of c.in-Ok-Some.field-0-is) in
    omega (arith, within)
