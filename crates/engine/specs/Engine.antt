-- What a decision shows of an interpretation. Assumes nothing.
use Rattle.std.specs.Prelude.{ℕ}
use Rattle.expression.specs.declared.Outcome.{Outcome}
use Rattle.expression.specs.declared.Outcome.TheVariants.{Yes, No, Refused}
use Rattle.values.specs.First.{shown_by}

-- an outcome with the mask of the interpretation of n atoms that has such a value
abbrev pub shown_outcome : ℕ → Outcome → Outcome
shown_outcome n (Yes v) = Yes (shown_by n v)
shown_outcome n No = No
shown_outcome n (Refused f at) = Refused f at

-- without a mask
abbrev pub unshown_outcome : Outcome → Outcome
unshown_outcome (Yes v) = Yes 0
unshown_outcome No = No
unshown_outcome (Refused f at) = Refused f at
