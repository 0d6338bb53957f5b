-- The engine's decisions in the oracle's form. Assumes nothing.
use Rattle.std.specs.Prelude.{Result, Ok, Err}
use Rattle.expression.specs.declared.Outcome.{Outcome}
use Rattle.expression.specs.declared.Outcome.TheVariants as outcome
use Rattle.oracle.specs.declared.Answer.{Answer}
use Rattle.oracle.specs.declared.Answer.TheVariants.{No, Yes}
use Rattle.oracle.specs.declared.Unanswered.{Unanswered}
use Rattle.oracle.specs.declared.Unanswered.TheVariants.{Refused}

abbrev pub answered_of : Outcome → Result Answer Unanswered
answered_of (outcome.Yes m) = Ok (Yes m)
answered_of outcome.No = Ok No
answered_of (outcome.Refused n at) = Err (Refused n at)
