-- What the code answers of a call of the walk, in the words of the definitions. Assumes nothing.
use Rattle.std.specs.Prelude.{Result, Ok, Err}
use Rattle.expression.specs.declared.refusals.Refusal.{Refusal}
use Rattle.expression.specs.Refusals.{number_of}
use Rattle.records.specs.declared.Progress.{Progress}
use Rattle.records.specs.declared.Progress.TheVariants as progress
use Rattle.records.specs.declared.Answer.{Answer}
use Rattle.records.specs.declared.Answer.TheVariants.{Moved, Ended, Refused}

abbrev pub progress_of : Result Progress Refusal → Answer
progress_of (Ok progress.Moved) = Moved
progress_of (Ok progress.Ended) = Ended
progress_of (Err e) = Refused (number_of e.reason) e.place
