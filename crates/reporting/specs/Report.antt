-- What a report answers (01, Tables: reports), and how the code's answer is read in these words. Assumes nothing.
use Rattle.std.specs.Prelude.{Result, Ok, Err}
use Rattle.expression.specs.declared.refusals.Refusal.{Refusal}
use Rattle.expression.specs.Refusals.{number_of}
use Rattle.reporting.specs.declared.Written as lengths
use Rattle.reporting.specs.declared.Report.{Report}
use Rattle.reporting.specs.declared.Report.TheVariants.{Written, Refused}

abbrev pub reported_of : Result lengths.Written Refusal → Report
reported_of (Ok x) = Written x.entries x.words
reported_of (Err e) = Refused (number_of e.reason) e.place
