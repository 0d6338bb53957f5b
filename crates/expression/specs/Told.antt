-- What the code answers, in the words of the definitions: a refusal's reason as its number. Assumes nothing.
use Rattle.std.specs.Prelude.{Option, Some, None, Result, Ok, Err, ℕ}
use Rattle.expression.specs.declared.Command.{Command}
use Rattle.expression.specs.declared.Counts.{Counts}
use Rattle.expression.specs.declared.refusals.Reason.{Reason}
use Rattle.expression.specs.declared.refusals.Refusal.{Refusal}
use Rattle.expression.specs.Refusals.{number_of}
use Rattle.expression.specs.declared.Outcome.{Outcome}
use Rattle.expression.specs.declared.Outcome.TheVariants as outcome
use Rattle.expression.specs.Commands.{Read, Got, Fault}
use Rattle.expression.specs.Checks.{Checked, Passed, Refused}
use Rattle.expression.specs.Names as naming

-- a command and the offset after it, or why there is none
abbrev pub read_of : Result (Command × ℕ) Reason → Read
read_of (Ok (c, next)) = Got c next
read_of (Err r) = Fault (number_of r)

-- 0 where a command passes
abbrev pub fault_of : Result (Unit {0}) Reason → ℕ
fault_of (Ok x) = 0
fault_of (Err r) = number_of r

abbrev pub checked_of : Result Counts Refusal → Checked
checked_of (Ok z) = Passed z
checked_of (Err e) = Refused (number_of e.reason) e.place

-- where a name begins, or none
abbrev pub named_of : Option ℕ → naming.Naming
named_of (Some at) = naming.Named at
named_of None = naming.Nameless

-- the same, or a refusal
abbrev pub naming_of : Result (Option ℕ) Refusal → naming.Naming
naming_of (Ok name) = named_of name
naming_of (Err e) = naming.Refused (number_of e.reason) e.place

-- yes with a mask, no, or a refusal
abbrev pub outcome_of : Result (Option ℕ) Refusal → Outcome
outcome_of (Ok (Some m)) = outcome.Yes m
outcome_of (Ok None) = outcome.No
outcome_of (Err e) = outcome.Refused (number_of e.reason) e.place
