-- The three words of a host (01, "One command a call": kind, plan mask or refusal number, place). Assumes nothing.
use Rattle.std.specs.Prelude.{ℕ}
use Rattle.expression.specs.declared.Outcome.{Outcome}
use Rattle.expression.specs.declared.Outcome.TheVariants.{Yes, No, Refused}

abbrev pub kind_of : Outcome → ℕ
kind_of (Yes m) = 1
kind_of No = 0
kind_of (Refused n at) = 2

abbrev pub value_of : Outcome → ℕ
value_of (Yes m) = m
value_of No = 0
value_of (Refused n at) = n

abbrev pub place_of : Outcome → ℕ
place_of (Yes m) = 0
place_of No = 0
place_of (Refused n at) = at
