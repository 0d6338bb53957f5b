-- What a decision answers, on the way to its outcome. Assumes nothing.
use Rattle.std.specs.Prelude.{◌≡◌, List, Option, Some, None, ℕ, length}
use Rattle.labels.specs.Labels.{label_count}
use Rattle.expression.specs.declared.Outcome.{Outcome}
use Rattle.expression.specs.declared.Outcome.TheVariants.{Yes, No, Refused}
use Rattle.semantics.specs.AnswerSets.{Assumptions}
use Rattle.tables.specs.Definitions.{accepting}
use Rattle.values.specs.Values.{none, worth}
use Rattle.decisions.specs.Decisions.{newest, stopped, walked}
use Rattle.entries.specs.declared.Carry.{Carry}
use Rattle.entries.specs.Carries.{Entry}
use Rattle.leaves.specs.declared.Tables.{Tables}
use Rattle.answers.specs.Answers.{least_of}
use Rattle.walks.specs.Walks.{walk_to}

-- an outcome with the least value for a plan: where the walk stops, or what the last table says
abbrev pub Decides : Tables → Carry → Assumptions → ℕ → ℕ → List ℕ → Outcome → Type 0
Decides kind carry o w p s (Yes v) = (us : List (List Entry)) × (walk_to kind carry o w p (length s) s ≡ walked us) × (least_of (accepting label_count) (newest us) ≡ worth v)
Decides kind carry o w p s No = (us : List (List Entry)) × (walk_to kind carry o w p (length s) s ≡ walked us) × (least_of (accepting label_count) (newest us) ≡ none)
Decides kind carry o w p s (Refused n at) = walk_to kind carry o w p (length s) s ≡ stopped n at

-- the outcome with the value that was found
abbrev pub value_outcome : Option ℕ → Outcome
value_outcome None = No
value_outcome (Some v) = Yes v
