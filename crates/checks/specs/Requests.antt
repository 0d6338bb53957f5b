-- What a caller hands over, as the checks take it, and what they answer it. Assumes nothing.
use Rattle.std.specs.Prelude.{List, ℕ}
use Rattle.expression.specs.Checks as checked
use Rattle.checks.specs.declared.checking.Terms.{Terms}
use Rattle.expression.specs.declared.Outcome.{Outcome}
use Rattle.expression.specs.declared.Outcome.TheVariants.{No, Refused}
use Rattle.expression.specs.Checks.{Checked, Request}

-- the bytes, the limits P and G, the words of workspace, and the atoms assumed true and false
abbrev pub request : List ℕ → ℕ → ℕ → ℕ → ℕ → ℕ → Request
request s p g room i o = record { bytes = s; pair_limit = p; subset_limit = g; room = room; assumed_true = i; assumed_false = o }

-- the same of the terms that a caller gives
abbrev pub asked : List ℕ → Terms → ℕ → Request
asked s q room = request s q.pair_limit q.subset_limit room q.pins.assumed_true q.pins.assumed_false

-- the refusal of the checks
abbrev pub refusal_outcome : Checked → Outcome
refusal_outcome (checked.Passed z) = No
refusal_outcome (checked.Refused n at) = Refused n at
