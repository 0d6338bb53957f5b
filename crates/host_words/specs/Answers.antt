-- What a host gets of a decision (01, "One command a call"). Nothing of it is free. Assumes nothing.
use Rattle.std.specs.Prelude.{cond, List, ◌∷◌, ℕ, length, drop, ltb}
use Rattle.labels.specs.Labels.{label_count}
use Rattle.expression.specs.declared.Outcome.{Outcome}
use Rattle.expression.specs.Outcomes.{kind_of, value_of, place_of}
use Rattle.expression.specs.Checks.{Request}
use Rattle.stacks.specs.Stacks.{words_after}

-- kind, value and place
abbrev pub answer_words : ℕ
answer_words = 3

-- the number that a call returns: 0 where the answer's slice is short, and then no decision is made
abbrev pub returned : List ℕ → ℕ
returned answer = cond (ltb (length answer) answer_words) 0 1

-- what is lent before and after: a call with a short answer leaves it
abbrev pub unless_short : {X : Type 0} → List ℕ → X → X → X
unless_short answer x x' = cond (ltb (length answer) answer_words) x x'

-- the words of the workspace after a decision
abbrev pub workspace_after : List ℕ → Request → List ℕ → List ℕ
workspace_after answer a ws = unless_short answer ws (words_after label_count a ws)

-- an outcome's three words, and the later words kept
abbrev pub answer_of : Outcome → List ℕ → List ℕ
answer_of o answer = kind_of o ∷ value_of o ∷ place_of o ∷ drop answer_words answer
