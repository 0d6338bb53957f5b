-- What a host gets in words, by evaluation: kinds 0 to 4 with their values and places, and a slice that is short. Assumes nothing.
use mathlib.Core.Path.{◌≡◌, refl}
use mathlib.Core.List.{List, [], ◌∷◌, map}
use Prim.Native.Nat.{ℕ}
use Rattle.expression.specs.declared.Outcome.TheVariants as outcome
use Rattle.reporting.specs.declared.Report.TheVariants as report
use Rattle.records.specs.declared.Answer.TheVariants as walk
use Rattle.host_words.specs.Answers.{returned, unless_short, answer_of}
use Rattle.host_words.specs.Reported.{report_words_of}
use Rattle.host_words.specs.Walked.{progress_words_of}

-- the host's slice: three words, and one that keeps its value
abbrev lent : List ℕ
lent = 7 ∷ 7 ∷ 7 ∷ 7 ∷ []

-- decisions: 0 no, 1 yes with the plan's mask, 2 refused with number and place
decision-examples : map (λ o. answer_of o lent) (outcome.No ∷ outcome.Yes 5 ∷ outcome.Yes 0 ∷ outcome.Refused 12 4 ∷ outcome.Refused 1 0 ∷ [])
    ≡ (0 ∷ 0 ∷ 0 ∷ 7 ∷ []) ∷ (1 ∷ 5 ∷ 0 ∷ 7 ∷ []) ∷ (1 ∷ 0 ∷ 0 ∷ 7 ∷ []) ∷ (2 ∷ 12 ∷ 4 ∷ 7 ∷ []) ∷ (2 ∷ 1 ∷ 0 ∷ 7 ∷ []) ∷ []
decision-examples = refl

-- reports: 1 with entries and words, 2 refused
report-examples : map (λ r. report_words_of r lent) (report.Written 2 5 ∷ report.Refused 17 5 ∷ report.Refused 14 1 ∷ [])
    ≡ (1 ∷ 2 ∷ 5 ∷ 7 ∷ []) ∷ (2 ∷ 17 ∷ 5 ∷ 7 ∷ []) ∷ (2 ∷ 14 ∷ 1 ∷ 7 ∷ []) ∷ []
report-examples = refl

-- the walk: 3 moved, 4 ended, 2 refused
walk-examples : map (λ x. progress_words_of x lent) (walk.Moved ∷ walk.Ended ∷ walk.Refused 18 3 ∷ [])
    ≡ (3 ∷ 0 ∷ 0 ∷ 7 ∷ []) ∷ (4 ∷ 0 ∷ 0 ∷ 7 ∷ []) ∷ (2 ∷ 18 ∷ 3 ∷ 7 ∷ []) ∷ []
walk-examples = refl

-- three words are enough and are all that is written; with less the call returns 0, and what is lent stays
short-examples : map returned ([] ∷ (7 ∷ []) ∷ (7 ∷ 7 ∷ []) ∷ (7 ∷ 7 ∷ 7 ∷ []) ∷ lent ∷ []) ≡ 0 ∷ 0 ∷ 0 ∷ 1 ∷ 1 ∷ []
short-examples = refl

kept-examples : map (λ a. unless_short a a (answer_of (outcome.Refused 13 8) a)) ([] ∷ (7 ∷ 7 ∷ []) ∷ (7 ∷ 7 ∷ 7 ∷ []) ∷ lent ∷ [])
    ≡ [] ∷ (7 ∷ 7 ∷ []) ∷ (2 ∷ 13 ∷ 8 ∷ []) ∷ (2 ∷ 13 ∷ 8 ∷ 7 ∷ []) ∷ []
kept-examples = refl
