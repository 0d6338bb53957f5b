-- What a host gets of a report, in words (01, Tables: reports). Nothing of it is free. Assumes nothing.
use Rattle.std.specs.Prelude.{List, ◌∷◌, ℕ, drop}
use Rattle.reporting.specs.declared.Report.{Report}
use Rattle.reporting.specs.declared.Report.TheVariants.{Written, Refused}
use Rattle.host_words.specs.Answers.{answer_words}

-- a report's three words, 1 with entries and words or 2 with number and place, and the later words kept
abbrev pub report_words_of : Report → List ℕ → List ℕ
report_words_of (Written entries words) answer = 1 ∷ entries ∷ words ∷ drop answer_words answer
report_words_of (Refused n at) answer = 2 ∷ n ∷ at ∷ drop answer_words answer
