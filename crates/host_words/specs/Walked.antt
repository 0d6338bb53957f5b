-- What a host gets of a call of the walk (01, "One command a call"). Nothing of it is free. Assumes nothing.
use Rattle.std.specs.Prelude.{List, ◌∷◌, ℕ, drop}
use Rattle.records.specs.declared.Answer.{Answer}
use Rattle.records.specs.declared.Answer.TheVariants.{Moved, Ended, Refused}
use Rattle.host_words.specs.Answers.{answer_words}

-- the three words of what a step answers, 3 moved, 4 ended, or 2 with number and place, and the later words kept
abbrev pub progress_words_of : Answer → List ℕ → List ℕ
progress_words_of Moved answer = 3 ∷ 0 ∷ 0 ∷ drop answer_words answer
progress_words_of Ended answer = 4 ∷ 0 ∷ 0 ∷ drop answer_words answer
progress_words_of (Refused n at) answer = 2 ∷ n ∷ at ∷ drop answer_words answer
