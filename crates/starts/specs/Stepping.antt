-- What a call answers against what the definitions make of a record. Assumes nothing.
use Rattle.std.specs.Prelude.{◌≡◌, List, ℕ}
use Rattle.records.specs.declared.Record.{Record}
use Rattle.records.specs.Steps.{Step}
use Rattle.records.specs.declared.Answer.{Answer}

-- record, answer and words are the definition's
abbrev pub Follows : Step → Record → Answer → List ℕ → Type 0
Follows x r q ws = (r ≡ x.state) × (q ≡ x.answer) × (ws ≡ x.words)
