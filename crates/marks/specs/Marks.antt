-- The marks that the triples of pairs have. Assumes nothing.
use Rattle.std.specs.Prelude.{List, [], ◌∷◌, ℕ}
use Rattle.lists.specs.Lists.{All}
use Rattle.labels.specs.Sets.{Within}

-- an own triple with others behind it, none of which has a mark that m has not
abbrev pub Marked : ℕ → List ℕ → Type 0
Marked m [] = ⊥
Marked m (q ∷ s) = All (Within m) (q ∷ s)
