-- `leaves::write_unmet`: one mark.
use mathlib.Core.Path.{ap, ◌∙◌}
use mathlib.Core.List.{[], ◌∷◌}
use Prim.Native.Nat.{ℕ}
use Rattle.tables.specs.Triples.{mark_u}
use Rattle.leaves.proofs.write_unmet.Goals as goal

pub returns : goal.returns
unfolding mark_u
returns c =
    (c.write_triple.ensures.0, c.write_triple.ensures.1 ∙ ap (λ (q : ℕ). q ∷ []) c.mark.ensures)
