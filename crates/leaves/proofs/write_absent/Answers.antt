-- `leaves::write_absent`: one mark.
use mathlib.Core.Path.{ap, ◌∙◌}
use mathlib.Core.List.{[], ◌∷◌}
use Prim.Native.Nat.{ℕ}
use Rattle.tables.specs.Triples.{mark_f}
use Rattle.leaves.proofs.write_absent.Goals as goal

pub returns : goal.returns
unfolding mark_f
returns c =
    (c.write_triple.ensures.0, c.write_triple.ensures.1 ∙ ap (λ (q : ℕ). q ∷ []) c.mark.ensures)
