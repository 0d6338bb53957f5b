-- `leaves::write_present`: one mark, and in tables of pairs, unless the atom is external, the mark of the subset.
use mathlib.Core.Path.{ap, ap₂, ◌∙◌}
use mathlib.Core.List.{List, [], ◌∷◌}
use Prim.Native.Nat.{ℕ}
use Rattle.leaves.proofs.Writing.{plain-present, derived-present, external-present}
use Rattle.leaves.proofs.write_present.Goals as goal

pub returns-in-Plain : goal.returns-in-Plain
returns-in-Plain c =
    (c.write_triple.ensures.0, λ a. c.write_triple.ensures.1 ∙ ap (λ (q : ℕ). q ∷ []) c.mark-q.ensures ∙ plain-present c.args.tables a c.args.a c.in-Plain.is)

pub returns-in-Derived : goal.returns-in-Derived
returns-in-Derived c = (
  c.write_subset.ensures.0,
  λ a. c.write_subset.ensures.1 ∙ ap₂ {C = List ℕ} (λ q c. q ∷ c ∷ []) c.mark-q.ensures c.mark-s.ensures
      ∙ derived-present c.args.tables a c.args.a c.in-Pairs.is c.in-Derived.is,
)

pub returns-in-External : goal.returns-in-External
returns-in-External c = (
  c.write_triple-in-External.ensures.0,
  λ a. c.write_triple-in-External.ensures.1 ∙ ap (λ (q : ℕ). q ∷ []) c.mark-q.ensures
      ∙ external-present c.args.tables a c.args.a c.in-Pairs.is c.in-External.is,
)
