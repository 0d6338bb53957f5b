-- A link has no direction (02, Item 11): the two connects that it is make of each rule what `link_rule` says, by the part as it was; so i j and j i are one.
-- Assumes nothing.
use mathlib.Core.Path.{◌≡◌, refl, sym, ◌∙◌}
use mathlib.Core.Bool.{Bool, true, false, cond}
use mathlib.Core.List.{List, map}
use Prim.Native.Nat.{ℕ}
use lib.Dec.{eqb}
use borrow.Author.Tests.{eqb-true, ne_eqb}
use Rattle.lists.proofs.Members.{map-map, map_same}
use Rattle.expression.specs.declared.Kind.{Kind}
use Rattle.semantics.specs.Expressions.{Expr, link, trees}
use Rattle.semantics.specs.Programs.{Atom, Rule, atoms, labelled, extend, connect_rule, link_rule, rules}
use Rattle.semantics.proofs.Again.{extend-label}

module _ (k : Kind) (i j : ℕ) (apart : i ≡ j → ⊥) where
  both_ways : (cs : List Atom) (r : Rule) → connect_rule k i (labelled j cs) (connect_rule k j (labelled i cs) r) ≡ link_rule k i j cs r
  unfolding connect_rule link_rule
  both_ways cs r = step (eqb r.label j) refl
    where
      step : (b : Bool) → eqb r.label j ≡ b
          → connect_rule k i (labelled j cs) (cond b (extend k (labelled i cs) r) r) ≡ cond b (extend k (labelled i cs) r) (cond (eqb r.label i) (extend k (labelled j cs) r) r)
      step true e = rw (extend-label k (labelled i cs) r, ne_eqb r.label i (λ q. apart (sym q ∙ eqb-true r.label j e))) refl
      step false e = refl

  turned : (cs : List Atom) (r : Rule) → link_rule k i j cs r ≡ link_rule k j i cs r
  unfolding link_rule
  turned cs r = step (eqb r.label i) refl
    where
      step : (b : Bool) → eqb r.label i ≡ b
          → cond (eqb r.label j) (extend k (labelled i cs) r) (cond b (extend k (labelled j cs) r) r) ≡ cond b (extend k (labelled j cs) r) (cond (eqb r.label j) (extend k (labelled i cs) r) r)
      step true e = rw (ne_eqb r.label j (λ q. apart (sym (eqb-true r.label i e) ∙ q))) refl
      step false e = refl

-- the rules of a link
pub rules-linked : (k : Kind) (i j : ℕ) → (i ≡ j → ⊥) → (e : Expr) → rules (link trees k i j e) ≡ map (link_rule k i j (atoms e)) (rules e)
unfolding trees rules atoms
rules-linked k i j apart e = map-map (connect_rule k i (labelled j (atoms e))) (connect_rule k j (labelled i (atoms e))) (link_rule k i j (atoms e)) (both_ways k i j apart (atoms e)) (rules e)

-- the same the other way round: so the same models and answer sets
pub rules-turned : (k : Kind) (i j : ℕ) → (i ≡ j → ⊥) → (e : Expr) → rules (link trees k i j e) ≡ rules (link trees k j i e)
rules-turned k i j apart e =
    rules-linked k i j apart e
    ∙ map_same (link_rule k i j (atoms e)) (link_rule k j i (atoms e)) (turned k i j apart (atoms e)) (rules e)
    ∙ sym (rules-linked k j i (λ q. apart (sym q)) e)
