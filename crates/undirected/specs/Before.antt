-- What 02, Item 11 replaced, as it was: a link i j puts atoms of label i into rules of label j, and nothing else. Over K labels. Assumes nothing.
use Rattle.std.specs.Prelude.{◌≡◌, ◌⊎◌, Bool, cond, List, [], ◌∷◌, map, ℕ, zero, suc, ◌+◌, ◌^◌, length}
use Rattle.std.specs.Int.Bits.{bit_or}
use Rattle.lists.specs.Lists.{All, run}
use Rattle.expression.specs.declared.Command.{Command}
use Rattle.expression.specs.declared.Command.TheVariants.{Atom, Rule, Union, Relabel, Connect, Name}
use Rattle.expression.specs.declared.Outcome.{Outcome}
use Rattle.expression.specs.Reading.{new_atoms, Placed, reading}
use Rattle.expression.specs.Checks.{Passed, Refused, Request, check}
use Rattle.semantics.specs.Expressions.{Expr, Operations, change_newest, act, trees}
use Rattle.semantics.specs.Programs.{atoms, rules, numbers}
use Rattle.tables.specs.Algebras.{Algebra, tables}
use Rattle.tables.specs.Definitions.{triples, pairs, plain_accepts, grounded_accepts}
use Rattle.decisions.specs.Decisions.{Verdict, refused, assumed, commands_in, pairs_fault, plain_fault, Walked, stopped, walked, newest, conclude, first_tree, expression_of}
use Rattle.decisions.specs.First.{leaving, keeping, says_yes}
use Rattle.decisions.specs.Outcomes.{with_mask, without_mask}

-- ---- the sheets that keep their tables

-- 02: group i has no rules, group j no copies, in the part linked
abbrev pub NoRules : ℕ → Expr → Type 0
NoRules i e = All (λ r. r.label ≡ i → ⊥) (rules e)

abbrev pub NoAtoms : ℕ → Expr → Type 0
NoAtoms j e = All (λ c. c.label ≡ j → ⊥) (atoms e)

-- a command on a stack of parts: if it is a link, the half that is new is without effect
abbrev pub OneWayOn : Command → List Expr → Type 0
OneWayOn (Connect k i j) [] = Unit {0}
OneWayOn (Connect k i j) (e ∷ es) = NoRules i e ⊎ NoAtoms j e
OneWayOn (Atom a) es = Unit {0}
OneWayOn (Rule g) es = Unit {0}
OneWayOn Union es = Unit {0}
OneWayOn (Relabel i j) es = Unit {0}
OneWayOn (Name at) es = Unit {0}

-- at every link of commands; of an expression
unfoldable pub OneWay : ℕ → List Command → List Expr → Type 0
OneWay n [] es = Unit {0}
OneWay n (c ∷ cs) es = OneWayOn c es × OneWay (n + new_atoms c) cs (act trees n c es)

abbrev pub OneWaySheet : ℕ → List ℕ → Type 0
OneWaySheet K s = OneWay 0 (map (λ p. p.command) (commands_in (reading K s))) []

-- ---- from before

module _ {Y : Type 0} where
  unfoldable pub act_before : Operations Y → ℕ → Command → List Y → List Y
  act_before B n (Connect k i j) ys = change_newest (B.connect_op k i j) ys
  act_before B n (Atom a) ys = act B n (Atom a) ys
  act_before B n (Rule g) ys = act B n (Rule g) ys
  act_before B n Union ys = act B n Union ys
  act_before B n (Relabel i j) ys = act B n (Relabel i j) ys
  act_before B n (Name at) ys = act B n (Name at) ys

  unfoldable pub act_all_before : Operations Y → ℕ → List Command → List Y → List Y
  act_all_before B n [] ys = ys
  act_all_before B n (c ∷ cs) ys = act_all_before B (n + new_atoms c) cs (act_before B n c ys)

module _ {X : Type 0} where
  unfoldable pub walk_before : Operations (List X) → (List X → ℕ) → ℕ → List Placed → List (List X) → Walked X
  walk_before B f n [] ts = walked ts
  walk_before B f n (c ∷ cs) ts =
      let us = act_before B n c.command ts in
      elim (f (newest us)) [ zero ↦ walk_before B f (n + new_atoms c.command) cs us | suc k ↦ stopped (suc k) c.place ]

  unfoldable pub decide_before : Algebra X → (List X → ℕ) → (List X → Bool) → ℕ → Request → Verdict
  decide_before A f y K a =
      elim (check K a) [
        | Passed z ↦ conclude y (walk_before (tables A (assumed a)) f 0 (commands_in (reading K a.bytes)) [])
        | Refused n at ↦ refused n at
      ]

unfoldable pub grounded_before : ℕ → Request → Verdict
grounded_before K a = decide_before (pairs K) (pairs_fault a.pair_limit a.subset_limit) (grounded_accepts K) K a

unfoldable pub plain_before : ℕ → Request → Verdict
plain_before K a = decide_before (triples K) (plain_fault a.pair_limit) (plain_accepts K) K a

-- the first plan by that decision
unfoldable pub chosen_before : ℕ → Request → List ℕ → ℕ
chosen_before K a [] = 0
chosen_before K a (c ∷ cs) = cond (says_yes (grounded_before K (leaving c a))) (chosen_before K (leaving c a) cs) (bit_or (2 ^ c) (chosen_before K (keeping c a) cs))

abbrev pub outcome_before : ℕ → Request → Outcome
outcome_before K a = with_mask (chosen_before K a (run 0 (length (numbers (expression_of K a.bytes))))) (grounded_before K a)

abbrev pub plain_outcome_before : ℕ → Request → Outcome
plain_outcome_before K a = without_mask (plain_before K a)

-- the tree
unfoldable pub expression_before : ℕ → List ℕ → Expr
expression_before K s = first_tree (act_all_before trees 0 (map (λ p. p.command) (commands_in (reading K s))) [])
