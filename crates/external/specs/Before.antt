-- What 02, Item 9 replaced, as it was: the command bytes with one operand, the pair of an atom that is in, and what is strictly smaller. Over K labels. Assumes
-- nothing.
use Rattle.std.specs.Prelude.{◌≡◌, Bool, true, false, cond, ◌||◌, List, [], ◌∷◌, map, ℕ, ◌^◌, eqb, length}
use Rattle.std.specs.Int.Bits.{bit_or}
use Rattle.lists.specs.Lists.{All, every, run}
use Rattle.expression.specs.declared.Kind.TheVariants.{Head, Positive, Negative}
use Rattle.expression.specs.declared.Role.TheVariants.{Derived}
use Rattle.expression.specs.declared.Command.{Command}
use Rattle.expression.specs.declared.Command.TheVariants.{Atom, Rule, Union, Relabel, Connect, Name}
use Rattle.expression.specs.declared.Outcome.{Outcome}
use Rattle.expression.specs.Commands.{atom_of}
use Rattle.expression.specs.Reading.{reading}
use Rattle.expression.specs.Checks.{Request}
use Rattle.semantics.specs.Expressions.{Expr}
use Rattle.semantics.specs.Programs.{rules, numbers}
use Rattle.semantics.specs.AnswerSets.{Interpretation, satisfies, reduct, ProperSubset}
use Rattle.tables.specs.Algebras.{Algebra}
use Rattle.tables.specs.Triples.{mark_t, mark_f}
use Rattle.tables.specs.Definitions.{Pair, pairs, grounded_accepts}
use Rattle.decisions.specs.Decisions.{Verdict, commands_in, pairs_fault, decide, expression_of}
use Rattle.decisions.specs.First.{leaving, keeping, says_yes}
use Rattle.decisions.specs.Outcomes.{with_mask}

-- no external atom comes by a command; by none of an expression's
abbrev pub NoExternal : Command → Type 0
NoExternal (Atom a) = a.role ≡ Derived
NoExternal (Rule g) = Unit {0}
NoExternal Union = Unit {0}
NoExternal (Relabel i j) = Unit {0}
NoExternal (Connect k i j) = Unit {0}
NoExternal (Name at) = Unit {0}

abbrev pub NoneExternal : ℕ → List ℕ → Type 0
NoneExternal K s = All NoExternal (map (λ p. p.command) (commands_in (reading K s)))

-- ---- from before

-- 11 g and 12 g
unfoldable pub one_operand_before : ℕ → Bool
one_operand_before b = eqb b 0x11 || eqb b 0x12

unfoldable pub command_of_before : ℕ → ℕ → ℕ → Command
command_of_before b x y =
    cond (eqb b 0x11) (atom_of Derived x)
    (cond (eqb b 0x12) (Rule x)
    (cond (eqb b 0x21) Union
    (cond (eqb b 0x31) (Relabel x y)
    (cond (eqb b 0x41) (Connect Head x y)
    (cond (eqb b 0x42) (Connect Positive x y)
    (Connect Negative x y))))))

-- Definition 8, where every atom that is in has the subset that leaves it out
unfoldable pub pairs_before : ℕ → Algebra Pair
pairs_before K = record {
  present = λ c a. mark_t K a.label ∷ mark_f K a.label ∷ [];
  absent = (pairs K).absent;
  unmet = (pairs K).unmet;
  united = (pairs K).united;
  relabelled = (pairs K).relabelled;
  connected = (pairs K).connected;
  order = (pairs K).order;
  merge = (pairs K).merge;
}

-- 01: a grounded plan: no proper subset meets every reduced rule
pub record AnswerSetBefore (e : Expr) (p : Interpretation) : Type 0 where
  pub model : every (satisfies p) (rules e) ≡ true
  pub minimal : (q : Interpretation) → ProperSubset (numbers e) q p → every (satisfies q) (reduct p (rules e)) ≡ false

unfoldable pub grounded_before : ℕ → Request → Verdict
grounded_before K a = decide (pairs_before K) (pairs_fault a.pair_limit a.subset_limit) (grounded_accepts K) K a

-- the first plan by that decision
unfoldable pub chosen_before : ℕ → Request → List ℕ → ℕ
chosen_before K a [] = 0
chosen_before K a (c ∷ cs) = cond (says_yes (grounded_before K (leaving c a))) (chosen_before K (leaving c a) cs) (bit_or (2 ^ c) (chosen_before K (keeping c a) cs))

abbrev pub outcome_before : ℕ → Request → Outcome
outcome_before K a = with_mask (chosen_before K a (run 0 (length (numbers (expression_of K a.bytes))))) (grounded_before K a)
