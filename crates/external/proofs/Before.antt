-- AN EXPRESSION WITHOUT 13 IS WHAT IT WAS (02, Item 9): its bytes are read as before, each command makes the same tables, and the verdict, the first plan and the
-- answer sets are the same. Assumes nothing.
use mathlib.Core.Path.{◌≡◌, refl, ap, ap₂, subst}
use mathlib.Core.Logic.{◌↔◌}
use mathlib.Core.Bool.{or-false}
use mathlib.Core.List.Memᴰ
use mathlib.Core.List.{List, [], ◌∷◌, ◌++◌, Memᴰ}
use Prim.Native.Nat.{ℕ}
use borrow.Author.Tests.{ne_eqb}
use Rattle.lists.specs.Lists.{All}
use Rattle.expression.specs.declared.NewAtom.{NewAtom}
use Rattle.expression.specs.declared.Command.{Command}
use Rattle.expression.specs.declared.Command.TheVariants.{Atom, Rule, Union, Relabel, Connect, Name}
use Rattle.expression.specs.Commands.{one_operand, command_of}
use Rattle.expression.specs.Reading.{reading}
use Rattle.expression.specs.Checks.{Passed, Refused, Request, check}
use Rattle.semantics.specs.Expressions.{Expr, unite_newest, change_newest, act, act_all, trees}
use Rattle.semantics.specs.Programs.{externals}
use Rattle.semantics.specs.AnswerSets.{Interpretation, Assumptions, AnswerSet}
use Rattle.semantics.proofs.Stacks.{all-act}
use Rattle.semantics.proofs.Readings.{commands_of}
use Rattle.tables.specs.Algebras.{leaf, tables}
use Rattle.tables.specs.Definitions.{Pair, triples, pairs, grounded_accepts}
use Rattle.decisions.specs.Decisions.{assumed, commands_in, pairs_fault, conclude, refused, decide, grounded, first_tree, tree_of, expression_of}
use Rattle.decisions.specs.First.{leaving, keeping, chosen, first_mask}
use Rattle.decisions.specs.Outcomes.{with_mask, grounded_outcome}
use Rattle.decisions.proofs.Carried.{walk-alike}
use Rattle.external.specs.Before.{NoExternal, NoneExternal, one_operand_before, command_of_before, pairs_before, AnswerSetBefore, grounded_before, chosen_before, outcome_before}

-- ---- bytes: a command is read by these two alone

pub operand-before : (b : ℕ) → (b ≡ 0x13 → ⊥) → one_operand b ≡ one_operand_before b
unfolding one_operand one_operand_before
operand-before b h = rw (ne_eqb b 0x13 h) (or-false (one_operand_before b))

pub command-before : (b x y : ℕ) → (b ≡ 0x13 → ⊥) → command_of b x y ≡ command_of_before b x y
unfolding command_of command_of_before
command-before b x y h = rw (ne_eqb b 0x13 h) refl

-- ---- tables

module _ (K : ℕ) (o : Assumptions) where
  pub act-before : (n : ℕ) (c : Command) → NoExternal c → (ts : List (List Pair)) → act (tables (pairs K) o) n c ts ≡ act (tables (pairs_before K) o) n c ts
  unfolding act tables leaf pairs pairs_before
  act-before n (Atom a) e ts = rw e refl
  act-before n (Rule g) e ts = refl
  act-before n Union e ts = refl
  act-before n (Relabel i j) e ts = refl
  act-before n (Connect k i j) e ts = refl
  act-before n (Name at) e ts = refl

-- in plain tables the role counts for nothing
pub plain-alike : (K c : ℕ) (a b : NewAtom) → a.label ≡ b.label → ((triples K).present c a ≡ (triples K).present c b) × ((triples K).absent c a ≡ (triples K).absent c b)
unfolding triples
plain-alike K c a b e = rw e (refl, refl)

-- ---- the verdict and the plan

module _ (K : ℕ) where
  pub grounded-before : (a : Request) → NoneExternal K a.bytes → grounded K a ≡ grounded_before K a
  unfolding grounded grounded_before decide
  grounded-before a h =
      ap (λ w. elim (check K a) [ Passed z ↦ conclude (grounded_accepts K) w | Refused n at ↦ refused n at ])
      (walk-alike (tables (pairs K) (assumed a)) (tables (pairs_before K) (assumed a)) NoExternal (act-before K (assumed a))
      (pairs_fault a.pair_limit a.subset_limit) 0 (commands_in (reading K a.bytes)) h [])

  chosen-before : (a : Request) → NoneExternal K a.bytes → (cs : List ℕ) → chosen K a cs ≡ chosen_before K a cs
  unfolding chosen chosen_before
  chosen-before a h [] = refl
  chosen-before a h (c ∷ cs) = rw (grounded-before (leaving c a) h, chosen-before (leaving c a) h cs, chosen-before (keeping c a) h cs) refl

  pub outcome-before : (a : Request) → NoneExternal K a.bytes → grounded_outcome K a ≡ outcome_before K a
  unfolding first_mask
  outcome-before a h = ap₂ with_mask (chosen-before a h _) (grounded-before a h)

-- ---- the rules

abbrev AllDerived : Expr → Type 0
AllDerived e = externals e ≡ []

act-derived : (n : ℕ) (c : Command) (es : List Expr) → NoExternal c → All AllDerived es → All AllDerived (act trees n c es)
unfolding act trees unite_newest change_newest externals
act-derived n (Atom a) es e h = (rw e refl, h)
act-derived n (Rule g) es e h = (refl, h)
act-derived n Union [] e h = h
act-derived n Union (b ∷ []) e h = h
act-derived n Union (b ∷ a ∷ es) e h = (ap₂ ◌++◌ h.1.0 h.0, h.1.1)
act-derived n (Relabel i j) [] e h = h
act-derived n (Relabel i j) (b ∷ es) e h = h
act-derived n (Connect k i j) [] e h = h
act-derived n (Connect k i j) (b ∷ es) e h = h
act-derived n (Name at) es e h = h

first-derived : (es : List Expr) → All AllDerived es → AllDerived (first_tree es)
unfolding externals
first-derived [] h = refl
first-derived (e ∷ es) h = h.0

-- a tree without external atoms has the answer sets that it had
derived-before : (e : Expr) → AllDerived e → (p : Interpretation) → AnswerSet e p ↔ AnswerSetBefore e p
derived-before e h p = (
  λ m. record { model = m.model; minimal = λ q s. m.minimal q (record { subset = s; agrees = λ c k. absurd (Memᴰ.not-nil (subst (Memᴰ c) h k)) }) },
  λ m. record { model = m.model; minimal = λ q s. m.minimal q s.subset },
)

pub answer_set-before : (K : ℕ) (s : List ℕ) → NoneExternal K s → (p : Interpretation) → AnswerSet (expression_of K s) p ↔ AnswerSetBefore (expression_of K s) p
unfolding expression_of tree_of
answer_set-before K s h =
    let cs = commands_of (commands_in (reading K s)) in
    derived-before (expression_of K s) (first-derived (act_all trees 0 cs []) (all-act trees NoExternal AllDerived act-derived 0 cs [] h tt))
