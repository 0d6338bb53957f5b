-- What a decision answers; and when an outcome is right (demand 3), in the words of the expression's rules. Assumes nothing.
use Rattle.std.specs.Prelude.{ℕ}
use Rattle.expression.specs.declared.Outcome.{Outcome}
use Rattle.expression.specs.declared.Outcome.TheVariants.{Yes, No, Refused}
use Rattle.expression.specs.Checks.{Request}
use Rattle.semantics.specs.Programs.{numbers}
use Rattle.semantics.specs.AnswerSets.{Interpretation, Obeys, Model, AnswerSet}
use Rattle.decisions.specs.Decisions.{Verdict, affirmed, denied, refused, assumed, grounded, plain, expression_of}
use Rattle.decisions.specs.First.{first_mask, FirstShown}

-- the verdict that an outcome gives, with or without a mask
abbrev pub verdict_of : Outcome → Verdict
verdict_of (Yes m) = affirmed
verdict_of No = denied
verdict_of (Refused n at) = refused n at

-- the outcome of a decision that shows the mask m with yes, and of one that shows none
abbrev pub with_mask : ℕ → Verdict → Outcome
with_mask m affirmed = Yes m
with_mask m denied = No
with_mask m (refused n at) = Refused n at

abbrev pub without_mask : Verdict → Outcome
without_mask v = with_mask 0 v

-- what the grounded decision answers: its verdict, and with yes the first grounded plan (02, Item 5)
abbrev pub grounded_outcome : ℕ → Request → Outcome
grounded_outcome K a = with_mask (first_mask K a) (grounded K a)

-- what the plain one answers
abbrev pub plain_outcome : ℕ → Request → Outcome
plain_outcome K a = without_mask (plain K a)

module _ (K : ℕ) (a : Request) where
  -- no interpretation that obeys the assumptions is an answer set; none is a model
  abbrev pub NoAnswerSet : Type 0
  NoAnswerSet = (p : Interpretation) → Obeys (assumed a) (numbers (expression_of K a.bytes)) p → AnswerSet (expression_of K a.bytes) p → ⊥

  abbrev pub NoModel : Type 0
  NoModel = (p : Interpretation) → Obeys (assumed a) (numbers (expression_of K a.bytes)) p → Model (expression_of K a.bytes) p → ⊥

  -- some interpretation that obeys them is a model
  abbrev pub SomeModel : Type 0
  SomeModel = (p : Interpretation) × Obeys (assumed a) (numbers (expression_of K a.bytes)) p × Model (expression_of K a.bytes) p

  -- demand 3: yes shows an answer set that obeys the assumptions, the first of them; no says that there is none; plainly, the same of models, none shown
  abbrev pub GroundedRight : Outcome → Type 0
  GroundedRight (Yes m) = FirstShown K a m
  GroundedRight No = NoAnswerSet
  GroundedRight (Refused n at) = Unit {0}

  abbrev pub PlainRight : Outcome → Type 0
  PlainRight (Yes m) = SomeModel
  PlainRight No = NoModel
  PlainRight (Refused n at) = Unit {0}
