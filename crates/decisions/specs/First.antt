-- The plan shown with yes: the first grounded plan (02, Item 5), by the decision and by the rules. Assumes nothing.
use Rattle.std.specs.Prelude.{Bool, true, false, cond, List, [], ◌∷◌, ℕ, ◌^◌, length}
use Rattle.std.specs.Int.Bits.{bit_or}
use Rattle.lists.specs.Lists.{run}
use Rattle.expression.specs.Checks.{Request}
use Rattle.semantics.specs.Programs.{numbers}
use Rattle.semantics.specs.AnswerSets.{Interpretation, Obeys, AnswerSet, of_mask}
use Rattle.values.specs.First.{NotBefore}
use Rattle.decisions.specs.Decisions.{Verdict, affirmed, denied, refused, assumed, grounded, expression_of, Shows}

-- the same request with other assumptions (01: pins)
abbrev pub assuming : ℕ → ℕ → Request → Request
assuming i o a = record { bytes = a.bytes; pair_limit = a.pair_limit; subset_limit = a.subset_limit; room = a.room; assumed_true = i; assumed_false = o }

-- with atom c assumed false, or true, beside what is assumed
abbrev pub leaving : ℕ → Request → Request
leaving c a = assuming a.assumed_true (bit_or (2 ^ c) a.assumed_false) a

abbrev pub keeping : ℕ → Request → Request
keeping c a = assuming (bit_or (2 ^ c) a.assumed_true) a.assumed_false a

unfoldable pub says_yes : Verdict → Bool
says_yes affirmed = true
says_yes denied = false
says_yes (refused n at) = false

-- 02: an atom is left out if any answer set that obeys the assumptions leaves it out, that is, if the decision says yes with it assumed false; else it is
-- in. Then the next by the same test among those still possible. The mask has those that are in.
unfoldable pub chosen : ℕ → Request → List ℕ → ℕ
chosen K a [] = 0
chosen K a (c ∷ cs) = cond (says_yes (grounded K (leaving c a))) (chosen K (leaving c a) cs) (bit_or (2 ^ c) (chosen K (keeping c a) cs))

-- 02: copy 0, then copy 1, and so on
unfoldable pub first_mask : ℕ → Request → ℕ
first_mask K a = chosen K a (run 0 (length (numbers (expression_of K a.bytes))))

-- by the rules: a mask is an answer set that obeys the assumptions, and no other of those comes before it
pub record FirstShown (K : ℕ) (a : Request) (m : ℕ) : Type 0 where
  pub shows : Shows K a m
  pub first : (q : Interpretation) → Obeys (assumed a) (numbers (expression_of K a.bytes)) q → AnswerSet (expression_of K a.bytes) q
      → NotBefore (numbers (expression_of K a.bytes)) q (of_mask m)
