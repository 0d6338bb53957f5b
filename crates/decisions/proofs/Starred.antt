-- 01's starred sheets, as one table under one theorem: what each decision answers, the mask shown included, by computation. Assumes nothing.
use mathlib.Core.Path.{◌≡◌, refl, sym, ap, ap₂, ◌∙◌}
use mathlib.Core.Bool.{true, cond, not, ◌&&◌}
use mathlib.Core.List.{List, [], ◌∷◌, ◌++◌, map}
use Prim.Native.Nat.{ℕ, zero, suc, ◌+◌, ◌≤◌, ◌<◌}
use native.Mathlib.Omega.{arith}
use borrow.Author.Tests.{lt-ltb, le-ltb}
use Rattle.lists.specs.Lists.{some, products, run}
use Rattle.lists.specs.Sorted.{compare_numbers, compare_lists, insert, insert_all, canon, set_of}
use Rattle.labels.specs.Labels.{label_count}
use Rattle.labels.specs.Sets.{has, without, replace}
use Rattle.expression.specs.declared.Outcome.{Outcome}
use Rattle.expression.specs.declared.Outcome.TheVariants.{Yes, No, Refused}
use Rattle.expression.specs.Limits.{table_limit, workspace_need}
use Rattle.expression.specs.Commands.{one_operand, two_operands, is_command, operand_count, command_of, read_command, read_at}
use Rattle.expression.specs.Effects.{effect}
use Rattle.expression.specs.Reading.{no_counts, counted, count_fault, behind, read_from, reading}
use Rattle.expression.specs.Checks.{Passed, Refused as stop, Request, first_of, is_faulty, fault_number, fault_place, counts_of, is_limit, overlong_test, limits_test, cramped_test, clash_test, fault_test, unjoined_test, absent_test, checks, check, depth_of}
use Rattle.semantics.specs.Expressions.{fold, unite_newest, change_newest, act, act_all, trees}
use Rattle.semantics.specs.Programs.{numbers}
use Rattle.semantics.specs.AnswerSets.{by_masks}
use Rattle.tables.specs.Algebras.{leaf, tables, table}
use Rattle.tables.specs.Triples.{mark_t, mark_f, mark_u, relabel_triple, settles, connect_triple, all_met}
use Rattle.tables.specs.Definitions.{unite_pairs, map_pair, triples, pairs, plain_accepts, accepting, grounded_accepts}
use Rattle.decisions.specs.Decisions.{affirmed, refused, assumed, commands_in, pairs_fault, plain_fault, walk, answer, conclude, decide, grounded, plain, tree_of, expression_of}
use Rattle.decisions.specs.First.{says_yes, chosen, first_mask}
use Rattle.decisions.specs.Outcomes.{grounded_outcome, plain_outcome}
use Rattle.decisions.specs.Exceeding.{Exceeds, commands, table_on}
use Rattle.decisions.proofs.Stops.{newest_after, none-walked}
use Rattle.decisions.proofs.Outcomes.{grounded-outcome}
use Rattle.decisions.proofs.Carried.{decide-passed, conclude-walked}
use Rattle.decisions.proofs.Exceeding.{fault-full, none-exceeds, exceeding-refused}

-- a request; what the grounded decision answers, and the plain one
record Row : Type 0 where
  asked : Request
  says : Outcome
  plainly : Outcome

row : List ℕ → ℕ → ℕ → ℕ → ℕ → Outcome → Outcome → Row
row s P G i o r p = record {
  asked = record { bytes = s; pair_limit = P; subset_limit = G; room = workspace_need (depth_of label_count s) P G; assumed_true = i; assumed_false = o };
  says = r;
  plainly = p;
}

listed : List ℕ
listed = 0x11 ∷ 0 ∷ 0x12 ∷ 1 ∷ 0x21 ∷ 0x41 ∷ 0 ∷ 1 ∷ []

-- archive if mirror, mirror if archive; the mirror comes by such a byte
circle_by : ℕ → List ℕ
circle_by b = 0x11 ∷ 0 ∷ b ∷ 1 ∷ 0x21 ∷ 0x12 ∷ 2 ∷ 0x21 ∷ 0x12 ∷ 3 ∷ 0x21 ∷ 0x41 ∷ 0 ∷ 2 ∷ 0x42 ∷ 1 ∷ 2 ∷ 0x41 ∷ 1 ∷ 3 ∷ 0x42 ∷ 0 ∷ 3 ∷ []

circle : List ℕ
circle = circle_by 0x11

-- 02, Item 11: the same by links that name the rule's label first
listed_back : List ℕ
listed_back = 0x11 ∷ 0 ∷ 0x12 ∷ 1 ∷ 0x21 ∷ 0x41 ∷ 1 ∷ 0 ∷ []

circle_back : List ℕ
circle_back = 0x11 ∷ 0 ∷ 0x11 ∷ 1 ∷ 0x21 ∷ 0x12 ∷ 2 ∷ 0x21 ∷ 0x12 ∷ 3 ∷ 0x21 ∷ 0x41 ∷ 2 ∷ 0 ∷ 0x42 ∷ 2 ∷ 1 ∷ 0x41 ∷ 3 ∷ 1 ∷ 0x42 ∷ 3 ∷ 0 ∷ []

-- a copy and a rule of each of two labels; each rule makes the other label's copy
crossed : List ℕ
crossed = 0x11 ∷ 0 ∷ 0x12 ∷ 0 ∷ 0x21 ∷ 0x11 ∷ 1 ∷ 0x21 ∷ 0x12 ∷ 1 ∷ 0x21 ∷ 0x41 ∷ 0 ∷ 1 ∷ []

-- copy 0, unless copy 1 is kept, which is granted
barred : List ℕ
barred = 0x11 ∷ 0 ∷ 0x13 ∷ 1 ∷ 0x21 ∷ 0x12 ∷ 2 ∷ 0x21 ∷ 0x41 ∷ 0 ∷ 2 ∷ 0x43 ∷ 1 ∷ 2 ∷ []

twins : List ℕ
twins = 0x11 ∷ 0 ∷ 0x11 ∷ 0 ∷ 0x21 ∷ []

either : List ℕ
either = twins ++ (0x12 ∷ 1 ∷ 0x21 ∷ 0x41 ∷ 0 ∷ 1 ∷ [])

rows : List Row
rows =
    row listed 32 32 0 0 (Yes 1) (Yes 0)
    ∷ row listed 32 32 2 0 (Refused 13 8) (Refused 13 8)
    ∷ row listed 32 32 0 2 (Refused 13 8) (Refused 13 8)
    ∷ row circle 32 32 0 0 (Yes 0) (Yes 0)
    ∷ row circle 32 32 1 0 No (Yes 0)
    ∷ row (listed ++ (0x43 ∷ 0 ∷ 1 ∷ [])) 32 32 0 0 No (Yes 0)
    -- 02, Item 5: either of two, and the first plan leaves out atom 0 where no pin holds it
    ∷ row either 32 32 0 0 (Yes 2) (Yes 0)
    ∷ row either 32 32 1 0 (Yes 1) (Yes 0)
    ∷ row either 32 32 0 2 (Yes 1) (Yes 0)
    ∷ row either 32 32 3 0 No (Yes 0)
    ∷ row (0x12 ∷ 0 ∷ []) 32 32 0 0 No No
    ∷ row [] 32 32 0 0 (Refused 12 0) (Refused 12 0)
    ∷ row (0x21 ∷ []) 32 32 0 0 (Refused 11 0) (Refused 11 0)
    -- 02, Item 12: labels are 0 to 9
    ∷ row (0x11 ∷ 8 ∷ []) 32 32 0 0 (Yes 0) (Yes 0)
    ∷ row (0x11 ∷ 9 ∷ []) 32 32 0 0 (Yes 0) (Yes 0)
    ∷ row (0x11 ∷ 10 ∷ []) 32 32 0 0 (Refused 7 0) (Refused 7 0)
    ∷ row (0x41 ∷ 0 ∷ []) 32 32 0 0 (Refused 6 0) (Refused 6 0)
    ∷ row (0x41 ∷ 0 ∷ 0 ∷ []) 32 32 0 0 (Refused 8 0) (Refused 8 0)
    ∷ row (0x11 ∷ 0 ∷ []) 1 32 0 0 (Refused 16 0) (Refused 16 0)
    ∷ row (0x11 ∷ 0 ∷ []) 1 32 0 1 (Yes 0) (Yes 0)
    ∷ row twins 3 2 0 0 (Yes 0) (Yes 0)
    ∷ row twins 2 2 0 0 (Refused 16 4) (Refused 16 4)
    ∷ row twins 2 32 0 0 (Refused 16 4) (Refused 16 4)
    ∷ row twins 2 1 0 0 (Refused 15 4) (Refused 16 4)
    ∷ row twins 32 1 0 0 (Refused 15 4) (Yes 0)
    -- every pair is looked at for 15, those past the P-th too
    ∷ row (0x11 ∷ 2 ∷ 0x11 ∷ 4 ∷ 0x21 ∷ []) 3 1 0 0 (Refused 15 4) (Refused 16 4)
    -- 31 i j moves i to j: moved the other way, no atom would be put into the rule's head
    ∷ row (0x11 ∷ 0 ∷ 0x12 ∷ 1 ∷ 0x21 ∷ 0x31 ∷ 0 ∷ 2 ∷ 0x41 ∷ 2 ∷ 1 ∷ []) 32 32 0 0 (Yes 1) (Yes 0)
    -- 02, Item 9: an external atom may be in with no rule that makes it, where another may not; a rule is met by it, and barred by it
    ∷ row (0x13 ∷ 0 ∷ []) 32 32 0 0 (Yes 0) (Yes 0)
    ∷ row (0x13 ∷ 0 ∷ []) 32 32 1 0 (Yes 1) (Yes 0)
    ∷ row (0x13 ∷ 0 ∷ []) 32 32 0 1 (Yes 0) (Yes 0)
    ∷ row (0x11 ∷ 0 ∷ []) 32 32 1 0 No (Yes 0)
    ∷ row (circle_by 0x13) 32 32 0 0 (Yes 0) (Yes 0)
    ∷ row (circle_by 0x13) 32 32 2 0 (Yes 3) (Yes 0)
    ∷ row circle 32 32 2 0 No (Yes 0)
    ∷ row (circle_by 0x13) 32 32 2 1 No No
    ∷ row barred 32 32 0 0 (Yes 2) (Yes 0)
    ∷ row barred 32 32 0 2 (Yes 1) (Yes 0)
    ∷ row barred 32 32 3 0 No (Yes 0)
    -- 02, Item 11: a link has no direction; its other half alone makes a copy, bars by the plan's own T, needs, and binds granted copies; both halves at once
    ∷ row listed_back 32 32 0 0 (Yes 1) (Yes 0)
    ∷ row (listed_back ++ (0x43 ∷ 1 ∷ 0 ∷ [])) 32 32 0 0 No (Yes 0)
    ∷ row circle_back 32 32 0 0 (Yes 0) (Yes 0)
    ∷ row circle_back 32 32 1 0 No (Yes 0)
    ∷ row (0x13 ∷ 0 ∷ 0x12 ∷ 1 ∷ 0x21 ∷ 0x43 ∷ 1 ∷ 0 ∷ []) 32 32 0 0 (Yes 1) (Yes 0)
    ∷ row crossed 32 32 0 0 (Yes 3) (Yes 0)
    ∷ row crossed 32 32 0 2 No No
    ∷ []

starred : map (λ r. grounded_outcome label_count r.asked) rows ≡ map (λ r. r.says) rows
unfolding rows row listed circle_by circle listed_back circle_back crossed barred twins either first_mask chosen says_yes run numbers tree_of expression_of act_all trees grounded decide conclude answer walk pairs_fault grounded_accepts accepting pairs map_pair unite_pairs set_of compare_lists
    commands_in assumed by_masks check checks overlong_test limits_test cramped_test clash_test fault_test unjoined_test absent_test depth_of is_limit counts_of fault_place fault_number is_faulty first_of reading read_from behind count_fault counted effect no_counts read_at read_command command_of operand_count is_command
    two_operands one_operand act unite_newest change_newest all_met connect_triple settles relabel_triple mark_t mark_f
    mark_u tables leaf some products canon insert_all insert compare_numbers has without replace
starred = refl

starred-plain : map (λ r. plain_outcome label_count r.asked) rows ≡ map (λ r. r.plainly) rows
unfolding rows row listed circle_by circle listed_back circle_back crossed barred twins either plain decide conclude answer walk plain_fault plain_accepts triples commands_in assumed by_masks check checks overlong_test limits_test cramped_test clash_test fault_test unjoined_test absent_test depth_of is_limit counts_of fault_place fault_number is_faulty first_of reading read_from behind count_fault counted effect no_counts read_at read_command command_of operand_count is_command
    two_operands one_operand act unite_newest change_newest all_met connect_triple settles relabel_triple mark_t mark_f
    mark_u tables leaf some products canon insert_all insert compare_numbers has without replace
starred-plain = refl

-- ---- two atoms of one label with G = 1: 15 at 4, whatever P of at least 2 is, in any room that suffices

abbrev narrow : ℕ → ℕ → Request
narrow P room = record { bytes = twins; pair_limit = P; subset_limit = 1; room = room; assumed_true = 0; assumed_false = 0 }

module _ (P room : ℕ) (low : 2 ≤ P) (high : P ≤ table_limit) (fits : workspace_need 2 P 1 ≤ room) where
  abbrev asks : Request
  asks = narrow P room

  narrow-passes : check label_count asks ≡ Passed (record { atoms = 2; rules = 0; depth = 1; deepest = 2 })
  unfolding twins check checks overlong_test limits_test cramped_test clash_test fault_test unjoined_test absent_test depth_of is_limit counts_of fault_place fault_number is_faulty first_of reading read_from behind
      count_fault counted effect no_counts read_at read_command command_of operand_count is_command two_operands one_operand
  narrow-passes =
      ap₂ (λ b c. cond (not (b && true)) (stop 2 0) (cond c (stop 3 0) (Passed (record { atoms = 2; rules = 0; depth = 1; deepest = 2 }))))
      (ap₂ ◌&&◌ (lt-ltb 0 P (omega arith)) (lt-ltb P (table_limit + 1) (omega arith))) (le-ltb room (workspace_need 2 P 1) fits)

  -- an atom's table has two pairs with a subset at most, that of both a pair with two
  twins-full : grounded label_count asks ≡ refused 15 4
  unfolding twins pairs_fault commands_in assumed by_masks reading read_from behind count_fault counted effect no_counts read_at read_command command_of operand_count is_command two_operands
      one_operand act act_all unite_newest pairs unite_pairs mark_t mark_f tables leaf some products set_of canon insert_all insert compare_lists compare_numbers has
  twins-full = exceeding-refused label_count asks narrow-passes (record { command = 2; among = omega arith; before = early; number = fault-full P 1 (table_on label_count asks 2) 15 refl (omega arith); place = refl })
    where
      early : (k : ℕ) → k < 2 → Exceeds P 1 (table_on label_count asks k) → ⊥
      early zero l = none-exceeds P 1 (table_on label_count asks 0) (ap (λ b. cond b 16 0) (le-ltb P 2 low))
      early (suc zero) l = none-exceeds P 1 (table_on label_count asks 1) (ap (λ b. cond b 16 0) (le-ltb P 2 low))
      early (suc (suc k)) l = absurd (omega arith)

  twins-told : grounded_outcome label_count asks ≡ Refused 15 4
  twins-told = sym (grounded-outcome label_count asks twins-full)

  -- plainly 16 at 4 with P = 2, which is among the rows, and else yes
  twins-plain : 3 ≤ P → plain label_count asks ≡ affirmed
  unfolding twins plain plain_fault plain_accepts all_met answer commands_in assumed by_masks reading read_from behind count_fault counted effect no_counts read_at read_command command_of
      operand_count is_command two_operands one_operand act act_all unite_newest triples mark_t mark_f tables leaf some products canon insert_all insert compare_numbers has
  twins-plain three =
      decide-passed (triples label_count) (plain_fault P) (plain_accepts label_count) label_count asks narrow-passes
      ∙ conclude-walked (plain_accepts label_count) (none-walked (tables (triples label_count) (assumed asks)) (plain_fault P) 0 (commands label_count asks) [] few)
    where
      few : (k : ℕ) → k < 3 → plain_fault P (newest_after (tables (triples label_count) (assumed asks)) 0 (commands label_count asks) [] (suc k)) ≡ 0
      few zero l = ap (λ b. cond b 16 0) (le-ltb P 2 low)
      few (suc zero) l = ap (λ b. cond b 16 0) (le-ltb P 2 low)
      few (suc (suc zero)) l = ap (λ b. cond b 16 0) (le-ltb P 3 three)
      few (suc (suc (suc k))) l = absurd (omega arith)

-- ---- the listed table

listed-table : table (pairs label_count) (by_masks 0 0) (expression_of label_count listed) ≡ (1 ∷ 2098176 ∷ []) ∷ (2098176 ∷ []) ∷ []
unfolding listed commands_in tree_of expression_of reading read_from behind count_fault counted effect no_counts read_at read_command command_of operand_count is_command two_operands one_operand act
    act_all trees unite_newest change_newest by_masks fold pairs map_pair unite_pairs connect_triple settles relabel_triple mark_t mark_f mark_u table tables leaf some products set_of canon insert_all insert compare_lists
    compare_numbers has without replace
listed-table = refl
