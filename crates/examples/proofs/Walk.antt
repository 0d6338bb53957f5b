-- Starting, steps and verdicts by evaluation: one table of each, numbers and places as 01 has them. Assumes nothing.
use mathlib.Core.Path.{◌≡◌, refl}
use mathlib.Core.List.{List, [], ◌∷◌, ◌++◌, map}
use Prim.Native.Nat.{ℕ}
use lib.ListN.{length, replicate}
use Rattle.lists.specs.Lists.{some, every, products}
use Rattle.lists.specs.Sorted.{compare_numbers, compare_lists, insert, insert_all, canon, set_of}
use Rattle.labels.specs.Labels.{label_count}
use Rattle.labels.specs.Sets.{has, without, replace}
use Rattle.expression.specs.declared.Outcome.{Outcome}
use Rattle.expression.specs.declared.Outcome.TheVariants as outcome
use Rattle.expression.specs.Commands.{one_operand, two_operands, is_command, operand_count, command_of, read_command, read_at}
use Rattle.expression.specs.Effects.{effect}
use Rattle.expression.specs.Reading.{no_counts, counted, count_fault, behind, read_from, reading}
use Rattle.expression.specs.Checks.{Request, first_of, is_faulty, fault_number, fault_place, counts_of as counts_read, is_limit, overlong_test, limits_test, cramped_test, clash_test, fault_test, unjoined_test, absent_test, checks, check, depth_of}
use Rattle.expression.specs.Places.{locate_from, locate}
use Rattle.semantics.specs.Expressions.{unite_newest, change_newest, act}
use Rattle.semantics.specs.AnswerSets.{by_masks}
use Rattle.tables.specs.Algebras.{leaf, tables}
use Rattle.tables.specs.Triples.{mark_t, mark_f, mark_u, relabel_triple, settles, connect_triple, all_met}
use Rattle.tables.specs.Definitions.{unite_pairs, map_pair, pairs, accepting, grounded_accepts}
use Rattle.decisions.specs.Decisions.{assumed, pairs_fault}
use Rattle.candidates.specs.Candidates.{pair_of}
use Rattle.rows.specs.Rows.{row_of, table_of, rows_in}
use Rattle.workspace.specs.Workspace.{stack_words, workspace_of, stack_counts, counts_of}
use Rattle.forms.specs.Forms.{are_zero, rises_from, is_rising, is_row, are_rows, is_table, are_tables, tables_in}
use Rattle.records.specs.declared.Record.{Record}
use Rattle.records.specs.Steps.{Step, stays, start_record, is_formed, formed_at, moves, move_to, command, step, start, conclusion, verdict}
use Rattle.records.specs.declared.Answer.{Answer}
use Rattle.records.specs.declared.Answer.TheVariants.{Moved, Ended, Refused}

-- a call: the sheet, P, G and the pins; the record with its first three counts, and the words
record Call : Type 0 where
  sheet : List ℕ
  P : ℕ
  G : ℕ
  pinned_in : ℕ
  pinned_out : ℕ
  held : Record
  lent : List ℕ

-- place, tables and the counts of the three oldest
at : ℕ → ℕ → ℕ → ℕ → ℕ → Record
at p t a b c = record { place = p; tables = t; counts = a ∷ b ∷ c ∷ 0 ∷ 0 ∷ 0 ∷ 0 ∷ 0 ∷ [] }

-- with P = G = 2: an area is 8 words, the need of two parts 24
call : List ℕ → Record → List ℕ → Call
call s r ws = record { sheet = s; P = 2; G = 2; pinned_in = 0; pinned_out = 0; held = r; lent = ws }

-- with other limits and pins
limited : ℕ → ℕ → Call → Call
limited p g c = record { sheet = c.sheet; P = p; G = g; pinned_in = c.pinned_in; pinned_out = c.pinned_out; held = c.held; lent = c.lent }

pinned : ℕ → ℕ → Call → Call
pinned i o c = record { sheet = c.sheet; P = c.P; G = c.G; pinned_in = i; pinned_out = o; held = c.held; lent = c.lent }

asked : Call → Request
asked c = record { bytes = c.sheet; pair_limit = c.P; subset_limit = c.G; room = length c.lent; assumed_true = c.pinned_in; assumed_false = c.pinned_out }

-- words, so many zeros, and two words that are not needed
rest : ℕ → List ℕ
rest n = replicate n 0 ++ (9 ∷ 9 ∷ [])

listed : List ℕ
listed = 0x11 ∷ 0 ∷ 0x12 ∷ 1 ∷ 0x21 ∷ 0x41 ∷ 0 ∷ 1 ∷ []

twins : List ℕ
twins = 0x11 ∷ 0 ∷ 0x11 ∷ 0 ∷ 0x21 ∷ []

-- the table of 11 00, of two pairs, and of 12 01, of one
copy : List ℕ
copy = 1 ∷ 1 ∷ 1024 ∷ 0 ∷ 1024 ∷ 0 ∷ 0 ∷ 0 ∷ []

bare : List ℕ
bare = 2097152 ∷ 0 ∷ 0 ∷ 0 ∷ 0 ∷ 0 ∷ 0 ∷ 0 ∷ []

-- what the listed sheet leaves at the end
last : List ℕ
last = 1 ∷ 1 ∷ 2098176 ∷ 0 ∷ 2098176 ∷ 0 ∷ 0 ∷ 0 ∷ []

-- ---- starting

record Start : Type 0 where
  asks : Call
  leaves : Step

leaving : Record → Answer → List ℕ → Step
leaving r x ws = record { state = r; answer = x; words = ws }

starts : List Start
starts =
    record { asks = call listed (at 5 6 7 8 9) (replicate 26 9); leaves = leaving (at 0 0 0 0 0) Moved (rest 24) }
    -- the checks refuse, and nothing changes
    ∷ record { asks = call listed (at 5 6 7 8 9) (replicate 23 9); leaves = leaving (at 5 6 7 8 9) (Refused 3 0) (replicate 23 9) }
    ∷ record { asks = pinned 2 0 (call listed (at 5 6 7 8 9) (replicate 24 9)); leaves = leaving (at 5 6 7 8 9) (Refused 13 8) (replicate 24 9) }
    ∷ []

start-examples : map (λ r. start label_count (asked r.asks) r.asks.held r.asks.lent) starts ≡ map (λ r. r.leaves) starts
unfolding starts start stays leaving start_record call pinned at asked rest listed counts_of stack_counts check checks overlong_test limits_test cramped_test clash_test fault_test unjoined_test absent_test depth_of
    is_limit counts_read fault_place fault_number is_faulty first_of reading read_from behind count_fault counted effect no_counts read_at read_command command_of operand_count is_command
    two_operands one_operand
start-examples = refl

-- ---- steps that are done

moved : List Start
moved =
    record { asks = call listed (at 0 0 0 0 0) (rest 24); leaves = leaving (at 2 1 2 0 0) Moved (copy ++ rest 16) }
    ∷ record { asks = call listed (at 2 1 2 0 0) (copy ++ rest 16); leaves = leaving (at 4 2 2 1 0) Moved (copy ++ bare ++ rest 8) }
    ∷ record { asks = call listed (at 4 2 2 1 0) (copy ++ bare ++ rest 8); leaves = leaving (at 5 1 2 0 0) Moved (2097153 ∷ 1 ∷ 2098176 ∷ 0 ∷ 2098176 ∷ 0 ∷ 0 ∷ 0 ∷ rest 16) }
    ∷ record { asks = call listed (at 5 1 2 0 0) (2097153 ∷ 1 ∷ 2098176 ∷ 0 ∷ 2098176 ∷ 0 ∷ 0 ∷ 0 ∷ rest 16); leaves = leaving (at 8 1 2 0 0) Moved (last ++ rest 16) }
    -- a copy that is pinned in has its first pair alone, pinned out its second
    ∷ record { asks = pinned 1 0 (call listed (at 0 0 0 0 0) (rest 24)); leaves = leaving (at 2 1 1 0 0) Moved (1 ∷ 1 ∷ 1024 ∷ 0 ∷ rest 20) }
    ∷ record { asks = pinned 0 1 (call listed (at 0 0 0 0 0) (rest 24)); leaves = leaving (at 2 1 1 0 0) Moved (1024 ∷ 0 ∷ 0 ∷ 0 ∷ rest 20) }
    -- a table that no walk reaches is acted on where its form is right
    ∷ record { asks = call listed (at 2 1 1 0 0) (rest 24); leaves = leaving (at 4 2 1 1 0) Moved (replicate 8 0 ++ bare ++ rest 8) }
    -- 02, Item 12: 2^30 - 1 is a triple
    ∷ record { asks = call listed (at 2 1 1 0 0) (1073741823 ∷ rest 23); leaves = leaving (at 4 2 1 1 0) Moved (1073741823 ∷ replicate 7 0 ++ bare ++ rest 8) }
    -- 02, Item 9: the pairs of 11, both without subsets, and the same alone
    ∷ record { asks = call (0x13 ∷ 0 ∷ []) (at 0 0 0 0 0) (rest 16); leaves = leaving (at 2 1 2 0 0) Moved (1 ∷ 0 ∷ 0 ∷ 0 ∷ 1024 ∷ 0 ∷ 0 ∷ 0 ∷ rest 8) }
    ∷ record { asks = pinned 1 0 (call (0x13 ∷ 0 ∷ []) (at 0 0 0 0 0) (rest 16)); leaves = leaving (at 2 1 1 0 0) Moved (1 ∷ 0 ∷ 0 ∷ 0 ∷ rest 12) }
    ∷ record { asks = pinned 0 1 (call (0x13 ∷ 0 ∷ []) (at 0 0 0 0 0) (rest 16)); leaves = leaving (at 2 1 1 0 0) Moved (1024 ∷ 0 ∷ 0 ∷ 0 ∷ rest 12) }
    ∷ []

abbrev steps_of : List Start → List Step
steps_of rs = map (λ r. step label_count (asked r.asks) r.asks.held r.asks.lent) rs

abbrev left_of : List Start → List Step
left_of rs = map (λ r. r.leaves) rs

step-examples : steps_of moved ≡ left_of moved
unfolding moved leaving call pinned at asked rest listed copy bare last step command move_to moves stays formed_at is_formed are_tables is_table are_rows is_row is_rising rises_from are_zero tables_in rows_in pair_of locate locate_from
    workspace_of stack_words table_of row_of counts_of stack_counts check checks overlong_test limits_test cramped_test clash_test fault_test unjoined_test absent_test depth_of is_limit counts_read fault_place fault_number is_faulty first_of
    reading read_from behind count_fault counted effect no_counts read_at read_command command_of operand_count is_command two_operands one_operand act unite_newest change_newest pairs_fault assumed by_masks
    pairs map_pair unite_pairs connect_triple settles relabel_triple mark_t mark_f mark_u tables leaf some every products set_of canon insert_all insert compare_lists compare_numbers has without replace
step-examples = refl

-- ---- steps that change nothing, each with what it answers and what the verdict is

record Still : Type 0 where
  asks : Call
  answers : Answer
  concludes : Outcome

still : Call → Answer → Outcome → Still
still c x o = record { asks = c; answers = x; concludes = o }

-- 18 by step and verdict, at the record's place
bad : List ℕ → Record → List ℕ → Still
bad s r ws = still (call s r ws) (Refused 18 r.place) (outcome.Refused 18 r.place)

stills : List Still
stills =
    -- the end; the verdict shows no plan
    still (call listed (at 8 1 2 0 0) (last ++ rest 16)) Ended (outcome.Yes 0)
    ∷ still (call (0x12 ∷ 1 ∷ []) (at 2 1 1 0 0) (bare ++ rest 8)) Ended outcome.No
    -- over P pairs; over G subsets, also with a P that is over; the verdict comes before the end
    ∷ still (call twins (at 4 2 2 2 0) (copy ++ copy ++ rest 8)) (Refused 16 4) (outcome.Refused 18 4)
    ∷ still (limited 3 1 (call twins (at 4 2 2 2 0) (1 ∷ 1 ∷ 1024 ∷ 1024 ∷ 0 ∷ 0 ∷ 0 ∷ 0 ∷ 0 ∷ 1 ∷ 1 ∷ 1024 ∷ 1024 ∷ rest 14))) (Refused 15 4) (outcome.Refused 18 4)
    ∷ still (limited 2 1 (call twins (at 4 2 2 2 0) (1 ∷ 1 ∷ 1024 ∷ 1024 ∷ 0 ∷ 0 ∷ 1 ∷ 1 ∷ 1024 ∷ 1024 ∷ rest 8))) (Refused 15 4) (outcome.Refused 18 4)
    -- 1 to 13 come before 18
    ∷ still (limited 0 2 (call listed (at 1 0 0 0 0) (rest 24))) (Refused 2 0) (outcome.Refused 2 0)
    ∷ still (pinned 2 0 (call listed (at 1 0 0 0 0) (rest 24))) (Refused 13 8) (outcome.Refused 13 8)
    -- no command starts at the place, within a command and behind the end
    ∷ bad listed (at 1 0 0 0 0) (rest 24)
    ∷ bad listed (at 9 1 2 0 0) (last ++ rest 16)
    -- too few tables, too many, a count beyond them
    ∷ bad listed (at 2 0 0 0 0) (rest 24)
    ∷ bad listed (at 2 2 2 1 0) (copy ++ bare ++ rest 8)
    ∷ bad listed (at 2 1 2 1 0) (copy ++ rest 16)
    ∷ bad listed (at 2 1 2 0 1) (copy ++ rest 16)
    -- an empty table; a table of more rows than P
    ∷ bad listed (at 2 1 0 0 0) (rest 24)
    ∷ bad listed (at 2 1 3 0 0) (1 ∷ 0 ∷ 0 ∷ 0 ∷ 2 ∷ 0 ∷ 0 ∷ 0 ∷ 3 ∷ rest 15)
    -- a word that is not zero: behind the subsets, behind the rows, in an area without a table, in the last word of scratch; words behind are not looked at
    ∷ bad listed (at 2 1 2 0 0) (1 ∷ 1 ∷ 1024 ∷ 1 ∷ 1024 ∷ 0 ∷ 0 ∷ 0 ∷ rest 16)
    ∷ bad listed (at 2 1 1 0 0) (1 ∷ 1 ∷ 1024 ∷ 0 ∷ 0 ∷ 0 ∷ 0 ∷ 1 ∷ rest 16)
    ∷ bad listed (at 2 1 2 0 0) (copy ++ (1 ∷ rest 15))
    ∷ bad listed (at 2 1 2 0 0) (copy ++ replicate 15 0 ++ (1 ∷ 9 ∷ 9 ∷ []))
    -- rows that fall, or are equal
    ∷ bad listed (at 2 1 2 0 0) (1024 ∷ 0 ∷ 0 ∷ 0 ∷ 1 ∷ 1 ∷ 1024 ∷ 0 ∷ rest 16)
    ∷ bad listed (at 2 1 2 0 0) (1 ∷ 1 ∷ 1024 ∷ 0 ∷ 1 ∷ 1 ∷ 1024 ∷ 0 ∷ rest 16)
    -- subsets that fall, or are equal, or are too many; a triple of 2^30, a subset of 2^30
    ∷ bad listed (at 2 1 1 0 0) (1 ∷ 2 ∷ 5 ∷ 3 ∷ rest 20)
    ∷ bad listed (at 2 1 1 0 0) (1 ∷ 2 ∷ 5 ∷ 5 ∷ rest 20)
    ∷ bad listed (at 2 1 1 0 0) (1 ∷ 3 ∷ 5 ∷ 6 ∷ 7 ∷ rest 19)
    ∷ bad listed (at 2 1 1 0 0) (1073741824 ∷ rest 23)
    ∷ bad listed (at 2 1 1 0 0) (1 ∷ 1 ∷ 1073741824 ∷ rest 21)
    -- also at the end
    ∷ bad listed (at 8 1 2 0 0) (last ++ (1 ∷ rest 15))
    ∷ []

still-examples : map (λ r. step label_count (asked r.asks) r.asks.held r.asks.lent) stills ≡ map (λ r. leaving r.asks.held r.answers r.asks.lent) stills
unfolding stills still bad leaving call limited pinned at asked rest listed twins copy bare last step command move_to moves stays formed_at is_formed are_tables is_table are_rows is_row is_rising rises_from are_zero tables_in rows_in pair_of locate locate_from
    workspace_of stack_words table_of row_of counts_of stack_counts check checks overlong_test limits_test cramped_test clash_test fault_test unjoined_test absent_test depth_of is_limit counts_read fault_place fault_number is_faulty first_of
    reading read_from behind count_fault counted effect no_counts read_at read_command command_of operand_count is_command two_operands one_operand act unite_newest change_newest pairs_fault assumed by_masks
    pairs map_pair unite_pairs connect_triple settles relabel_triple mark_t mark_f mark_u tables leaf some every products set_of canon insert_all insert compare_lists compare_numbers has without replace
still-examples = refl

verdict-examples : map (λ r. verdict label_count (asked r.asks) r.asks.held r.asks.lent) stills ≡ map (λ r. r.concludes) stills
unfolding stills still bad call limited pinned at asked rest listed twins copy bare last verdict conclusion formed_at is_formed are_tables is_table are_rows is_row is_rising rises_from are_zero tables_in rows_in pair_of locate locate_from
    check checks overlong_test limits_test cramped_test clash_test fault_test unjoined_test absent_test depth_of is_limit counts_read fault_place fault_number is_faulty first_of reading read_from behind count_fault counted effect
    no_counts read_at read_command command_of operand_count is_command two_operands one_operand grounded_accepts accepting all_met some every compare_lists compare_numbers
verdict-examples = refl
