-- Reports by evaluation: 14 and 17 with their places, what is written, and the order of pairs, numbers and places as 01 has them. Assumes nothing.
use mathlib.Core.Path.{◌≡◌, refl}
use mathlib.Core.List.{List, [], ◌∷◌, ◌++◌, map}
use Prim.Native.Nat.{ℕ, ◌-◌}
use lib.ListN.{length, replicate}
use Rattle.lists.specs.Lists.{some, products}
use Rattle.lists.specs.Sorted.{compare_numbers, compare_lists, second, insert, insert_all, canon, set_of}
use Rattle.labels.specs.Labels.{label_count}
use Rattle.labels.specs.Sets.{has, without, replace}
use Rattle.expression.specs.Commands.{one_operand, two_operands, is_command, operand_count, command_of, read_command, read_at}
use Rattle.expression.specs.Effects.{effect}
use Rattle.expression.specs.Reading.{no_counts, counted, count_fault, behind, read_from, reading}
use Rattle.expression.specs.Limits.{workspace_need}
use Rattle.expression.specs.Checks.{Request, first_of, is_faulty, fault_number, fault_place, counts_of, is_limit, overlong_test, limits_test, cramped_test, clash_test, fault_test, unjoined_test, absent_test, checks, check, depth_of}
use Rattle.expression.specs.Places.{locate_from, locate}
use Rattle.semantics.specs.Expressions.{unite_newest, change_newest, act}
use Rattle.semantics.specs.AnswerSets.{by_masks}
use Rattle.tables.specs.Algebras.{leaf, tables}
use Rattle.tables.specs.Triples.{mark_t, mark_f, mark_u, relabel_triple, settles, connect_triple}
use Rattle.tables.specs.Definitions.{Pair, unite_pairs, map_pair, pairs, triples}
use Rattle.decisions.specs.Decisions.{assumed, commands_in, pairs_fault, plain_fault, walk}
use Rattle.walks.specs.Walks.{before}
use Rattle.leaves.specs.declared.Tables.TheVariants.{Pairs}
use Rattle.reports.specs.Reports.{entry_words, report_of}
use Rattle.reporting.specs.declared.Report.{Report}
use Rattle.reporting.specs.declared.Report.TheVariants.{Written, Refused}
use Rattle.reporting.specs.Reporting.{starts_at, Asked, asked_table, report_answer, report_buffer, words_reported}

-- the sheet, P, G and the offset asked, with a buffer of so many words; what each kind of report answers, and the words that it writes, the others being 9
record Row : Type 0 where
  sheet : List ℕ
  P : ℕ
  G : ℕ
  offset : ℕ
  room : ℕ
  answers : Report
  writes : List ℕ
  plainly : Report
  plain_writes : List ℕ

asked : Row → Request
asked r = record { bytes = r.sheet; pair_limit = r.P; subset_limit = r.G; room = workspace_need (depth_of label_count r.sheet) r.P r.G; assumed_true = 0; assumed_false = 0 }

row : List ℕ → ℕ → ℕ → ℕ → ℕ → Report → List ℕ → Report → List ℕ → Row
row s P G at n x ws y vs = record { sheet = s; P = P; G = G; offset = at; room = n; answers = x; writes = ws; plainly = y; plain_writes = vs }

-- a refusal of both kinds
refusal : List ℕ → ℕ → ℕ → ℕ → ℕ → ℕ → ℕ → Row
refusal s P G at n f place = row s P G at n (Refused f place) [] (Refused f place) []

listed : List ℕ
listed = 0x11 ∷ 0 ∷ 0x12 ∷ 1 ∷ 0x21 ∷ 0x41 ∷ 0 ∷ 1 ∷ []

twins : List ℕ
twins = 0x11 ∷ 0 ∷ 0x11 ∷ 0 ∷ 0x21 ∷ []

-- 02, Item 11: the listed sheet by a link that names the rule's label first; a copy and a rule of each of two labels, linked
listed_back : List ℕ
listed_back = 0x11 ∷ 0 ∷ 0x12 ∷ 1 ∷ 0x21 ∷ 0x41 ∷ 1 ∷ 0 ∷ []

crossed : List ℕ
crossed = 0x11 ∷ 0 ∷ 0x12 ∷ 0 ∷ 0x21 ∷ 0x11 ∷ 1 ∷ 0x21 ∷ 0x12 ∷ 1 ∷ 0x21 ∷ 0x41 ∷ 0 ∷ 1 ∷ []

granted : List ℕ
granted = 0x13 ∷ 0 ∷ 0x11 ∷ 1 ∷ 0x21 ∷ []

rows : List Row
rows =
    -- the listed table, with room to spare, with just the room, and with a word less; plainly the triples alone
    row listed 32 32 5 8 (Written 2 5) (1 ∷ 1 ∷ 2098176 ∷ 2098176 ∷ 0 ∷ []) (Written 2 2) (1 ∷ 2098176 ∷ [])
    ∷ row listed 32 32 5 5 (Written 2 5) (1 ∷ 1 ∷ 2098176 ∷ 2098176 ∷ 0 ∷ []) (Written 2 2) (1 ∷ 2098176 ∷ [])
    ∷ row listed 32 32 5 4 (Refused 17 5) [] (Written 2 2) (1 ∷ 2098176 ∷ [])
    ∷ refusal listed 32 32 5 1 17 5
    -- the newest part after the command asked
    ∷ row listed 32 32 0 9 (Written 2 5) (1 ∷ 1 ∷ 1024 ∷ 1024 ∷ 0 ∷ []) (Written 2 2) (1 ∷ 1024 ∷ [])
    ∷ row listed 32 32 2 9 (Written 1 2) (2097152 ∷ 0 ∷ []) (Written 1 1) (2097152 ∷ [])
    -- 14 at an operand's offset, at the end, behind it
    ∷ refusal listed 32 32 1 9 14 1
    ∷ refusal listed 32 32 6 9 14 6
    ∷ refusal listed 32 32 8 9 14 8
    ∷ refusal listed 32 32 9 9 14 9
    -- 12 before 14; 14 before 16, and 15 and 16 before 17
    ∷ refusal (0x11 ∷ 0 ∷ 0x11 ∷ 0 ∷ []) 32 32 1 9 12 4
    ∷ refusal twins 2 2 3 0 14 3
    ∷ refusal twins 2 2 4 0 16 4
    ∷ row twins 3 1 4 0 (Refused 15 4) [] (Refused 17 4) []
    -- a report stops after the command asked: before the join that is too large, and after an earlier command that is
    ∷ row twins 2 2 2 9 (Written 2 5) (1 ∷ 1 ∷ 1024 ∷ 1024 ∷ 0 ∷ []) (Written 2 2) (1 ∷ 1024 ∷ [])
    ∷ refusal (twins ++ (0x12 ∷ 1 ∷ 0x21 ∷ [])) 2 2 5 9 16 4
    -- pairs with equal Q: a list before its longer continuation
    ∷ row (twins ++ (0x11 ∷ 0 ∷ 0x21 ∷ [])) 32 32 7 20 (Written 4 13) (1 ∷ 2 ∷ 1024 ∷ 1025 ∷ 1024 ∷ 0 ∷ 1025 ∷ 1 ∷ 1024 ∷ 1025 ∷ 2 ∷ 1024 ∷ 1025 ∷ []) (Written 3 3) (1 ∷ 1024 ∷ 1025 ∷ [])
    -- and {2050, 1050624} before {1050624}: lists are compared place by place, not by how many
    ∷ row (0x11 ∷ 1 ∷ 0x12 ∷ 0 ∷ 0x21 ∷ 0x11 ∷ 1 ∷ 0x21 ∷ 0x41 ∷ 1 ∷ 0 ∷ 0x11 ∷ 1 ∷ 0x21 ∷ []) 32 32 13 22 (Written 6 22)
    (2 ∷ 3 ∷ 2050 ∷ 1050624 ∷ 1050626 ∷ 2050 ∷ 2 ∷ 2050 ∷ 1050624 ∷ 2050 ∷ 3 ∷ 2050 ∷ 1050624 ∷ 1050626 ∷ 2050 ∷ 1 ∷ 1050624 ∷ 1050624 ∷ 0 ∷ 1050626 ∷ 1 ∷ 1050624 ∷ [])
    (Written 4 4) (2 ∷ 2050 ∷ 1050624 ∷ 1050626 ∷ [])
    -- 02, Item 9: an external atom has the pairs of 11, both without subsets; the smaller ones of two leave out the other atom alone
    ∷ row granted 32 32 0 9 (Written 2 4) (1 ∷ 0 ∷ 1024 ∷ 0 ∷ []) (Written 2 2) (1 ∷ 1024 ∷ [])
    ∷ row granted 32 32 4 10 (Written 4 10) (3 ∷ 1 ∷ 2049 ∷ 1026 ∷ 1 ∷ 3072 ∷ 2049 ∷ 0 ∷ 3072 ∷ 0 ∷ []) (Written 4 4) (3 ∷ 1026 ∷ 2049 ∷ 3072 ∷ [])
    -- 02, Item 11: the other half of a link alone, and both at once
    ∷ row listed_back 32 32 5 8 (Written 2 5) (1 ∷ 1 ∷ 2098176 ∷ 2098176 ∷ 0 ∷ []) (Written 2 2) (1 ∷ 2098176 ∷ [])
    ∷ row crossed 32 32 11 13 (Written 4 13) (3 ∷ 3 ∷ 1050625 ∷ 2098178 ∷ 3148800 ∷ 1050625 ∷ 1 ∷ 3148800 ∷ 2098178 ∷ 1 ∷ 3148800 ∷ 3148800 ∷ 0 ∷ [])
    (Written 4 4) (3 ∷ 1050625 ∷ 2098178 ∷ 3148800 ∷ [])
    ∷ []

-- what is left of a buffer of 9s
written : ℕ → List ℕ → List ℕ
written n ws = ws ++ replicate (n - length ws) 9

abbrev pairs_of : Row → Asked Pair
pairs_of r = asked_table (pairs label_count) (pairs_fault r.P r.G) label_count (asked r) r.offset

abbrev triples_of : Row → Asked ℕ
triples_of r = asked_table (triples label_count) (plain_fault r.P) label_count (asked r) r.offset

answer-examples : map (λ r. report_answer (report_of Pairs) r.room r.offset (pairs_of r)) rows ≡ map (λ r. r.answers) rows
unfolding rows row refusal asked listed twins listed_back crossed granted written asked_table starts_at report_of entry_words before walk commands_in pairs_fault plain_fault assumed by_masks locate locate_from check checks overlong_test limits_test cramped_test
    clash_test fault_test unjoined_test absent_test depth_of is_limit counts_of fault_place fault_number is_faulty first_of reading read_from behind count_fault counted effect no_counts read_at read_command
    command_of operand_count is_command two_operands one_operand act unite_newest change_newest pairs triples map_pair unite_pairs connect_triple settles relabel_triple mark_t mark_f mark_u tables leaf some products set_of
    canon insert_all insert compare_lists compare_numbers has without replace
answer-examples = refl

buffer-examples : map (λ r. report_buffer (report_of Pairs) (replicate r.room 9) (pairs_of r)) rows ≡ map (λ r. written r.room r.writes) rows
unfolding rows row refusal asked listed twins listed_back crossed granted written asked_table starts_at report_of entry_words before walk commands_in pairs_fault plain_fault assumed by_masks locate locate_from check checks overlong_test limits_test cramped_test
    clash_test fault_test unjoined_test absent_test depth_of is_limit counts_of fault_place fault_number is_faulty first_of reading read_from behind count_fault counted effect no_counts read_at read_command
    command_of operand_count is_command two_operands one_operand act unite_newest change_newest pairs triples map_pair unite_pairs connect_triple settles relabel_triple mark_t mark_f mark_u tables leaf some products set_of
    canon insert_all insert compare_lists compare_numbers has without replace
buffer-examples = refl

plain-answer-examples : map (λ r. report_answer (λ t. t) r.room r.offset (triples_of r)) rows ≡ map (λ r. r.plainly) rows
unfolding rows row refusal asked listed twins listed_back crossed granted written asked_table starts_at report_of entry_words before walk commands_in pairs_fault plain_fault assumed by_masks locate locate_from check checks overlong_test limits_test cramped_test
    clash_test fault_test unjoined_test absent_test depth_of is_limit counts_of fault_place fault_number is_faulty first_of reading read_from behind count_fault counted effect no_counts read_at read_command
    command_of operand_count is_command two_operands one_operand act unite_newest change_newest pairs triples map_pair unite_pairs connect_triple settles relabel_triple mark_t mark_f mark_u tables leaf some products set_of
    canon insert_all insert compare_lists compare_numbers has without replace
plain-answer-examples = refl

plain-buffer-examples : map (λ r. report_buffer (λ t. t) (replicate r.room 9) (triples_of r)) rows ≡ map (λ r. written r.room r.plain_writes) rows
unfolding rows row refusal asked listed twins listed_back crossed granted written asked_table starts_at report_of entry_words before walk commands_in pairs_fault plain_fault assumed by_masks locate locate_from check checks overlong_test limits_test cramped_test
    clash_test fault_test unjoined_test absent_test depth_of is_limit counts_of fault_place fault_number is_faulty first_of reading read_from behind count_fault counted effect no_counts read_at read_command
    command_of operand_count is_command two_operands one_operand act unite_newest change_newest pairs triples map_pair unite_pairs connect_triple settles relabel_triple mark_t mark_f mark_u tables leaf some products set_of
    canon insert_all insert compare_lists compare_numbers has without replace
plain-buffer-examples = refl

-- ---- the order of pairs alone: of three with equal Q, {3}, {3, 9}, {5}

order-example : report_of Pairs (canon compare_lists second ((7 ∷ 5 ∷ []) ∷ (7 ∷ 3 ∷ 9 ∷ []) ∷ (6 ∷ 8 ∷ []) ∷ (7 ∷ 3 ∷ []) ∷ (7 ∷ 5 ∷ []) ∷ []))
    ≡ 6 ∷ 1 ∷ 8 ∷ 7 ∷ 1 ∷ 3 ∷ 7 ∷ 2 ∷ 3 ∷ 9 ∷ 7 ∷ 1 ∷ 5 ∷ []
unfolding report_of entry_words canon insert_all insert compare_lists compare_numbers
order-example = refl

-- ---- the workspace afterwards: untouched by 1 to 14, else zero where it is needed

-- with P = G = 1: an area is three words
small : List ℕ → Request
small s = record { bytes = s; pair_limit = 1; subset_limit = 1; room = 11; assumed_true = 1; assumed_false = 0 }

words-examples : map (λ at. words_reported label_count (small (0x11 ∷ 0 ∷ [])) at (replicate 11 9)) (0 ∷ 1 ∷ 2 ∷ []) ≡ (replicate 6 0 ++ replicate 5 9) ∷ replicate 11 9 ∷ replicate 11 9 ∷ []
unfolding words_reported small starts_at locate locate_from check checks overlong_test limits_test cramped_test clash_test fault_test unjoined_test absent_test depth_of is_limit counts_of fault_place fault_number is_faulty first_of reading
    read_from behind count_fault counted effect no_counts read_at read_command command_of operand_count is_command two_operands one_operand
words-examples = refl

-- 02, Item 8: a report of the first command zeroes what the whole sheet needs
early-example : words_reported label_count (small (0x11 ∷ 0 ∷ 0x12 ∷ 1 ∷ 0x21 ∷ [])) 0 (replicate 11 9) ≡ replicate 9 0 ++ replicate 2 9
unfolding words_reported small starts_at locate locate_from check checks overlong_test limits_test cramped_test clash_test fault_test unjoined_test absent_test depth_of is_limit counts_of fault_place fault_number is_faulty first_of reading
    read_from behind count_fault counted effect no_counts read_at read_command command_of operand_count is_command two_operands one_operand
early-example = refl
