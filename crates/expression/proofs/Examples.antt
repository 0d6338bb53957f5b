-- Refusals before any table, as one table under one theorem: 01's sheets to try, and orders of tests that are easily got wrong. Assumes nothing.
use mathlib.Core.Path.{◌≡◌, refl}
use mathlib.Core.Bool.{Bool, true, false, ◌&&◌}
use mathlib.Core.List.{List, [], ◌∷◌, ◌++◌, map}
use Prim.Native.Nat.{ℕ, zero, suc, ◌^◌}
use lib.Dec.{eqb}
use Rattle.lists.specs.Lists.{every}
use Rattle.labels.specs.Labels.{label_count}
use Rattle.expression.specs.declared.Outcome.TheVariants as outcome
use Rattle.expression.specs.Names as naming
use Rattle.expression.specs.Limits.{workspace_need}
use Rattle.expression.specs.Commands.{one_operand, two_operands, is_command, operand_count, command_of, read_command, read_at}
use Rattle.expression.specs.Effects.{effect}
use Rattle.expression.specs.Reading.{no_counts, counted, count_fault, behind, read_from, reading}
use Rattle.expression.specs.Checks.{Checked, Passed, Refused, Request, first_of, is_faulty, fault_number, fault_place, counts_of, is_limit, overlong_test, limits_test, cramped_test, clash_test, fault_test, unjoined_test, absent_test, checks, check, check_sheet, depth_of, depth_outcome}
use Rattle.expression.specs.Names.{Named, Nameless, called_by, called_from, called, called_in, name_of, bytes_named}

same : Checked → Checked → Bool
same (Passed y) (Passed z) = eqb y.atoms z.atoms && eqb y.rules z.rules && eqb y.depth z.depth && eqb y.deepest z.deepest
same (Passed y) (Refused n at) = false
same (Refused m b) (Passed z) = false
same (Refused m b) (Refused n at) = eqb m n && eqb b at

record Row : Type 0 where
  asked : Request
  says : Checked

-- how many atoms and rules, and the most operands at once
passed : ℕ → ℕ → ℕ → Checked
passed n m d = Passed (record { atoms = n; rules = m; depth = 1; deepest = d })

-- bytes, limits and assumptions, with just the room that is needed
row : List ℕ → ℕ → ℕ → ℕ → ℕ → Checked → Row
row s P G i o c = record {
  asked = record { bytes = s; pair_limit = P; subset_limit = G; room = workspace_need (depth_of label_count s) P G; assumed_true = i; assumed_false = o };
  says = c;
}

-- with other room
roomed : ℕ → Row → Row
roomed n r = record {
  asked = record { bytes = r.asked.bytes; pair_limit = r.asked.pair_limit; subset_limit = r.asked.subset_limit; room = n; assumed_true = r.asked.assumed_true; assumed_false = r.asked.assumed_false };
  says = r.says;
}

-- the bytes n times
times : ℕ → List ℕ → List ℕ
times zero s = []
times (suc n) s = s ++ times n s

-- three commands of five bytes, so that the next one's place is 5
opening : List ℕ
opening = 0x11 ∷ 0 ∷ 0x12 ∷ 1 ∷ 0x21 ∷ []

listed : List ℕ
listed = 0x11 ∷ 0 ∷ 0x12 ∷ 1 ∷ 0x21 ∷ 0x41 ∷ 0 ∷ 1 ∷ []

five : List ℕ
five = 0x11 ∷ 0 ∷ times 4 (0x11 ∷ 0 ∷ 0x21 ∷ [])

-- eight operands at once
eight : List ℕ
eight = times 8 (0x12 ∷ 0 ∷ []) ++ times 7 (0x21 ∷ [])

rows : List Row
rows =
    row listed 32 32 0 0 (passed 1 1 2)
    -- an assumption on an absent atom, bit 63 included
    ∷ row listed 32 32 2 0 (Refused 13 8)
    ∷ row listed 32 32 0 (2 ^ 63) (Refused 13 8)
    ∷ row [] 32 32 0 0 (Refused 12 0)
    ∷ row (0x21 ∷ []) 32 32 0 0 (Refused 11 0)
    -- 02, Item 12: labels are 0 to 9
    ∷ row (0x11 ∷ 8 ∷ []) 32 32 0 0 (passed 1 0 1)
    ∷ row (0x11 ∷ 9 ∷ []) 32 32 0 0 (passed 1 0 1)
    ∷ row (0x11 ∷ 10 ∷ []) 32 32 0 0 (Refused 7 0)
    ∷ row (0x12 ∷ 255 ∷ []) 32 32 0 0 (Refused 7 0)
    ∷ row (0x41 ∷ 0 ∷ []) 32 32 0 0 (Refused 6 0)
    ∷ row (0x41 ∷ 0 ∷ 0 ∷ []) 32 32 0 0 (Refused 8 0)
    -- an overlong expression and limits come before what is read, and a clash behind all that is
    ∷ row (times 4097 (0 ∷ [])) 0 32 3 1 (Refused 1 0)
    ∷ row [] 0 1025 3 1 (Refused 2 0)
    ∷ row [] 32 32 1 1 (Refused 12 0)
    -- 02, Item 8: so do 5 to 12 come before too little room, and 13 and 4 behind it
    ∷ roomed 0 (row [] 1024 1024 3 1 (Refused 12 0))
    ∷ roomed 0 (row (opening ++ (0x99 ∷ [])) 32 32 2 2 (Refused 5 5))
    ∷ roomed 0 (row (opening ++ (0x11 ∷ 0 ∷ [])) 32 32 2 2 (Refused 12 7))
    ∷ roomed 0 (row listed 32 32 2 2 (Refused 3 0))
    ∷ roomed 3263 (row listed 32 32 1 1 (Refused 3 0))
    ∷ roomed 3264 (row listed 32 32 1 1 (Refused 4 0))
    -- 1 alone; with a byte less the bytes are read
    ∷ row (times 4097 (0 ∷ [])) 32 32 0 0 (Refused 1 0)
    ∷ row (times 4096 (0 ∷ [])) 32 32 0 0 (Refused 5 0)
    -- 2 alone, and before 3; the least limits and the greatest
    ∷ row listed 0 32 0 0 (Refused 2 0)
    ∷ row listed 32 0 0 0 (Refused 2 0)
    ∷ row listed 1025 32 0 0 (Refused 2 0)
    ∷ row listed 32 1025 0 0 (Refused 2 0)
    ∷ roomed 0 (row listed 1025 32 0 0 (Refused 2 0))
    ∷ roomed 9 (row listed 1 1 0 0 (passed 1 1 2))
    ∷ roomed 3151872 (row listed 1024 1024 0 0 (passed 1 1 2))
    -- 3 alone, by one word: of two operands, of the most, and of one
    ∷ roomed 3263 (row listed 32 32 0 0 (Refused 3 0))
    ∷ roomed 3264 (row listed 32 32 0 0 (passed 1 1 2))
    ∷ roomed 9455615 (row eight 1024 1024 0 0 (Refused 3 0))
    ∷ roomed 9455616 (row eight 1024 1024 0 0 (passed 0 8 8))
    ∷ roomed 2175 (row (0x11 ∷ 9 ∷ []) 32 32 0 0 (Refused 3 0))
    ∷ roomed 2176 (row (0x11 ∷ 9 ∷ []) 32 32 0 0 (passed 1 0 1))
    -- 4 alone; 5, 11, 12 and 13 before it: the atom that clashes is absent (40 of five, bit 63), or another that is assumed
    ∷ row listed 32 32 1 1 (Refused 4 0)
    ∷ row five 32 32 18 16 (Refused 4 0)
    ∷ row (0x99 ∷ []) 32 32 1 1 (Refused 5 0)
    ∷ row (opening ++ (0x21 ∷ [])) 32 32 1 1 (Refused 11 5)
    ∷ row (opening ++ (0x11 ∷ 0 ∷ [])) 32 32 1 1 (Refused 12 7)
    ∷ row five 32 32 (2 ^ 40) (2 ^ 40) (Refused 13 14)
    ∷ row listed 32 32 (2 ^ 63) (2 ^ 63) (Refused 13 8)
    ∷ row listed 32 32 3 1 (Refused 13 8)
    ∷ row listed 32 32 1 3 (Refused 13 8)
    -- 5 to 8 by a later command: bytes beside those that are commands; one operand missing, two; an operand of 10, first and second; equal ones
    ∷ row (opening ++ (0 ∷ [])) 32 32 0 0 (Refused 5 5)
    ∷ row (opening ++ (0x10 ∷ [])) 32 32 0 0 (Refused 5 5)
    ∷ row (opening ++ (0x14 ∷ [])) 32 32 0 0 (Refused 5 5)
    ∷ row (opening ++ (0x22 ∷ [])) 32 32 0 0 (Refused 5 5)
    ∷ row (opening ++ (0x32 ∷ [])) 32 32 0 0 (Refused 5 5)
    ∷ row (opening ++ (0x40 ∷ [])) 32 32 0 0 (Refused 5 5)
    ∷ row (opening ++ (0x44 ∷ [])) 32 32 0 0 (Refused 5 5)
    ∷ row (opening ++ (0x12 ∷ [])) 32 32 0 0 (Refused 6 5)
    ∷ row (opening ++ (0x42 ∷ [])) 32 32 0 0 (Refused 6 5)
    ∷ row (opening ++ (0x43 ∷ 1 ∷ [])) 32 32 0 0 (Refused 6 5)
    ∷ row (opening ++ (0x12 ∷ 10 ∷ [])) 32 32 0 0 (Refused 7 5)
    ∷ row (opening ++ (0x31 ∷ 10 ∷ 0 ∷ [])) 32 32 0 0 (Refused 7 5)
    ∷ row (opening ++ (0x42 ∷ 0 ∷ 10 ∷ [])) 32 32 0 0 (Refused 7 5)
    ∷ row (opening ++ (0x43 ∷ 9 ∷ 9 ∷ [])) 32 32 0 0 (Refused 8 5)
    -- 11 by a later command, and of each command with no operand
    ∷ row (opening ++ (0x21 ∷ [])) 32 32 0 0 (Refused 11 5)
    ∷ row (0x31 ∷ 0 ∷ 1 ∷ []) 32 32 0 0 (Refused 11 0)
    ∷ row (0x42 ∷ 0 ∷ 1 ∷ []) 32 32 0 0 (Refused 11 0)
    ∷ row (0x43 ∷ 0 ∷ 1 ∷ []) 32 32 0 0 (Refused 11 0)
    -- 12 before 13; the greatest atom there is, and the first that there isn't
    ∷ row (opening ++ (0x11 ∷ 0 ∷ [])) 32 32 4 0 (Refused 12 7)
    ∷ row (opening ++ (0x11 ∷ 0 ∷ 0x21 ∷ [])) 32 32 2 1 (passed 2 1 2)
    ∷ row (opening ++ (0x11 ∷ 0 ∷ 0x21 ∷ [])) 32 32 0 4 (Refused 13 8)
    -- 6 before 7, 7 before 8, 8 before 11
    ∷ row (0x41 ∷ 10 ∷ []) 32 32 0 0 (Refused 6 0)
    ∷ row (0x41 ∷ 10 ∷ 10 ∷ []) 32 32 0 0 (Refused 7 0)
    ∷ row (0x31 ∷ 3 ∷ 3 ∷ []) 32 32 0 0 (Refused 8 0)
    ∷ row (0x41 ∷ 0 ∷ 1 ∷ []) 32 32 0 0 (Refused 11 0)
    -- 02, Item 1: a name of any bytes, and what stands behind it; bytes beside 51; some of its bytes missing or all, before 11; no operand
    ∷ row (opening ++ (0x51 ∷ times 16 (0x11 ∷ []))) 32 32 0 0 (passed 1 1 2)
    ∷ row (opening ++ (0x51 ∷ times 16 (255 ∷ []) ++ (0x41 ∷ 0 ∷ 1 ∷ []))) 32 32 0 0 (passed 1 1 2)
    ∷ row (opening ++ (0x51 ∷ times 16 (0x21 ∷ []) ++ (0x99 ∷ []))) 32 32 0 0 (Refused 5 22)
    ∷ row (opening ++ (0x50 ∷ times 16 (0 ∷ []))) 32 32 0 0 (Refused 5 5)
    ∷ row (opening ++ (0x52 ∷ times 16 (0 ∷ []))) 32 32 0 0 (Refused 5 5)
    ∷ row (opening ++ (0x51 ∷ times 15 (0 ∷ []))) 32 32 0 0 (Refused 6 5)
    ∷ row (0x51 ∷ []) 32 32 0 0 (Refused 6 0)
    ∷ row (0x51 ∷ times 15 (0 ∷ [])) 32 32 0 0 (Refused 6 0)
    ∷ row (0x51 ∷ times 16 (0 ∷ [])) 32 32 0 0 (Refused 11 0)
    -- the first faulty command, not the lowest number
    ∷ row (0x11 ∷ 0 ∷ 0x11 ∷ 10 ∷ 0x99 ∷ []) 32 32 0 0 (Refused 7 2)
    ∷ row (0x11 ∷ 0 ∷ 0x11 ∷ 1 ∷ []) 32 32 0 0 (Refused 12 4)
    -- a ninth operand
    ∷ row (times 9 (0x11 ∷ 0 ∷ [])) 32 32 0 0 (Refused 10 16)
    ∷ row eight 32 32 0 0 (passed 0 8 8)
    -- a 64th atom that would also be a ninth operand; 63 atoms are read
    ∷ row (times 8 (0x11 ∷ 0 ∷ []) ++ times 55 (0x21 ∷ 0x11 ∷ 0 ∷ []) ++ (0x11 ∷ 0 ∷ [])) 32 32 0 0 (Refused 9 181)
    ∷ row (0x11 ∷ 0 ∷ times 62 (0x11 ∷ 0 ∷ 0x21 ∷ [])) 32 32 (2 ^ 62) 0 (passed 63 0 2)
    ∷ row (0x11 ∷ 0 ∷ times 63 (0x11 ∷ 0 ∷ 0x21 ∷ [])) 32 32 0 0 (Refused 9 188)
    -- 02, Item 9: an external atom is read, assumed and counted as any other
    ∷ row (0x13 ∷ 9 ∷ []) 32 32 1 0 (passed 1 0 1)
    ∷ row (opening ++ (0x13 ∷ [])) 32 32 0 0 (Refused 6 5)
    ∷ row (opening ++ (0x13 ∷ 10 ∷ [])) 32 32 0 0 (Refused 7 5)
    ∷ row (0x13 ∷ 0 ∷ times 62 (0x11 ∷ 0 ∷ 0x21 ∷ [])) 32 32 0 (2 ^ 62) (passed 63 0 2)
    ∷ row (0x13 ∷ 0 ∷ times 62 (0x11 ∷ 0 ∷ 0x21 ∷ []) ++ (0x13 ∷ 0 ∷ [])) 32 32 0 0 (Refused 9 188)
    ∷ []

right : Row → Bool
right r = same (check label_count r.asked) r.says

examples : every right rows ≡ true
unfolding every right rows row passed roomed times opening listed five eight same check checks overlong_test limits_test cramped_test clash_test fault_test unjoined_test absent_test depth_of is_limit counts_of fault_place fault_number is_faulty first_of reading read_from behind
    count_fault counted effect no_counts read_at read_command command_of operand_count is_command two_operands one_operand
examples = refl

-- 02, Item 8: the depth told, and 1 and 5 to 12 in its place
depth-examples : map (depth_outcome label_count) (listed ∷ (0x11 ∷ 9 ∷ []) ∷ eight ∷ [] ∷ (opening ++ (0x99 ∷ [])) ∷ (opening ++ (0x11 ∷ 0 ∷ [])) ∷ times 4097 (0 ∷ []) ∷ [])
    ≡ outcome.Yes 2 ∷ outcome.Yes 1 ∷ outcome.Yes 8 ∷ outcome.Refused 12 0 ∷ outcome.Refused 5 5 ∷ outcome.Refused 12 7 ∷ outcome.Refused 1 0 ∷ []
unfolding times opening listed eight depth_outcome check_sheet overlong_test fault_test unjoined_test counts_of fault_place fault_number is_faulty first_of reading read_from behind
    count_fault counted effect no_counts read_at read_command command_of operand_count is_command two_operands one_operand
depth-examples = refl

-- 02, Item 1: two atoms, joined: the second is the newest and is named twice; then a rule, which is named too
twice : List ℕ
twice = 0x11 ∷ 0 ∷ 0x11 ∷ 1 ∷ 0x21 ∷ 0x51 ∷ times 16 (0x21 ∷ []) ++ (0x51 ∷ times 16 (0x61 ∷ []) ++ (0x12 ∷ 0 ∷ 0x51 ∷ times 16 (0x62 ∷ []) ++ (0x21 ∷ [])))

-- 1 and 5 to 12 in place of a name
name-examples : (map (name_of label_count twice) (0 ∷ 1 ∷ 2 ∷ []) ≡ Nameless ∷ Named 23 ∷ Nameless ∷ [])
    × (map (λ s. name_of label_count s 0) (listed ∷ (opening ++ (0x51 ∷ [])) ∷ (opening ++ (0x11 ∷ 0 ∷ [])) ∷ times 4097 (0 ∷ []) ∷ []) ≡ Nameless ∷ naming.Refused 6 5 ∷ naming.Refused 12 7 ∷ naming.Refused 1 0 ∷ [])
    × (bytes_named twice (name_of label_count twice 1) ≡ times 16 (0x61 ∷ []))
    × (name_of label_count (0x13 ∷ 0 ∷ 0x51 ∷ times 16 (0x61 ∷ [])) 0 ≡ Named 3)
unfolding times opening listed twice name_of called_in called called_from called_by check_sheet overlong_test fault_test unjoined_test counts_of fault_place fault_number is_faulty first_of reading read_from behind
    count_fault counted effect no_counts read_at read_command command_of operand_count is_command two_operands one_operand
name-examples = (refl, refl, refl, refl)
