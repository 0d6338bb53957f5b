-- 256 rules are read, and a 257th is refused at its place. It takes seconds to evaluate, so it stands apart from the other rows over `check`. Assumes nothing.
use mathlib.Core.Path.{◌≡◌, refl}
use mathlib.Core.List.{List, [], ◌∷◌, ◌++◌, map}
use Prim.Native.Nat.{ℕ, zero, suc}
use Rattle.labels.specs.Labels.{label_count}
use Rattle.expression.specs.Commands.{one_operand, two_operands, is_command, operand_count, command_of, read_command, read_at}
use Rattle.expression.specs.Effects.{effect}
use Rattle.expression.specs.Reading.{no_counts, counted, count_fault, behind, read_from, reading}
use Rattle.expression.specs.Checks.{Passed, Refused, Request, first_of, is_faulty, fault_number, fault_place, counts_of, is_limit, overlong_test, limits_test, cramped_test, clash_test, fault_test, unjoined_test, absent_test, checks, check}

-- a rule, and n more, each joined at once
rules : ℕ → List ℕ
rules zero = 0x12 ∷ 0 ∷ []
rules (suc n) = rules n ++ (0x12 ∷ 0 ∷ 0x21 ∷ [])

asked : List ℕ → Request
asked s = record { bytes = s; pair_limit = 32; subset_limit = 32; room = 3264; assumed_true = 0; assumed_false = 0 }

rules-examples : map (λ n. check label_count (asked (rules n))) (255 ∷ 256 ∷ []) ≡ Passed (record { atoms = 0; rules = 256; depth = 1; deepest = 2 }) ∷ Refused 9 767 ∷ []
unfolding asked rules check checks overlong_test limits_test cramped_test clash_test fault_test unjoined_test absent_test is_limit counts_of fault_place fault_number is_faulty first_of reading read_from behind
    count_fault counted effect no_counts read_at read_command command_of operand_count is_command two_operands one_operand
rules-examples = refl
