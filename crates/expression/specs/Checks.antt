-- The checks before any table (01, Outcomes; 02, Items 4 and 8): ONE list, in the order in which they are tested. Assumes nothing.
use Rattle.std.specs.Prelude.{Bool, true, false, cond, not, ◌&&◌, List, [], ◌∷◌, ℕ, ◌+◌, ◌^◌, eqb, ltb, length}
use Rattle.std.specs.Int.Bits.{bit_and}
use Rattle.expression.specs.declared.Counts.{Counts}
use Rattle.expression.specs.declared.Outcome.{Outcome}
use Rattle.expression.specs.declared.Outcome.TheVariants as outcome
use Rattle.expression.specs.Limits.{byte_limit, table_limit, workspace_need}
use Rattle.expression.specs.Refusals.{overlong, limits, cramped, clash, unjoined, absent}
use Rattle.expression.specs.Reading.{Reading, faulty, whole, no_counts, reading}

-- what a caller hands over: the bytes, the limits P and G, the words of workspace, and the assumptions (01: pins in and out)
pub record Request : Type 0 where
  pub bytes : List ℕ
  pub pair_limit : ℕ
  pub subset_limit : ℕ
  pub room : ℕ
  pub assumed_true : ℕ
  pub assumed_false : ℕ

-- all tests passed, with the counts of the whole expression; or the number and the place of the first refusal
pub data Checked : Type 0 where
  Passed : Counts → Checked
  Refused : ℕ → ℕ → Checked

-- a test: whether it refuses, by which number and at which place
pub record Test : Type 0 where
  pub refuses : Bool
  pub number : ℕ
  pub place : ℕ

-- the first that refuses; where none does, the counts z
unfoldable pub first_of : Counts → List Test → Checked
first_of z [] = Passed z
first_of z (t ∷ ts) = cond t.refuses (Refused t.number t.place) (first_of z ts)

unfoldable pub is_faulty : Reading → Bool
is_faulty (faulty n at) = true
is_faulty (whole cs z) = false

unfoldable pub fault_number : Reading → ℕ
fault_number (faulty n at) = n
fault_number (whole cs z) = 0

unfoldable pub fault_place : Reading → ℕ
fault_place (faulty n at) = at
fault_place (whole cs z) = 0

unfoldable pub counts_of : Reading → Counts
counts_of (faulty n at) = no_counts
counts_of (whole cs z) = z

-- 1 to 1024
unfoldable pub is_limit : ℕ → Bool
is_limit n = ltb 0 n && ltb n (table_limit + 1)

-- ---- the tests

unfoldable pub overlong_test : List ℕ → Test
overlong_test s = record { refuses = ltb byte_limit (length s); number = overlong; place = 0 }

unfoldable pub limits_test : ℕ → ℕ → Test
limits_test P G = record { refuses = not (is_limit P && is_limit G); number = limits; place = 0 }

-- some atom is assumed true and false
unfoldable pub clash_test : ℕ → ℕ → Test
clash_test i o = record { refuses = not (eqb (bit_and i o) 0); number = clash; place = 0 }

-- 5 to 11
unfoldable pub fault_test : Reading → Test
fault_test r = record { refuses = is_faulty r; number = fault_number r; place = fault_place r }

unfoldable pub unjoined_test : List ℕ → Reading → Test
unjoined_test s r = record { refuses = not (eqb (counts_of r).depth 1); number = unjoined; place = length s }

-- under the words for d operands at a time
unfoldable pub cramped_test : ℕ → ℕ → ℕ → ℕ → Test
cramped_test d P G room = record { refuses = ltb room (workspace_need d P G); number = cramped; place = 0 }

-- an assumption on an atom that is none of the n
unfoldable pub absent_test : List ℕ → ℕ → ℕ → ℕ → Test
absent_test s n i o = record { refuses = not (ltb i (2 ^ n) && ltb o (2 ^ n)); number = absent; place = length s }

-- ---- in their order: 1, 2, 5 to 12, then 3 (02, Item 8: directly after 12), 13, then 4 (02, Item 4: directly after 13)

unfoldable pub checks : Request → Reading → List Test
checks a r =
    overlong_test a.bytes
    ∷ limits_test a.pair_limit a.subset_limit
    ∷ fault_test r
    ∷ unjoined_test a.bytes r
    ∷ cramped_test (counts_of r).deepest a.pair_limit a.subset_limit a.room
    ∷ absent_test a.bytes (counts_of r).atoms a.assumed_true a.assumed_false
    ∷ clash_test a.assumed_true a.assumed_false
    ∷ []

unfoldable pub check : ℕ → Request → Checked
check K a = let r = reading K a.bytes in first_of (counts_of r) (checks a r)

-- 5 to 12: those that read the bytes
unfoldable pub check_bytes : ℕ → List ℕ → Checked
check_bytes K s = let r = reading K s in first_of (counts_of r) (fault_test r ∷ unjoined_test s r ∷ [])

-- 1, then 5 to 12: those of the bytes alone
unfoldable pub check_sheet : ℕ → List ℕ → Checked
check_sheet K s = let r = reading K s in first_of (counts_of r) (overlong_test s ∷ fault_test r ∷ unjoined_test s r ∷ [])

-- ---- 02, Item 8: what the depth asks

-- d: the most operands (01: parts) that the expression has at any moment; 0 where a command is faulty
unfoldable pub depth_of : ℕ → List ℕ → ℕ
depth_of K s = (counts_of (reading K s)).deepest

-- the words of workspace that a request needs
abbrev pub need_of : ℕ → Request → ℕ
need_of K a = workspace_need (depth_of K a.bytes) a.pair_limit a.subset_limit

-- yes with d, or the refusal
abbrev pub depth_told : Checked → Outcome
depth_told (Passed z) = outcome.Yes z.deepest
depth_told (Refused n at) = outcome.Refused n at

unfoldable pub depth_outcome : ℕ → List ℕ → Outcome
depth_outcome K s = depth_told (check_sheet K s)
