-- Whether a table is listed, where the last command starts, and a report's pairs in words (01, Listing), over K labels. Assumes nothing.
use Rattle.std.specs.Prelude.{◌≡◌, Bool, true, false, ◌||◌, List, ◌++◌, ℕ, zero, suc, length, drop}
use Rattle.expression.specs.Commands.{Got, Fault, read_at}
use Rattle.expression.specs.Checks.{Request}
use Rattle.tables.specs.Definitions.{Pair}
use Rattle.decisions.specs.Decisions.{Verdict, affirmed, denied, refused, grounded, plain}
use Rattle.leaves.specs.declared.Tables.TheVariants.{Pairs}
use Rattle.reports.specs.Reports.{report_of}

abbrev pub is_refusal : Verdict → Bool
is_refusal affirmed = false
is_refusal denied = false
is_refusal (refused n at) = true

-- a table is listed unless this holds
abbrev pub either_refused : ℕ → Request → Bool
either_refused K a = is_refusal (grounded K a) || is_refusal (plain K a)

-- the last start from `at` on, or `last` where no command is read; k bounds the number of commands
unfoldable pub last_from : ℕ → ℕ → List ℕ → ℕ → ℕ → ℕ
last_from K zero s last at = last
last_from K (suc k) s last at = elim (read_at K s at) [ Fault f ↦ last | Got c next ↦ last_from K k s at next ]

-- the offset of the last command that is read
unfoldable pub last_start : ℕ → List ℕ → ℕ
last_start K s = last_from K (suc (length s)) s 0 0

-- from `at` on stand n pairs as a report writes them
abbrev pub PairsFrom : ℕ → ℕ → List ℕ → Type 0
PairsFrom at n words = (t : List Pair) × (rest : List ℕ) × (drop at words ≡ report_of Pairs t ++ rest) × (length t ≡ n)
