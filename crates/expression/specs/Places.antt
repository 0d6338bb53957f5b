-- Where commands start (01: 14 and 18), over K labels. Assumes nothing.
use Rattle.std.specs.Prelude.{true, false, List, ℕ, zero, suc, eqb, length, Option, Some, None}
use Rattle.expression.specs.declared.Counts.{Counts}
use Rattle.expression.specs.Commands.{Got, Fault, read_at}
use Rattle.expression.specs.Reading.{no_counts, counted}

-- the counts before the offset asked, if a walk from `at` comes to it; k bounds the number of commands
unfoldable pub locate_from : ℕ → ℕ → List ℕ → ℕ → ℕ → Counts → Option Counts
locate_from K zero s asked at n = None
locate_from K (suc k) s asked at n =
    elim (eqb at asked) [
      | true ↦ Some n
      | false ↦ elim (read_at K s at) [ Fault f ↦ None | Got c next ↦ locate_from K k s asked next (counted n c) ]
    ]

-- a command's start, or the end
unfoldable pub locate : ℕ → List ℕ → ℕ → Option Counts
locate K s asked = locate_from K (suc (length s)) s asked 0 no_counts
