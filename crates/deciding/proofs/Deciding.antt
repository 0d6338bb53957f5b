-- What a decision finds in the last table. Assumes nothing.
use mathlib.Core.Path.{◌≡◌, refl, sym}
use mathlib.Core.List.{List, []}
use Prim.Native.Nat.{ℕ, ◌*◌, ◌≤◌}
use native.Mathlib.Omega.{arith}
use Rattle.std.specs.Prelude.{Option, Some, None, Ok}
use Rattle.expression.specs.Limits.{depth_limit, area_count}
use Rattle.expression.specs.Told.{outcome_of}
use lib.ListN.{length}
use Rattle.labels.specs.Labels.{label_count}
use Rattle.semantics.specs.AnswerSets.{Assumptions}
use Rattle.tables.specs.Definitions.{accepting}
use Rattle.checks.specs.declared.frames.Frame.{Frame}
use Rattle.rows.specs.Parts.{zeros}
use Rattle.workspace.specs.Workspace.{Roomy}
use Rattle.stacks.specs.Stacks.{cleared}
use Rattle.advances.specs.Advances.{Stands}
use Rattle.advances.proofs.Clear.{behind, stands-clear}
use Rattle.decisions.specs.Decisions.{newest, walked}
use Rattle.entries.specs.declared.Carry.{Carry}
use Rattle.entries.specs.Carries.{Entry}
use Rattle.leaves.specs.declared.Tables.{Tables}
use Rattle.answers.specs.Answers.{least_of, total_of}
use Rattle.walks.specs.Walks.{Enough, walk_to}
use Rattle.deciding.specs.Deciding.{Decides, value_outcome}

-- the cleared words of a frame, where a walk begins on no tables
pub begun : (carry : Carry) (f : Frame) (s ws ws' vals counts : List ℕ) → (e : Enough f.areas s × (f.need ≤ length ws) × (f.areas * (f.limit * f.width) ≤ f.need) × (f.areas ≤ area_count))
    → Roomy carry f.areas f.limit vals × (counts ≡ zeros depth_limit) → ws' ≡ cleared f.need ws → Stands carry f.areas f.width f.limit [] (behind f.areas f.width f.limit f.need ws e.2) ws' vals counts
begun carry f s ws ws' vals counts e r k = stands-clear f.areas f.width f.limit f.need ws e.2 carry ws' vals counts k r.1 r.0 (omega (arith, e.0.2)) e.3

-- what was found in it, and as the code says it
pub found-decides : (kind : Tables) (carry : Carry) (o : Assumptions) (w p : ℕ) (s : List ℕ) (us : List (List Entry)) → walk_to kind carry o w p (length s) s ≡ walked us
    → (x : Option ℕ) → total_of x ≡ least_of (accepting label_count) (newest us) → Decides kind carry o w p s (value_outcome x)
found-decides kind carry o w p s us e None h = (us, e, sym h)
found-decides kind carry o w p s us e (Some v) h = (us, e, sym h)

pub value-told : (x : Option ℕ) → outcome_of (Ok x) ≡ value_outcome x
value-told None = refl
value-told (Some v) = refl
