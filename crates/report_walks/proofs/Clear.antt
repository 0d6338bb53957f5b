-- Words cleared for a walk: no tables stand in them. Assumes nothing.
use mathlib.Core.Path.{◌≡◌}
use mathlib.Core.List.{List, []}
use Prim.Native.Nat.{ℕ, ◌*◌, ◌≤◌}
use native.Mathlib.Omega.{arith}
use lib.ListN.{length}
use Rattle.expression.specs.Limits.{depth_limit, area_count}
use Rattle.rows.specs.Parts.{zeros}
use Rattle.entries.specs.declared.Carry.TheVariants.{Nothing}
use Rattle.workspace.proofs.Values.{roomy-nothing}
use Rattle.stacks.specs.Stacks.{cleared}
use Rattle.advances.specs.Advances.{Stands}
use Rattle.advances.proofs.Clear.{behind, stands-clear}
use Rattle.walks.specs.Walks.{Enough}
use Rattle.checks.specs.declared.frames.Frame.{Frame}

module _ (f : Frame) (s ws : List ℕ) (enough : Enough f.areas s × (f.need ≤ length ws) × (f.areas * (f.limit * f.width) ≤ f.need) × (f.areas ≤ area_count)) where
  -- what stands behind the areas
  abbrev pub back : List ℕ
  back = behind f.areas f.width f.limit f.need ws enough.2

  pub none-stand : {ws' vals counts : List ℕ} → ws' ≡ cleared f.need ws → counts ≡ zeros depth_limit → Stands Nothing f.areas f.width f.limit [] back ws' vals counts
  none-stand {ws'} {vals} {counts} e z = stands-clear f.areas f.width f.limit f.need ws enough.2 Nothing ws' vals counts e z (roomy-nothing f.areas f.limit vals) (omega (arith, enough.0.2)) enough.3
