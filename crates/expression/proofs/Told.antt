-- The numbers of reasons. Assumes nothing.
use Prim.Native.Nat.{◌<◌}
use native.Mathlib.Omega.{arith}
use Rattle.expression.specs.declared.refusals.Reason.{Reason}
use Rattle.expression.specs.declared.refusals.Reason.TheVariants as reason
use Rattle.expression.specs.Refusals.{number_of}

-- 0 is the number of none
pub number-positive : (r : Reason) → 0 < number_of r
number-positive reason.Overlong = omega arith
number-positive reason.Limits = omega arith
number-positive reason.Cramped = omega arith
number-positive reason.Clash = omega arith
number-positive reason.Unknown = omega arith
number-positive reason.Cut = omega arith
number-positive reason.Group = omega arith
number-positive reason.Same = omega arith
number-positive reason.Crowded = omega arith
number-positive reason.Deep = omega arith
number-positive reason.Bare = omega arith
number-positive reason.Unjoined = omega arith
number-positive reason.Absent = omega arith
number-positive reason.Offset = omega arith
number-positive reason.SubsetsFull = omega arith
number-positive reason.PlansFull = omega arith
number-positive reason.ReportShort = omega arith
number-positive reason.BadRecord = omega arith
