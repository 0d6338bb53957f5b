-- `leaves::present_value`: by what is carried.
use mathlib.Core.Path.{ap}
use Prim.Native.Nat.{ℕ}
use native.Mathlib.Omega.{arith}
use Rattle.values.specs.declared.Value.{Value}
use Rattle.values.specs.Consequences.{consequences}
use Rattle.leaves.proofs.Writing.{mark-is}
use Rattle.leaves.proofs.present_value.Goals as goal

pub returns-in-Consequences : goal.returns-in-Consequences
returns-in-Consequences c = rw c.in-Consequences.is (unfold consequences in (ap {B = Value} (λ (x : ℕ). record { high = x; low = x }) (mark-is c.args.c 64 (omega (arith, c.requires)))))
