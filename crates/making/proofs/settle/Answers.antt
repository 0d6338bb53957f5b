-- `making::settle`: too many rows are cleared, others put in order.
use mathlib.Core.Path.{◌≡◌, refl, ◌∙◌}
use Prim.Native.Nat.{◌*◌}
use Rattle.rows.proofs.Parts.{span}
use Rattle.rows.specs.Parts.{zeros}
use Rattle.rows.specs.Rows.{table_of}
use native.Mathlib.Omega.{arith}
use Rattle.making.proofs.settle.Goals as goal

pub returns-then-p-r : goal.returns-then-p-r
returns-then-p-r c =
    let e : c.clear_rows.new.area ≡ zeros (c.args.p * c.args.w) = c.clear_rows.ensures ∙ (unfold table_of in refl) in
    record { table = λ l. absurd (omega (arith, c.if-p-r.true)); none = λ l. rw (span c.args.to (c.args.p * c.args.w), e) }
