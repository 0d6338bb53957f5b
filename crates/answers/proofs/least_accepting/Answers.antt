-- `answers::least_accepting`: the rows left, summed onto the best so far, make the whole.
use mathlib.Core.Path.{◌≡◌, sym, ap, ◌∙◌}
use Prim.Native.Nat.{◌+◌, ◌*◌}
use native.Mathlib.Omega.{arith}
use Rattle.labels.specs.Labels.{label_count}
use Rattle.tables.specs.Definitions.{accepting}
use Rattle.candidates.specs.Candidates.{pair_of}
use Rattle.rows.specs.Parts.{part}
use Rattle.rows.proofs.Parts.{span}
use Rattle.making.proofs.Held.{readable_row}
use Rattle.values.specs.First.{firsts}
use Rattle.values.proofs.Semirings.{none-add}
use Rattle.answers.specs.Answers.{total_of}
use Rattle.answers.proofs.Remaining.{row-passes, row-fails, none-remain}
use Rattle.answers.proofs.least_accepting.Goals as goal

pub loop-j-init : goal.loop-j-init
loop-j-init c = none-add firsts _

pub accepts_row-requires : goal.accepts_row-requires
accepts_row-requires c =
    rw (span (c.args.a + c.loop-j.j * c.args.w) c.args.w) (readable_row c.args.carry c.args.w c.args.p c.args.a c.args.n c.args.vals.now c.args.ws.now c.requires.0 c.requires.1 c.requires.2 c.loop-j.j (omega arith))

pub loop-j-preserved : goal.loop-j-preserved
loop-j-preserved c =
    let told : c.accepts_row.result ≡ accepting label_count (pair_of (part (c.args.a + c.loop-j.j * c.args.w) c.args.w c.args.ws.now)) = rw (span (c.args.a + c.loop-j.j * c.args.w) c.args.w) at c.accepts_row.ensures in
    elim c.if-accepts_row.branch [
      | goal.then-accepts_row x ↦ row-passes (accepting label_count) c.args.carry c.args.w c.args.p c.args.a c.args.n c.args.vals.now c.args.ws.now c.requires.0 c.requires.1 c.requires.2 _ _ c.loop-j.invariant
          (omega arith) (sym told ∙ x.if-accepts_row.true) x.value_at-v.result x.value_at-v.ensures _ (ap total_of x.best-is ∙ x.with_value-best.ensures)
      | goal.else-accepts_row x ↦ row-fails (accepting label_count) c.args.carry c.args.w c.args.p c.args.a c.args.n c.args.vals.now c.args.ws.now c.requires.0 c.requires.1 c.requires.2 _ _ c.loop-j.invariant
          (omega arith) (sym told ∙ x.if-accepts_row.false) _ (ap total_of x.best-is)
    ]

pub returns : goal.returns
returns c =
    none-remain (accepting label_count) c.args.carry c.args.w c.args.p c.args.a c.args.n c.args.vals.now c.args.ws.now c.requires.0 c.requires.1 c.requires.2 _ _ c.loop-j.invariant
    (omega arith) (λ l. omega arith)
