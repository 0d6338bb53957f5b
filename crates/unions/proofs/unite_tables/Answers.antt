-- `unions::unite_tables`: the candidates are put in, the table is settled, the operand goes.
use mathlib.Core.Path.{◌≡◌, refl, sym, ◌∙◌, subst}
use Prim.Native.Nat.{◌*◌}
use native.Mathlib.Omega.{arith}
use Rattle.rows.specs.Parts.{zeros}
use Rattle.rows.specs.Rows.{table_of, Rows}
use Rattle.rows.proofs.Parts.{span}
use Rattle.making.proofs.Settling.{starts, after-steps, operand-there, finished-alone, stepped-indexed, stepped-rows}
use Rattle.unions.proofs.unite_tables.Goals as goal

pub unite_all-r-requires-clause-next : goal.unite_all-r-requires-clause-next
unite_all-r-requires-clause-next c =
    starts c.requires.ws_value.0 c.requires.ws_value.1 c.requires.ws_value.2 _

pub settle-requires-clause-rows : goal.settle-requires-clause-rows
settle-requires-clause-rows c =
    let all_in = after-steps c.requires.ws_value.0 c.requires.ws_value.1 c.requires.ws_value.2 c.unite_all-r.ensures.steps in
    stepped-rows all_in c.args.a c.args.na (omega (arith, c.requires.w_bound.0, c.requires.w_bound.1)) (omega (arith, c.requires.w_bound.2)) c.requires.rows.0

pub settle-requires-clause-indexed : goal.settle-requires-clause-indexed
settle-requires-clause-indexed c =
    stepped-indexed (after-steps c.requires.ws_value.0 c.requires.ws_value.1 c.requires.ws_value.2 c.unite_all-r.ensures.steps)

pub clear_rows-requires-clause-rows : goal.clear_rows-requires-clause-rows
clear_rows-requires-clause-rows c =
    let all_in = after-steps c.requires.ws_value.0 c.requires.ws_value.1 c.requires.ws_value.2 c.unite_all-r.ensures.steps in
    rw (span c.args.b (c.args.p * c.args.w)) (subst (Rows c.args.w c.args.p c.args.nb) (sym (operand-there (omega (arith, c.requires.w_bound.0, c.requires.w_bound.1)) c.requires.w_bound.2 c.requires.ws_value.0 all_in c.settle.ensures c.args.b c.requires.w_bound.0 (omega (arith, c.requires.w_bound.1, c.requires.w_bound.2)) (omega (arith, c.if-r-p.true)))) c.requires.rows.1)

pub returns-then-r-p-clause-finished : goal.returns-then-r-p-clause-finished
returns-then-r-p-clause-finished c =
    let all_in = after-steps c.requires.ws_value.0 c.requires.ws_value.1 c.requires.ws_value.2 c.unite_all-r.ensures.steps in
    let e : c.clear_rows.new.area ≡ zeros (c.args.p * c.args.w) = c.clear_rows.ensures ∙ (unfold table_of in refl) in
    finished-alone (omega (arith, c.requires.w_bound.0, c.requires.w_bound.1)) c.requires.w_bound.2 c.requires.ws_value.0 all_in c.settle.ensures c.args.b c.requires.w_bound.0 (omega (arith, c.requires.w_bound.1, c.requires.w_bound.2)) _ (λ l. rw (span c.args.b (c.args.p * c.args.w), e)) (λ l. absurd (omega (arith, c.if-r-p.true)))

pub returns-else-r-p-clause-finished : goal.returns-else-r-p-clause-finished
returns-else-r-p-clause-finished c =
    let all_in = after-steps c.requires.ws_value.0 c.requires.ws_value.1 c.requires.ws_value.2 c.unite_all-r.ensures.steps in
    finished-alone (omega (arith, c.requires.w_bound.0, c.requires.w_bound.1)) c.requires.w_bound.2 c.requires.ws_value.0 all_in c.settle.ensures c.args.b c.requires.w_bound.0 (omega (arith, c.requires.w_bound.1, c.requires.w_bound.2)) _ (λ l. absurd (omega (arith, c.if-r-p.false))) (λ l. refl)
