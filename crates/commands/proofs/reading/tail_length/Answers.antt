-- `reading::tail_length`: 11 to 13, and 41 to 43, are tested as ranges. Assumes nothing.
use mathlib.Core.Path.{sym}
use native.Mathlib.Omega.{arith}
use Rattle.expression.specs.Commands.{one_operand, two_operands, operand_count}
use Rattle.expression.proofs.Commands.{leaf-tail, connect-tail, no-tail}
use Rattle.commands.proofs.reading.tail_length.Goals as goal

pub returns-in-17 : goal.returns-in-17
returns-in-17 c = sym (leaf-tail _ c.in-17.if-b-lt17-own.false c.in-17.if-b-lt20-own.true)

pub returns-in_default : goal.returns-in_default
returns-in_default c = sym (no-tail c.args.b (λ e. omega arith) (λ e. omega arith) (λ e. omega arith) (λ e. omega arith) (λ e. omega arith) (λ e. omega arith) (λ e. omega arith) (λ e. omega arith))

pub returns-in_default-2 : goal.returns-in_default-2
returns-in_default-2 c = sym (no-tail _ (λ e. omega arith) (λ e. omega arith) (λ e. omega arith) c.in_default.in_default-own.rest.0.1 (λ e. omega arith) (λ e. omega arith) (λ e. omega arith) (λ e. omega arith))

pub returns-in_default-3 : goal.returns-in_default-3
returns-in_default-3 c = sym (no-tail _ (λ e. omega arith) (λ e. omega arith) (λ e. omega arith) (λ e. omega arith) (λ e. omega arith) (λ e. omega arith) (λ e. omega arith) c.in_default.in_default-own.rest.1)

pub returns-in-49 : goal.returns-in-49
unfolding operand_count one_operand two_operands
returns-in-49 c = rw c.in-49.is

pub returns-in-49-2 : goal.returns-in-49-2
returns-in-49-2 c = sym (connect-tail _ c.in-49.if-b-lt65-own.false c.in-49.if-b-lt68-own.true)
