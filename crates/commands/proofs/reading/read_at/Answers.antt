-- `reading::read_at`: each way out is one law of `read_command`. Assumes nothing.
use mathlib.Core.Path.{sym, ap, ◌∙◌}
use Prim.Native.Nat.{ℕ, ◌-◌}
use native.Mathlib.Omega.{arith}
use lib.ListN.{length, get_or}
use borrow.Author.Tests.{le-ltb, lt-leb}
use Rattle.expression.specs.declared.Command.{Command}
use Rattle.expression.specs.Commands.{Got, tail_length, read_at}
use Rattle.expression.proofs.Commands.{few-operands, tail_name, tail-operands, past_end, union-read, name-read, unknown-read, cut-read, group-read, leaf-read, pair_read}
use Rattle.commands.proofs.reading.read_at.Goals as goal

pub returns-then-at-s : goal.returns-then-at-s
returns-then-at-s c = sym (past_end _ _ _ c.if-at-s.true)

pub returns-then-b-eq33 : goal.returns-then-b-eq33
unfolding read_at
returns-then-b-eq33 c = sym (union-read _ _ _ _ _ _ c.if-b-eq33.true (omega arith))

pub returns-then-n-eq0 : goal.returns-then-n-eq0
unfolding read_at
returns-then-n-eq0 c =
    let t = c.tail_length-n.ensures in
    sym (unknown-read _ _ _ _ _ _ c.if-b-eq33.false (λ e. omega (arith, ap tail_length e)) (tail-operands _ (λ e. omega arith) ∙ omega arith))

pub returns-then-s-at : goal.returns-then-s-at
unfolding read_at
returns-then-s-at c = sym (cut-read _ _ _ _ _ _ (omega arith) (omega arith))

pub returns-then-n-eq-NAME_LENGTH : goal.returns-then-n-eq-NAME_LENGTH
unfolding read_at
returns-then-n-eq-NAME_LENGTH c =
    let x = c.args in
    ap (λ (p : Command × ℕ). Got p.0 p.1) c.read_name.ensures ∙ sym (name-read _ _ _ _ _ _ (tail_name _ (omega arith)) ∙ simp (le-ltb (length x.s.now - x.at) 17 (omega arith)))

pub returns-then-i-ge-LABELS : goal.returns-then-i-ge-LABELS
unfolding read_at
returns-then-i-ge-LABELS c =
    let x = c.args in
    let t = tail-operands (get_or x.s.now x.at 0) (λ e. omega arith) in
    sym (group-read _ _ _ _ _ _ (omega arith) (omega arith) c.if-i-ge-LABELS.true)

pub returns-then-n-eq1 : goal.returns-then-n-eq1
unfolding read_at
returns-then-n-eq1 c =
    let x = c.args in
    let t = tail-operands (get_or x.s.now x.at 0) (λ e. omega arith) in
    rw c.leaf_of.ensures (sym (leaf-read _ _ _ _ _ _ (omega arith) (omega arith) ∙ simp (lt-leb _ _ c.if-i-ge-LABELS.false)))

pub read_pair-requires : goal.read_pair-requires
read_pair-requires c =
    let x = c.args in
    let t = tail-operands (get_or x.s.now x.at 0) (λ e. omega arith) in
    omega (arith, few-operands (get_or x.s.now x.at 0))

pub returns : goal.returns
unfolding read_at
returns c =
    let x = c.args in
    let t = tail-operands (get_or x.s.now x.at 0) (λ e. omega arith) in
    c.read_pair.ensures ∙ sym (pair_read _ _ _ _ _ _ (omega arith) (omega arith) ∙ simp (lt-leb _ _ c.if-i-ge-LABELS.false))
