-- `answers::shown_mask`: the mask of the first c atoms.
use mathlib.Core.Path.{refl, ap, ◌∙◌}
use Prim.Native.Nat.{ℕ, ◌*◌, ◌%◌, ◌^◌}
use native.Mathlib.Omega.{arith}
use lib.Bits.{bit_or}
use Rattle.lists.specs.Lists.{run}
use Rattle.semantics.specs.AnswerSets.{mask_of}
use Rattle.values.specs.First.{shown_by}
use Rattle.answers.proofs.Shown.{shown-in, shown-out}
use Rattle.answers.proofs.shown_mask.Goals as goal

pub loop-c-init : goal.loop-c-init
unfolding mask_of run shown_by
loop-c-init c = refl

pub loop-c-preserved : goal.loop-c-preserved
loop-c-preserved c =
    let v = c.args.v in
    elim c.if-v-c-eq1.branch [
      | goal.then-v-c-eq1 w ↦ w.mask-is ∙ ap (λ (m : ℕ). bit_or m ((1 * 2 ^ c.loop-c.c) % 2 ^ 64)) c.loop-c.invariant ∙ shown-in c.loop-c.c v (omega arith) w.if-v-c-eq1.true
      | goal.else-v-c-eq1 w ↦ w.mask-is ∙ c.loop-c.invariant ∙ shown-out c.loop-c.c v (omega arith) w.if-v-c-eq1.false
    ]
