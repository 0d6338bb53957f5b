-- `fusing::with_atoms`: by the kind.
use mathlib.Core.Path.{refl}
use Prim.Native.Nat.{◌+◌, ◌*◌}
use native.Mathlib.Omega.{arith}
use Rattle.labels.specs.Labels.{label_count}
use Rattle.fusing.proofs.Words.{with-mark, head_in, positive-in, negative-in}
use Rattle.fusing.proofs.with_atoms.Goals as goal

pub returns-in-Head : goal.returns-in-Head
returns-in-Head c =
    ((with-mark (2 * label_count) _ c.args.i 32 c.requires.0.0 (omega (arith, c.requires.1)) (omega arith), c.requires.0.1, c.requires.0.2, c.requires.0.3, c.requires.0.4), refl, refl, refl, λ q r. head_in label_count 32 c.args.j c.args.k c.args.i q r (omega arith) c.requires.1 c.in-Head.is)

pub returns-in-Positive : goal.returns-in-Positive
returns-in-Positive c =
    ((with-mark (2 * label_count) _ (label_count + c.args.i) 32 c.requires.0.0 (omega (arith, c.requires.1)) (omega arith), c.requires.0.1, c.requires.0.2, c.requires.0.3, c.requires.0.4), refl, refl, refl, λ q r. positive-in label_count 32 c.args.j c.args.k c.args.i q r (omega arith) c.requires.1 c.in-Positive.is)

pub returns-in-Negative : goal.returns-in-Negative
returns-in-Negative c =
    ((c.requires.0.0, with-mark label_count _ c.args.i 32 c.requires.0.1 (omega (arith, c.requires.1)) (omega arith), c.requires.0.2, c.requires.0.3, c.requires.0.4), refl, refl, refl, λ q r. negative-in label_count 32 c.args.j c.args.k c.args.i q r (omega arith) c.requires.1 c.in-Negative.is)
