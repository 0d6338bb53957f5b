-- `rows::load_row`: the first words read the same.
use mathlib.Core.Path.{◌≡◌}
use Prim.Native.Nat.{◌+◌}
use lib.ListN.{length, take, get_or}
use lib.Seq.{length-take-le, take_at}
use Rattle.rows.proofs.Single.{read-front}
use native.Mathlib.Omega.{arith}
use Rattle.rows.proofs.load_row.Goals as goal

pub returns : goal.returns
returns c =
    let long : length (take (2 + get_or c.args.src.now 1 0) c.args.src.now) ≡ 2 + get_or c.args.src.now 1 0 = length-take-le _ c.args.src.now c.requires.readable in
    read-front c.args.src.now _ c.requires.readable (rw c.copy_words.ensures (take_at (take (2 + get_or c.args.src.now 1 0) c.args.src.now) _ _ long)) (omega (arith, c.copy_words.auto.part, c.requires.readable, c.requires.src_in_bounds))
