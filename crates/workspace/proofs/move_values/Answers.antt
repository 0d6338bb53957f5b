-- `workspace::move_values`: where the areas begin, and how many words r values take.
use Prim.Native.Nat.{◌-◌}
use Rattle.rows.proofs.Tables.{row_within}
use Rattle.entries.specs.Carries.{in_words}
use Rattle.entries.proofs.Keeping.{in-rising}
use native.Mathlib.Omega.{arith}
use Rattle.workspace.proofs.move_values.Goals as goal

pub move_words-requires : goal.move_words-requires
move_words-requires c =
    let k = in_words c.args.carry c.args.p in
    let few = in-rising c.args.carry c.args.r c.args.p c.requires.0 in
    let apart = row_within c.args.i (c.args.d - 1) k (omega (arith, c.requires.1)) in
    let within = row_within (c.args.d - 1) c.args.d k (omega (arith, c.requires.1)) in
    rw (c.words_of-n.ensures, c.words_of-k.ensures) (omega (arith, few, apart), omega (arith, few, within, c.requires.2))
