-- What was done at once of the commands ahead. Assumes nothing.
use mathlib.Core.Path.{◌≡◌, refl, sym, subst}
use mathlib.Core.List.{List, [], ◌∷◌}
use Prim.Native.Nat.{ℕ, ◌≤◌, ◌<◌}
use native.Mathlib.Omega.{arith}
use lib.ListN.{length, take, length-map}
use lib.Seq.{length-take-le}
use Rattle.lists.specs.Lists.{All}
use Rattle.labels.specs.Labels.{label_count}
use Rattle.expression.specs.declared.Command.{Command}
use Rattle.expression.specs.declared.Counts.{Counts}
use Rattle.semantics.specs.Expressions.{change_newest}
use Rattle.decisions.specs.Decisions.{newest}
use Rattle.batches.specs.Batches.{command_of, commands_of}
use Rattle.entries.specs.declared.Carry.{Carry}
use Rattle.entries.specs.Carries.{Entry}
use Rattle.maps.specs.Maps.{batched_table, Small}
use Rattle.stretches.specs.declared.Stretch.{Stretch}
use Rattle.stretches.specs.Stretches.{Chain, chain_counts}
use Rattle.advances.specs.Advances.{Stands}
use Rattle.ahead.specs.Ahead.{Ahead, stretched}

pub no_words : (ops : List ℕ) (k : ℕ) → k ≡ 0 → commands_of (take k ops) ≡ []
no_words ops k e = rw e

pub some_words : (ops : List ℕ) (k : ℕ) → k ≤ length ops → (k ≡ 0 → ⊥) → 0 < length (commands_of (take k ops))
some_words ops k l h = omega (arith, length-map (take k ops) (command_of label_count), length-take-le k ops l, h)

module _ {carry : Carry} {d w p stop at : ℕ} {n : Counts} {s : List ℕ} {ts : List (List Entry)} {beyond : List ℕ} {r : Stretch} {ws' vals' counts' : List ℕ} (cs : List Command)
    (chain : Chain label_count s stop at r.next cs) (after : r.counts ≡ chain_counts n cs) (small : All (Small carry) (newest ts)) where
  -- nothing
  pub none_done : cs ≡ [] → Stands carry d w p ts beyond ws' vals' counts' → Ahead carry d w p stop at n s ts beyond r ws' vals' counts'
  none_done e h =
      record { done = cs; chain = chain; after = after; none = λ l. e; small = small; stands = subst (λ (x : List Command). Stands carry d w p (stretched carry x ts) beyond ws' vals' counts') (sym e) h }

  -- something, on a table that is there
  pub some-done : 0 < length cs → 1 ≤ length ts → Stands carry d w p (change_newest (batched_table carry cs) ts) beyond ws' vals' counts'
      → Ahead carry d w p stop at n s ts beyond r ws' vals' counts'
  some-done l one h =
      record { done = cs; chain = chain; after = after; none = λ k. absurd (omega (arith, one, k)); small = small; stands = subst (λ (x : List (List Entry)). Stands carry d w p x beyond ws' vals' counts') (sym (some-stretched cs l)) h }
    where
      some-stretched : (ds : List Command) → 0 < length ds → stretched carry ds ts ≡ change_newest (batched_table carry ds) ts
      some-stretched [] k = absurd (omega arith)
      some-stretched (c ∷ ds) k = refl
