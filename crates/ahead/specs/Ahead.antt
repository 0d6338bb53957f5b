-- Commands that stand together, done at once on the newest table. Assumes nothing.
use Rattle.std.specs.Prelude.{◌≡◌, List, [], ◌∷◌, ℕ, length}
use Rattle.lists.specs.Lists.{All}
use Rattle.labels.specs.Labels.{label_count}
use Rattle.expression.specs.declared.Command.{Command}
use Rattle.expression.specs.declared.Counts.{Counts}
use Rattle.semantics.specs.Expressions.{change_newest}
use Rattle.decisions.specs.Decisions.{newest}
use Rattle.entries.specs.declared.Carry.{Carry}
use Rattle.entries.specs.Carries.{Entry}
use Rattle.maps.specs.Maps.{batched_table, Small}
use Rattle.stretches.specs.declared.Stretch.{Stretch}
use Rattle.stretches.specs.Stretches.{Chain, chain_counts}
use Rattle.advances.specs.Advances.{Stands}

-- the stack after commands that are done at once on the newest table
abbrev pub stretched : Carry → List Command → List (List Entry) → List (List Entry)
stretched carry [] ts = ts
stretched carry (c ∷ cs) ts = change_newest (batched_table carry (c ∷ cs)) ts

-- the commands from an offset on, after counts n, done at once on a stack: how far they go, and what stands then
pub record Ahead (carry : Carry) (d w p stop at : ℕ) (n : Counts) (s : List ℕ) (ts : List (List Entry)) (beyond : List ℕ) (r : Stretch) (ws' vals' counts' : List ℕ) : Type 0 where
  pub done : List Command
  pub chain : Chain label_count s stop at r.next done
  pub after : r.counts ≡ chain_counts n done
  pub none : length ts ≡ 0 → done ≡ []
  pub small : All (Small carry) (newest ts)
  pub stands : Stands carry d w p (stretched carry done ts) beyond ws' vals' counts'
