-- Commands of an expression that may be done at once on the newest table: relabels, connects, and a rule with the union behind it. Assumes nothing.
use Rattle.std.specs.Prelude.{Option, Some, None, ◌≡◌, List, [], ◌∷◌, ℕ, ◌<◌}
use Rattle.expression.specs.declared.Command.{Command}
use Rattle.expression.specs.declared.Command.TheVariants.{Union}
use Rattle.expression.specs.declared.Leaf.TheVariants as leaf
use Rattle.expression.specs.declared.Effect.{Effect}
use Rattle.expression.specs.declared.Effect.TheVariants.{Push, Unite, Change, Pass}
use Rattle.expression.specs.declared.Counts.{Counts}
use Rattle.expression.specs.Commands.{Got, read_at}
use Rattle.expression.specs.Effects.{effect}
use Rattle.expression.specs.Reading.{counted_by, capped}

module _ (K : ℕ) (s : List ℕ) (stop : ℕ) where
  -- commands one after the other that pass tables by (02, Item 1: names), each starts before `stop`
  unfoldable pub Passing : ℕ → ℕ → List Command → Type 0
  Passing at end [] = at ≡ end
  Passing at end (c ∷ cs) = (at < stop) × (effect c ≡ Pass) × ((next : ℕ) × (read_at K s at ≡ Got c next) × Passing next end cs)

  -- at an offset stands a command c of such an effect, and `next` is the offset after it; a rule's union starts before `stop`, behind nothing but such
  abbrev pub SpeltAs : Effect → ℕ → Command → ℕ → Type 0
  SpeltAs (Push leaf.Atom) at c next = ⊥
  SpeltAs (Push leaf.Rule) at c next =
      (mid : ℕ) × (read_at K s at ≡ Got c mid) × ((cs : List Command) × (end : ℕ) × Passing mid end cs × (end < stop) × (read_at K s end ≡ Got Union next))
  SpeltAs Unite at c next = ⊥
  SpeltAs Change at c next = read_at K s at ≡ Got c next
  SpeltAs Pass at c next = ⊥

  abbrev pub Spelt : ℕ → Command → ℕ → Type 0
  Spelt at c next = SpeltAs (effect c) at c next

  -- such a command and the offset after it, if there is one
  abbrev pub SpeltBy : ℕ → Option (Command × ℕ) → Type 0
  SpeltBy at (Some (c, next)) = Spelt at c next
  SpeltBy at None = Unit {0}

  -- such commands one after the other, each starts before `stop`
  unfoldable pub Chain : ℕ → ℕ → List Command → Type 0
  Chain at end [] = at ≡ end
  Chain at end (c ∷ cs) = (at < stop) × ((next : ℕ) × Spelt at c next × Chain next end cs)

-- a rule c before a command of such an effect, which ends at `next`
abbrev pub closed_by : Command → ℕ → Effect → Option (Command × ℕ)
closed_by c next (Push l) = None
closed_by c next Unite = Some (c, next)
closed_by c next Change = None
closed_by c next Pass = None

-- what they leave of the counts: a leaf has its union behind it
abbrev pub joined_by : Counts → Effect → Counts
joined_by n (Push l) = capped (counted_by (capped (counted_by n (Push l))) Unite)
joined_by n Unite = capped (counted_by n Unite)
joined_by n Change = capped (counted_by n Change)
joined_by n Pass = capped (counted_by n Pass)

unfoldable pub joined_counts : Counts → Command → Counts
joined_counts n c = joined_by n (effect c)

unfoldable pub chain_counts : Counts → List Command → Counts
chain_counts n [] = n
chain_counts n (c ∷ cs) = chain_counts (joined_counts n c) cs
