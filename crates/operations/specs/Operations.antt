-- One command on the tables of a workspace. Assumes nothing.
use Rattle.std.specs.Prelude.{List, [], ◌∷◌, ℕ, ◌≤◌, ◌<◌}
use Rattle.expression.specs.declared.Command.{Command}
use Rattle.expression.specs.Effects.{effect, operands_by, depth_by}
use Rattle.entries.specs.declared.Carry.{Carry}
use Rattle.entries.specs.Carries.{Entry}
use Rattle.maps.specs.Maps.{batched_table}

-- what a relabel or a connect makes of a table
abbrev pub mapped_table : Carry → Command → List Entry → List Entry
mapped_table carry c t = batched_table carry (c ∷ []) t

-- a table more
abbrev pub pushed : List Entry → List (List Entry) → List (List Entry)
pushed x ts = x ∷ ts

-- where the command can act: operands enough, and an area besides scratch for each table that it leaves
abbrev pub Meets : Command → ℕ → ℕ → Type 0
Meets c d t = (operands_by (effect c) ≤ t) × (depth_by (effect c) t < d)
