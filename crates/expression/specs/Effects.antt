-- What each command does to the stack (01, "The sheet"; 02, Item 1), said once: counts, depth and tests 9 to 11 go by it. Assumes nothing.
use Rattle.std.specs.Prelude.{ℕ, ◌+◌, ◌-◌}
use Rattle.expression.specs.declared.Command.{Command}
use Rattle.expression.specs.declared.Command.TheVariants.{Atom, Rule, Union, Relabel, Connect, Name}
use Rattle.expression.specs.declared.Leaf.TheVariants as leaf
use Rattle.expression.specs.declared.Effect.{Effect}
use Rattle.expression.specs.declared.Effect.TheVariants.{Push, Unite, Change, Pass}

unfoldable pub effect : Command → Effect
effect (Atom g) = Push leaf.Atom
effect (Rule g) = Push leaf.Rule
effect Union = Unite
effect (Relabel i j) = Change
effect (Connect k i j) = Change
effect (Name at) = Pass

-- how many operands there must be
abbrev pub operands_by : Effect → ℕ
operands_by (Push l) = 0
operands_by Unite = 2
operands_by Change = 1
operands_by Pass = 1

-- how many there are then, of n
abbrev pub depth_by : Effect → ℕ → ℕ
depth_by (Push l) n = n + 1
depth_by Unite n = n - 1
depth_by Change n = n
depth_by Pass n = n

-- how many atoms it brings, and how many rules
abbrev pub atoms_by : Effect → ℕ
atoms_by (Push leaf.Atom) = 1
atoms_by (Push leaf.Rule) = 0
atoms_by Unite = 0
atoms_by Change = 0
atoms_by Pass = 0

abbrev pub rules_by : Effect → ℕ
rules_by (Push leaf.Atom) = 0
rules_by (Push leaf.Rule) = 1
rules_by Unite = 0
rules_by Change = 0
rules_by Pass = 0
