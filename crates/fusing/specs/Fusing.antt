-- The halves of a link, and the marks that triples may have after a command, over K labels. Assumes nothing.
use Rattle.std.specs.Prelude.{ℕ, zero, suc}
use Rattle.std.specs.Int.Bits.{bit_or}
use Rattle.expression.specs.declared.Command.{Command}
use Rattle.expression.specs.declared.Command.TheVariants.{Atom, Rule, Union, Relabel, Connect, Name}
use Rattle.tables.specs.Triples.{mark_u, relabel_triple}

-- where they had none but those of m before it; a connect puts none in
unfoldable pub marks_after : ℕ → Command → ℕ → ℕ
marks_after K (Rule g) m = bit_or m (mark_u K g)
marks_after K (Relabel i j) m = relabel_triple K i j m
marks_after K (Connect k i j) m = m
marks_after K (Atom g) m = m
marks_after K Union m = m
marks_after K (Name at) m = m

-- a link, which has another half (02, Item 11)
abbrev pub IsLink : Command → Type 0
IsLink (Rule g) = ⊥
IsLink (Relabel i j) = ⊥
IsLink (Connect k i j) = Unit {0}
IsLink (Atom g) = ⊥
IsLink Union = ⊥
IsLink (Name at) = ⊥

-- the other half of a link; else the command itself
unfoldable pub turned : Command → Command
turned (Rule g) = Rule g
turned (Relabel i j) = Relabel i j
turned (Connect k i j) = Connect k j i
turned (Atom g) = Atom g
turned Union = Union
turned (Name at) = Name at

-- the first half; where back is not 0, the other one
abbrev pub half_of : ℕ → Command → Command
half_of zero c = c
half_of (suc n) c = turned c
