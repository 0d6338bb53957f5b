-- One command from bytes (01, "The sheet"; 02, Item 1: 51, Item 9: 13), over K labels. Assumes nothing.
use Rattle.std.specs.Prelude.{Bool, cond, not, ◌&&◌, ◌||◌, List, ℕ, ◌+◌, ◌-◌, ◌%◌, ◌<◌, eqb, ltb, leb, length, get_or}
use Rattle.expression.specs.declared.Kind.TheVariants.{Head, Positive, Negative}
use Rattle.expression.specs.declared.Role.{Role}
use Rattle.expression.specs.declared.Role.TheVariants.{Derived, External}
use Rattle.expression.specs.declared.Command.{Command}
use Rattle.expression.specs.declared.Command.TheVariants.{Atom, Rule, Union, Relabel, Connect, Name}
use Rattle.expression.specs.Limits.{name_length}
use Rattle.expression.specs.Refusals.{unknown, cut, group, same}

-- what stands at an offset: a command and the offset after it, or the number of a refusal
pub data Read : Type 0 where
  Got : Command → ℕ → Read
  Fault : ℕ → Read

-- 11 g, 12 g and 13 g; 31, 41, 42, 43 then i j
unfoldable pub one_operand : ℕ → Bool
one_operand b = eqb b 0x11 || eqb b 0x12 || eqb b 0x13

unfoldable pub two_operands : ℕ → Bool
two_operands b = eqb b 0x31 || eqb b 0x41 || eqb b 0x42 || eqb b 0x43

-- 51, then a name
abbrev pub is_name : ℕ → Bool
is_name b = eqb b 0x51

unfoldable pub is_command : ℕ → Bool
is_command b = eqb b 0x21 || is_name b || one_operand b || two_operands b

unfoldable pub operand_count : ℕ → ℕ
operand_count b = cond (two_operands b) 2 (cond (one_operand b) 1 0)

-- how many bytes a command has behind its own: operands, or a name
abbrev pub tail_length : ℕ → ℕ
tail_length b = cond (is_name b) name_length (operand_count b)

-- an atom of a role and of label x
abbrev pub atom_of : Role → ℕ → Command
atom_of r x = Atom (record { label = x; role = r })

-- a command by its byte and operands
unfoldable pub command_of : ℕ → ℕ → ℕ → Command
command_of b x y =
    cond (eqb b 0x11) (atom_of Derived x)
    (cond (eqb b 0x12) (Rule x)
    (cond (eqb b 0x13) (atom_of External x)
    (cond (eqb b 0x21) Union
    (cond (eqb b 0x31) (Relabel x y)
    (cond (eqb b 0x41) (Connect Head x y)
    (cond (eqb b 0x42) (Connect Positive x y)
    (Connect Negative x y)))))))

-- where the bytes of a name begin, behind its command byte, in a word of 32 bits: an expression too long for that is refused by 1
abbrev pub name_start : ℕ → ℕ
name_start at = (at + 1) % 0x100000000

-- with command byte b, n bytes from it to the end, and the operands x and y: tests 5 to 8 in order, else the command and the offset after it. The
-- bytes of a name are no operands: they may be anything
unfoldable pub read_command : ℕ → ℕ → ℕ → ℕ → ℕ → ℕ → Read
read_command K at n b x y =
    cond (not (is_command b)) (Fault unknown)
    (cond (ltb n (1 + tail_length b)) (Fault cut)
    (cond ((one_operand b || two_operands b) && leb K x || two_operands b && leb K y) (Fault group)
    (cond (two_operands b && eqb x y) (Fault same)
    (Got (cond (is_name b) (Name (name_start at)) (command_of b x y)) (at + (1 + tail_length b))))))

-- the command at an offset; past the end there is none
unfoldable pub read_at : ℕ → List ℕ → ℕ → Read
read_at K s at = read_command K at (length s - at) (get_or s at 0) (get_or s (at + 1) 0) (get_or s (at + 2) 0)

-- the labels of a command are below K
unfoldable pub Suits : ℕ → Command → Type 0
Suits K (Atom a) = a.label < K
Suits K (Rule g) = g < K
Suits K Union = Unit {0}
Suits K (Relabel i j) = (i < K) × (j < K)
Suits K (Connect k i j) = (i < K) × (j < K)
Suits K (Name at) = Unit {0}

-- the number of the refusal; 0 for a command
abbrev pub refusal_of : Read → ℕ
refusal_of (Got c next) = 0
refusal_of (Fault f) = f
