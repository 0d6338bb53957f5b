-- The fixed limits (01, "The sheet": Limits) and the room that tables need. Assumes nothing.
use Rattle.std.specs.Prelude.{ℕ, ◌+◌, ◌*◌}

-- bytes of an expression
abbrev pub byte_limit : ℕ
byte_limit = 4096

-- bytes of a name (02, Item 1)
abbrev pub name_length : ℕ
name_length = 16

-- copies
abbrev pub atom_limit : ℕ
atom_limit = 63

abbrev pub rule_limit : ℕ
rule_limit = 256

-- parts at a time
abbrev pub depth_limit : ℕ
depth_limit = 8

-- the most that the limits P and G may be
abbrev pub table_limit : ℕ
table_limit = 1024

-- the greatest count that a word of 64 bits holds
abbrev pub count_limit : ℕ
count_limit = 0xffffffffffffffff

-- words of one pair, and of one table of P pairs
abbrev pub row_words : ℕ → ℕ
row_words G = G + 2

abbrev pub area_words : ℕ → ℕ → ℕ
area_words P G = P * row_words G

-- 02, Item 8: the areas of an expression that has d operands at most at a time: one for each, and scratch
abbrev pub areas_for : ℕ → ℕ
areas_for d = d + 1

-- the most that there are
abbrev pub area_count : ℕ
area_count = areas_for depth_limit

abbrev pub workspace_need : ℕ → ℕ → ℕ → ℕ
workspace_need d P G = areas_for d * area_words P G
