-- Labels (01: groups). Assumes nothing.
use Rattle.std.specs.Prelude.{cond, ℕ, eqb}

-- 02, Item 12: a group is 0 to 9. Every other definition and fact takes the number of labels as a parameter.
abbrev pub label_count : ℕ
label_count = 10

-- what had label i has label j
unfoldable pub rename : ℕ → ℕ → ℕ → ℕ
rename i j g = cond (eqb g i) j g
