-- How many labels there were before 02, Item 12, and a triple over K labels laid out for L. Assumes nothing.
use Rattle.std.specs.Prelude.{ℕ, ◌+◌, ◌*◌, ◌/◌, ◌%◌, ◌^◌}

-- 01: a group was 0 to 7
abbrev pub labels_before : ℕ
labels_before = 8

-- the same three sets: T, then F, then U
unfoldable pub laid_out : ℕ → ℕ → ℕ → ℕ
laid_out K L t = t % 2 ^ K + (t / 2 ^ K % 2 ^ K) * 2 ^ L + t / 2 ^ (2 * K) * 2 ^ (2 * L)
