-- What is asked of either kind of tables, with values that a report drops. Assumes nothing.
use Rattle.std.specs.Prelude.{ℕ}
use Rattle.expression.specs.Checks.{Request}
use Rattle.decisions.specs.Decisions.{pairs_fault}
use Rattle.checks.specs.declared.frames.Frame.{Frame}
use Rattle.entries.specs.declared.Carry.TheVariants.{Nothing}
use Rattle.entries.specs.Carries.{Entry}
use Rattle.leaves.specs.declared.Tables.{Tables}
use Rattle.leaves.specs.declared.Tables.TheVariants.{Plain, Pairs}
use Rattle.leaves.specs.Leaves.{table_algebra}
use Rattle.workspace.specs.Workspace.{pairs_of}
use Rattle.reporting.specs.Reporting.{Asked, asked_table}

-- a plain row is a triple and a count
abbrev pub narrowed : Tables → Frame → Frame
narrowed Plain f = record { areas = f.areas; width = 2; limit = f.limit; need = f.need }
narrowed Pairs f = f

-- plain tables have no subsets
abbrev pub subsets_of : Tables → ℕ → ℕ
subsets_of Plain g = 0
subsets_of Pairs g = g

-- the table of a kind after the command at an offset
abbrev pub entries_asked : Tables → ℕ → Request → ℕ → Asked Entry
entries_asked kind K a at = asked_table (table_algebra kind Nothing) (λ t. pairs_fault a.pair_limit (subsets_of kind a.subset_limit) (pairs_of t)) K a at
