-- The areas of a workspace (01, "One command a call": where tables stand; 02, Item 8). Assumes nothing.
use Rattle.std.specs.Prelude.{ℕ}
use Rattle.expression.specs.Limits.{row_words, areas_for, workspace_need}
use Rattle.checks.specs.declared.frames.Frame.{Frame}

-- those of an expression that has d operands at most at a time, under the limits P and G
abbrev pub frame_of : ℕ → ℕ → ℕ → Frame
frame_of d P G = record { areas = areas_for d; width = row_words G; limit = P; need = workspace_need d P G }
