-- `stacks::clear_tables`: the i oldest tables stand.
use mathlib.Core.Path.{◌≡◌}
use mathlib.Core.List.{List}
use Prim.Native.Nat.{ℕ, ◌*◌, ◌-◌, ◌≤◌}
use lib.ListN.{length, drop}
use Rattle.tables.specs.Definitions.{Pair}
use Rattle.workspace.specs.Workspace.{workspace_of}
use Rattle.stacks.specs.Stacks.{Counted}
use Rattle.stacks.proofs.clear_tables.Given as goal

abbrev pub invariant-loop-i : goal.invariant-loop-i
invariant-loop-i l = record {
  counted : l.i ≤ length l.counts;
  room : l.i * (l.p * l.w) ≤ length l.ws;
  left : (d : ℕ) (ts : List (List Pair)) (beyond : List ℕ) → Counted d l.w l.p l.t ts beyond l.counts l.initial.ws → l.ws ≡ workspace_of d l.w l.p (drop (l.t - l.i) ts) beyond;
}
