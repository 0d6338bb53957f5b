-- The newest table of a workspace, written or not. Assumes nothing.
use mathlib.Core.Path.{◌≡◌, refl, ap, ◌∙◌}
use mathlib.Core.List.{List, ◌++◌}
use Prim.Native.Nat.{ℕ, ◌+◌, ◌-◌, ◌*◌, ◌≤◌, ◌<◌}
use native.Mathlib.Omega.{arith}
use lib.ListN.{length, drop}
use borrow.Author.Tests.{lt-ltb, le-ltb}
use Rattle.expression.specs.Refusals.{report_short}
use Rattle.decisions.specs.Decisions.{newest}
use Rattle.tables.specs.Definitions.{Pair}
use Rattle.rows.specs.Parts.{part}
use Rattle.rows.specs.Rows.{Rows, rows_in}
use Rattle.entries.specs.declared.Carry.TheVariants.{Nothing}
use Rattle.entries.specs.Carries.{Entry}
use Rattle.workspace.specs.Workspace.{pairs_of}
use Rattle.stacks.specs.Stacks.{count_below}
use Rattle.operands.specs.Operands.{Loaded}
use Rattle.operands.proofs.Loads.{Stands as Operand, below, inside, newer-stands, stands-rows, stands-pairs}
use Rattle.advances.specs.Advances.{Stands}
use Rattle.advances.proofs.Advancing.{loaded}
use Rattle.leaves.specs.declared.Tables.{Tables}
use Rattle.reports.specs.Reports.{report_of}
use Rattle.reporting.specs.declared.Report.TheVariants.{Written, Refused}
use Rattle.reporting.specs.Reporting.{table_at, report_answer, report_buffer}

module _ {d w p : ℕ} {us : List (List Entry)} {beyond ws vals counts : List ℕ} (h : Stands Nothing d w p us beyond ws vals counts) (t : ℕ) (e : length us ≡ t) (n : ℕ) (en : n ≡ count_below t 1 counts) where
  load : Loaded Nothing d w p t n (count_below t 2 counts) us beyond ws vals
  load = loaded h t e n (count_below t 2 counts) en refl

  pub many : length (newest us) ≡ n
  many = load.newer

  module _ (some : 1 ≤ t) where
    S : Operand Nothing w p (t - 1) (newest us) ws vals
    S = newer-stands us load some

    pub newest-inside : (t - 1) * (p * w) + p * w ≤ length ws
    newest-inside = inside load (t - 1) (omega (arith, below load))

    pub newest-rows : Rows w p n (part ((t - 1) * (p * w)) (p * w) ws)
    newest-rows = stands-rows S ((t - 1) * (p * w)) n refl many

    pub newest-pairs : rows_in w n (part ((t - 1) * (p * w)) (p * w) ws) ≡ pairs_of (newest us)
    newest-pairs = stands-pairs S ((t - 1) * (p * w)) n refl many

    -- what its rows take is what its report takes
    pub newest-words : (kind : Tables) (words : ℕ) → words ≡ length (report_of kind (rows_in w n (part ((t - 1) * (p * w)) (p * w) ws))) → words ≡ length (report_of kind (pairs_of (newest us)))
    newest-words kind words e = e ∙ ap (λ (x : List Pair). length (report_of kind x)) newest-pairs

-- what is answered and written of a table x
module _ {X : Type 0} (f : List X → List ℕ) (x : List X) (out : List ℕ) (asked words : ℕ) (ew : words ≡ length (f x)) where
  pub too_short : length out < words → (Refused report_short asked ≡ report_answer f (length out) asked (table_at x)) × (out ≡ report_buffer f out (table_at x))
  too_short l = let e = lt-ltb (length out) (length (f x)) (omega (arith, ew)) in (rw e, rw e)

  pub long-enough : (n : ℕ) (out' : List ℕ) → words ≤ length out → length x ≡ n → out' ≡ f x ++ drop (length (f x)) out
      → (Written n words ≡ report_answer f (length out) asked (table_at x)) × (out' ≡ report_buffer f out (table_at x))
  long-enough n out' l en eo = let e = le-ltb (length out) (length (f x)) (omega (arith, ew)) in (rw (e, ew, en), rw e eo)
