-- A command on a workspace that holds a stack of tables: the entries of an operand, and the stack with the table that was made. Assumes nothing.
use mathlib.Core.Path.{◌≡◌, sym, ap, ap₂, ◌∙◌}
use mathlib.Core.List.{List, ◌∷◌, map}
use Prim.Native.Nat.{ℕ, suc, ◌+◌, ◌-◌, ◌*◌, ◌≤◌, ◌<◌}
use native.Mathlib.Omega.{arith}
use lib.ListN.{length, length-map}
use Rattle.lists.specs.Lists.{All}
use Rattle.lists.specs.Sorted.{compare_numbers, Rising}
use Rattle.lists.proofs.Members.{all_map}
use Rattle.tables.specs.Definitions.{subsets}
use Rattle.rows.specs.Parts.{part, put}
use Rattle.rows.specs.Rows.{Rows, rows_in, table_of}
use Rattle.rows.proofs.Tables.{rows_of}
use Rattle.entries.specs.declared.Carry.{Carry}
use Rattle.entries.specs.Carries.{Entry, values_in, value_area}
use Rattle.entries.specs.Entries.{with_values}
use Rattle.entries.proofs.Keeping.{kept-beside, values-long}
use Rattle.making.specs.Making.{table_of_all, Finished, entries_at}
use Rattle.workspace.specs.Workspace.{workspace_of, Sound, pairs_of, values_of, values_from, HeldValues, Roomy, Holds, Acted}
use Rattle.workspace.proofs.Values.{Moved, moved_new, moved-below, moved-roomy, with-both, values-with}
use Rattle.workspace.proofs.Faults.{fault-is, table-sound}

-- all tables of a stack can be kept
pub sound-pairs : (w p : ℕ) (ts : List (List Entry)) → All (λ t. Sound w p (pairs_of t)) ts → All (Sound w p) (map pairs_of ts)
sound-pairs w p ts s = all_map (λ (t : List Entry). Sound w p (pairs_of t)) (Sound w p) pairs_of (λ t h. h) ts s

-- an operand: its area holds its pairs, its values stand beside
module _ (carry : Carry) (w p at n : ℕ) (t : List Entry) (ws old : List ℕ) (s : Sound w p (pairs_of t)) (area : part at (p * w) ws ≡ table_of w p (pairs_of t)) (many : length t ≡ n) where
  operand : Rows w p n (part at (p * w) ws) × (rows_in w n (part at (p * w) ws) ≡ pairs_of t)
  operand =
      let l = length-map t (λ (x : Entry). x.item) in
      rows_of w p n (pairs_of t) (part at (p * w) ws) area (l ∙ many) (omega (arith, l, s.few)) s.fit

  pub operand_rows : Rows w p n (part at (p * w) ws)
  operand_rows = operand.0

  pub operand-pairs : rows_in w n (part at (p * w) ws) ≡ pairs_of t
  operand-pairs = operand.1

  pub operand-entries : values_in carry n old ≡ values_of t → entries_at carry w p at n old ws ≡ t
  operand-entries e = ap₂ with_values operand-pairs e ∙ with-both t

-- the stack with the table that was made of the candidates
module _ {carry : Carry} {d w p at : ℕ} {cands : List Entry} {r : ℕ} {ws cleared ws' vals made vals' : List ℕ} (ts : List (List Entry)) (m : Moved carry d p (length ts) r vals made vals') (wide : 2 ≤ w)
    (h : Finished carry w p at cands r ws cleared ws' (value_area carry p (values_from carry p (d - 1)) made)) (beyond : List ℕ) (filled : All (λ x. 0 < length x.item) cands) (ordered : All (λ x. Rising compare_numbers (subsets x.item)) cands)
    (sound : All (λ t. Sound w p (pairs_of t)) ts) (free : suc (length ts) < d) (held : HeldValues carry p ts vals) (roomy : Roomy carry d p vals)
    (place : Sound w p (pairs_of (table_of_all carry cands)) → put at (p * w) cleared (table_of w p (pairs_of (table_of_all carry cands))) ≡ workspace_of d w p (map pairs_of (table_of_all carry cands ∷ ts)) beyond) where
  abbrev T : List Entry
  T = table_of_all carry cands

  abbrev new : List ℕ
  new = value_area carry p (values_from carry p (d - 1)) made

  new-values : r ≤ p → values_in carry r new ≡ values_of T
  new-values l =
      let e = values-long carry r new (kept-beside carry p r new l (h.kept l)) in
      sym (values-with (pairs_of T) (values_in carry r new) (e ∙ sym (length-map T (λ (x : Entry). x.item) ∙ h.count l))) ∙ ap values_of (h.values l)

  holding : r ≤ p → Holds carry d w p (T ∷ ts) beyond ws' vals'
  holding l =
      let below : length ts + 1 < d = omega arith in
      let s = table-sound wide h l ordered in
      record {
        words = h.table l ∙ place s;
        sound = (s, sound);
        free = free;
        values = (rw (h.count l) (moved_new m roomy below l ∙ new-values l), moved-below m roomy below l w ts (omega arith) sound held);
        roomy = moved-roomy m roomy below l (h.kept l);
      }

  pub acted : Acted carry d w p (T ∷ ts) beyond r ws ws' vals'
  acted = record {
    most = h.most;
    fault = fault-is wide h filled;
    count = h.count;
    holds = holding;
    same = h.stays;
  }
