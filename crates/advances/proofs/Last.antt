-- The one table that all commands leave. Assumes nothing.
use mathlib.Core.Path.{◌≡◌, refl, sym, ap, ◌∙◌}
use mathlib.Core.List.{List}
use Prim.Native.Nat.{ℕ, ◌-◌, ◌*◌, ◌≤◌}
use native.Mathlib.Nat.{mul-le-mul_right}
use native.Mathlib.Omega.{arith}
use lib.ListN.{length}
use Rattle.decisions.specs.Decisions.{newest}
use Rattle.rows.specs.Parts.{part}
use Rattle.rows.specs.Rows.{Rows}
use Rattle.entries.specs.declared.Carry.{Carry}
use Rattle.entries.specs.Carries.{Entry, in_words, Beside}
use Rattle.entries.proofs.Keeping.{in-rising}
use Rattle.making.specs.Making.{entries_at}
use Rattle.workspace.specs.Workspace.{values_from}
use Rattle.stacks.specs.Stacks.{count_below}
use Rattle.operands.proofs.Loads.{Stands as Operand, newer-stands, stands-rows, stands-few, stands-entries}
use Rattle.advances.specs.Advances.{Stands}
use Rattle.advances.proofs.Advancing.{loaded}

module _ {carry : Carry} {d w p : ℕ} {us : List (List Entry)} {beyond ws vals counts : List ℕ} (h : Stands carry d w p us beyond ws vals counts) (t : ℕ) (e : length us ≡ t) (one : t ≡ 1)
    (n : ℕ) (en : n ≡ count_below t 1 counts) where
  S : Operand carry w p (t - 1) (newest us) ws vals
  S = newer-stands us (loaded h t e n (count_below t 2 counts) en refl) (omega (arith, one))

  first-area : 0 ≡ (t - 1) * (p * w)
  first-area = let z : t - 1 ≡ 0 = omega (arith, one) in sym (ap (λ (i : ℕ). i * (p * w)) z ∙ omega arith)

  many : length (newest us) ≡ n
  many = (loaded h t e n (count_below t 2 counts) en refl).newer

  pub last-rows : Rows w p n (part 0 (p * w) ws)
  last-rows = stands-rows S 0 n first-area many

  first-values : 0 ≡ values_from carry p (t - 1)
  first-values = let z : t - 1 ≡ 0 = omega (arith, one) in sym (ap (λ (i : ℕ). i * in_words carry p) z ∙ omega arith)

  pub last-beside : Beside carry n vals
  last-beside =
      let z = mul-le-mul_right (in_words carry p) (let l : 1 ≤ d = omega (arith, h.holds.free) in l) in
      omega (arith, h.holds.roomy.room, in-rising carry n p (stands-few S 0 n first-area many), z)

  pub last-entries : entries_at carry w p 0 n vals ws ≡ newest us
  last-entries = stands-entries S 0 n first-area many 0 first-values
