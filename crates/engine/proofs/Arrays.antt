-- An array of zeros as areas of values. Assumes nothing.
use mathlib.Core.Path.{◌≡◌, sym, ap, ◌∙◌}
use mathlib.Core.List.{List}
use Prim.Native.Nat.{ℕ, ◌+◌, ◌-◌, ◌≤◌, ◌<◌}
use native.Mathlib.Omega.{arith}
use lib.ListN.{length, take}
use lib.Seq.{take_at}
use Rattle.rows.specs.Parts.{part, zeros}
use Rattle.rows.proofs.Parts.{drop-zeros, zeros-long, zeros-append}
use Rattle.rows.proofs.Tables.{row_within}
use Rattle.entries.specs.declared.Carry.{Carry}
use Rattle.entries.specs.Carries.{in_words}
use Rattle.workspace.specs.Workspace.{values_from, Roomy}

take-zeros : (m n : ℕ) → m ≤ n → take m (zeros n) ≡ zeros m
take-zeros m n l = ap (take m) (ap zeros (let z : n ≡ m + (n - m) = omega arith in z) ∙ sym (zeros-append m (n - m))) ∙ take_at (zeros m) (zeros (n - m)) m (zeros-long m)

part-zeros : (a k n : ℕ) → a + k ≤ n → part a k (zeros n) ≡ zeros k
part-zeros a k n l = ap (take k) (drop-zeros a n (omega arith)) ∙ take-zeros k (n - a) (omega arith)

pub roomy-zeros : (carry : Carry) (d p : ℕ) (vals : List ℕ) → 0 < d → vals ≡ zeros (length vals) → values_from carry p d ≤ length vals → Roomy carry d p vals
roomy-zeros carry d p vals l z m =
    let k : ℕ = in_words carry p in
    let within = row_within (d - 1) d k (omega arith) in
    record { room = m; clear = ap (part (values_from carry p (d - 1)) k) z ∙ part-zeros (values_from carry p (d - 1)) k (length vals) (omega arith) }
