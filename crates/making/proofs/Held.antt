-- The entries that an area of rows holds, one by one. Assumes nothing.
use mathlib.Core.Path.{◌≡◌, sym, ap, ◌∙◌}
use mathlib.Core.List.{List, [], ◌∷◌}
use Prim.Native.Nat.{ℕ, ◌+◌, ◌*◌, ◌≤◌, ◌<◌}
use native.Mathlib.Numerals.{add-one}
use native.Mathlib.Omega.{arith}
use lib.ListN.{length, drop, get_or, drop_of_length-le}
use lib.Seq.{drop-cons}
use Rattle.values.specs.declared.Value.{Value}
use Rattle.values.specs.Values.{no_value}
use Rattle.candidates.specs.Candidates.{pair_of, Readable}
use Rattle.rows.specs.Parts.{part}
use Rattle.rows.specs.Rows.{rows_in, Rows}
use Rattle.rows.proofs.Tables.{length-rows_in, rows_in-at, slot_is, readable-slot}
use Rattle.entries.specs.declared.Carry.{Carry}
use Rattle.entries.specs.Carries.{values_in, Beside, Entry}
use Rattle.entries.proofs.Entering.{none, length-with, with_at}
use Rattle.entries.proofs.Keeping.{values-long}
use Rattle.making.specs.Making.{entry_at, entries_at}

-- the n entries of the area at word b
module _ (carry : Carry) (w p b n : ℕ) (others wsₛ : List ℕ) (within : b + p * w ≤ length wsₛ) (t : Rows w p n (part b (p * w) wsₛ)) (beside : Beside carry n others) where
  abbrev area : List ℕ
  area = part b (p * w) wsₛ

  abbrev bs : List Entry
  bs = entries_at carry w p b n others wsₛ

  pub entries-long : length bs ≡ n
  entries-long = length-with (rows_in w n area) (values_in carry n others) ∙ length-rows_in w n area

  pub readable_row : (j : ℕ) → j < n → Readable (part (b + j * w) w wsₛ)
  readable_row j l = readable-slot w p b n wsₛ within t j l

  -- the j-th one, where its row is as it was
  pub entry-at : (j : ℕ) → j < n → (v : Value) → v ≡ get_or (values_in carry n others) j no_value → (ws : List ℕ) → part (b + j * w) w ws ≡ part (b + j * w) w wsₛ → get_or bs j none ≡ entry_at w (b + j * w) v ws
  entry-at j l v ev ws e =
      let k = length-rows_in w n area in
      with_at (rows_in w n area) (values_in carry n others) j (values-long carry n others beside ∙ sym k) (omega (arith, k))
      ∙ (λ i. record { item = (rows_in-at w n area j l ∙ ap pair_of (slot_is w p b n wsₛ within t j l ∙ sym e)) i; value = sym ev i })

  pub entries_from : (j : ℕ) → j < n → drop j bs ≡ get_or bs j none ∷ drop (j + 1) bs
  entries_from j l = rw (add-one j) (drop-cons bs j none (omega (arith, entries-long)))

  pub none_left : (j : ℕ) → j ≤ n → (j < n → ⊥) → drop j bs ≡ []
  none_left j l g = drop_of_length-le bs {i = j} (omega (arith, entries-long))
