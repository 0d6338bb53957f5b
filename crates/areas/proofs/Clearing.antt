-- An area of n rows, cleared from the last one down: the first i stand. Assumes nothing.
use mathlib.Core.Path.{◌≡◌, sym, ap, ◌∙◌}
use mathlib.Core.List.{List}
use Prim.Native.Nat.{ℕ, ◌+◌, ◌-◌, ◌*◌, ◌≤◌, ◌<◌}
use native.Mathlib.Omega.{arith}
use lib.ListN.{length, take}
use lib.Seq.{take_all}
use Rattle.rows.specs.Parts.{put, zeros}
use Rattle.rows.specs.Rows.{table_of, rows_in, IsRow, Rows, slot}
use Rattle.rows.proofs.Tables.{row_within, length-rows_in, left-long, left-row, left_less}

module _ {w p n : ℕ} {area₀ : List ℕ} (t : Rows w p n area₀) where
  -- all stand
  pub all-stand : area₀ ≡ table_of w p (take n (rows_in w n area₀))
  all-stand = t.words ∙ ap (table_of w p) (sym (take_all n (rows_in w n area₀) (omega (arith, length-rows_in w n area₀))))

  module _ {i : ℕ} {area : List ℕ} (few : i ≤ n) (some : 0 < i) (e : area ≡ table_of w p (take i (rows_in w n area₀))) where
    -- the next to be cleared
    pub next_within : (i - 1) * w + w ≤ length area
    next_within = omega (arith, row_within (i - 1) p w (omega (arith, t.room)), left-long w p i (rows_in w n area₀) area t.fit (omega (arith, length-rows_in w n area₀, t.room)) (omega (arith, length-rows_in w n area₀)) e)

    pub next-row : 2 ≤ w → IsRow w (slot w (i - 1) area)
    next-row g = left-row w p i (rows_in w n area₀) area t.fit (omega (arith, length-rows_in w n area₀, t.room)) (omega (arith, length-rows_in w n area₀)) e (i - 1) (omega (arith, t.room)) g

    -- and once it is
    pub next-cleared : put ((i - 1) * w) w area (zeros w) ≡ table_of w p (take (i - 1) (rows_in w n area₀))
    next-cleared = left_less w p i (rows_in w n area₀) area t.fit (omega (arith, length-rows_in w n area₀, t.room)) (omega (arith, length-rows_in w n area₀)) e (i - 1) (omega arith)
