-- What the test of a record finds, by its parts. Over K labels. Assumes nothing.
use Rattle.std.specs.Prelude.{Some, None}
use mathlib.Core.Path.{◌≡◌, ◌∙◌}
use mathlib.Core.Bool.{Bool, true, false, cond, ◌&&◌}
use mathlib.Core.List.{List}
use Prim.Native.Nat.{ℕ, ◌*◌}
use lib.ListN.{take, drop}
use borrow.Author.Tests.{eq-eqb, ne_eqb}
use Rattle.expression.specs.declared.Counts.{Counts}
use Rattle.expression.specs.Limits.{row_words, area_words, areas_for}
use Rattle.expression.specs.Checks.{Request, depth_of}
use Rattle.expression.specs.Places.{locate}
use Rattle.forms.specs.Forms.{are_zero, are_tables}
use Rattle.records.specs.declared.Record.{Record}
use Rattle.records.specs.Steps.{is_formed, formed_at}

module _ (K : ℕ) (a : Request) (r : Record) (ws : List ℕ) where
  pub unlocated : locate K a.bytes r.place ≡ None → formed_at K a r ws ≡ None
  unfolding formed_at
  unlocated e = rw (e, formed_at)

  module _ {n : Counts} (e : locate K a.bytes r.place ≡ Some n) where
    pub miscounted : (r.tables ≡ n.depth → ⊥) → formed_at K a r ws ≡ None
    unfolding formed_at is_formed
    miscounted l = rw (e, formed_at, ne_eqb r.tables n.depth l)

    -- in areas for the operands of the whole expression
    module _ (l : r.tables ≡ n.depth) (b : Bool) {d : ℕ} (sized : d ≡ areas_for (depth_of K a.bytes))
        (f : b ≡ (are_zero (drop r.tables r.counts) && are_tables K (row_words a.subset_limit) a.pair_limit (take r.tables r.counts) (take (d * area_words a.pair_limit a.subset_limit) ws))) where
      formed-by : formed_at K a r ws ≡ cond b (Some n) None
      unfolding formed_at is_formed
      formed-by = rw (e, formed_at, eq-eqb r.tables n.depth l, ← sized, ← f)

      pub malformed : b ≡ false → formed_at K a r ws ≡ None
      malformed g = formed-by ∙ rw g

      pub well-formed : b ≡ true → formed_at K a r ws ≡ Some n
      well-formed g = formed-by ∙ rw g
