-- The walk to the end of the bytes is the walk of the definitions. Assumes nothing.
use mathlib.Core.Path.{◌≡◌, refl, sym, ap, ◌∙◌}
use mathlib.Core.Bool.{Bool, true, false}
use mathlib.Core.List.{List, [], ◌∷◌}
use Prim.Native.Nat.{ℕ, zero, suc, ◌+◌, ◌-◌}
use native.Mathlib.Omega.{arith}
use lib.Dec.{ltb}
use lib.ListN.{length}
use borrow.Author.Tests.{ltb-true, ltb-false}
use Rattle.labels.specs.Labels.{label_count}
use Rattle.expression.specs.declared.Counts.{Counts}
use Rattle.expression.specs.Reading.{Placed, whole, read_from, reading, no_counts}
use Rattle.expression.specs.Checks.{Request}
use Rattle.expression.proofs.Readings.{from_end, whole-taken}
use Rattle.expression.proofs.Checks.{Joined}
use Rattle.decisions.specs.Decisions.{commands_in, assumed}
use Rattle.decisions.proofs.Carried.{valued_walk}
use Rattle.entries.specs.declared.Carry.{Carry}
use Rattle.entries.specs.Carries.{carried_by}
use Rattle.leaves.specs.declared.Tables.{Tables}
use Rattle.leaves.specs.Leaves.{algebra_of, table_algebra}
use Rattle.walks.specs.Walks.{before, walk_to}
use Rattle.walks.proofs.Before.{before-nil, before_more}

-- every command starts before the end
before-all : (K k : ℕ) (s : List ℕ) (at : ℕ) (n : Counts) (cs : List Placed) (z : Counts) → read_from K k s at n ≡ whole cs z → before (length s) cs ≡ cs
unfolding read_from
before-all K zero s at n cs z h = let e : cs ≡ [] = cc in ap (before (length s)) e ∙ before-nil (length s) ∙ sym e
before-all K (suc k) s at n cs z h = step (ltb at (length s)) refl (λ next m ds g. before-all K k s next m ds z g)
  where
    step : (b : Bool) → ltb at (length s) ≡ b → ((next : ℕ) (m : Counts) (ds : List Placed) → read_from K k s next m ≡ whole ds z → before (length s) ds ≡ ds) → before (length s) cs ≡ cs
    step true e rec =
        let l = ltb-true at (length s) e in
        let t = whole-taken K k s at n cs z l h in
        ap (before (length s)) t.listed ∙ before_more (length s) at t.command t.rest l
        ∙ ap (λ (xs : List Placed). record { place = at; command = t.command } ∷ xs) (rec t.next _ t.rest t.after) ∙ sym t.listed
    step false e rec = let f : cs ≡ [] = cc (sym (from_end K (suc k) s at n (ltb-false at (length s) e)) ∙ h) in ap (before (length s)) f ∙ before-nil (length s) ∙ sym f

module _ {z : Counts} (a : Request) (j : Joined label_count a.bytes z) where
  all-before : before (length a.bytes) (commands_in (reading label_count a.bytes)) ≡ commands_in (reading label_count a.bytes)
  unfolding reading commands_in
  all-before = rw j.read (before-all label_count (length a.bytes) a.bytes 0 no_counts j.placed z j.read)

  -- with subset limit G the rows have G + 2 words
  pub whole-walk : (kind : Tables) (carry : Carry) (w G : ℕ) → w ≡ G + 2
      → walk_to kind carry (assumed a) w a.pair_limit (length a.bytes) a.bytes ≡ valued_walk (algebra_of kind label_count) (carried_by carry) G label_count a
  unfolding walk_to table_algebra
  whole-walk kind carry w G e = rw (all-before, let x : w - 2 ≡ G = omega (arith, e) in x)
