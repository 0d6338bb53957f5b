-- The table of all candidates: what holds of the candidates holds of it and the other way; 15 and 16 by the count that a command answers. Assumes nothing.
use mathlib.Core.Path.{◌≡◌, refl, sym, subst}
use mathlib.Core.Bool.{Bool, true, false, cond}
use mathlib.Core.List.{List, [], ◌∷◌}
use Prim.Native.Nat.{ℕ, ◌+◌, ◌-◌, ◌≤◌, ◌<◌}
use native.Mathlib.Omega.{arith}
use lib.Dec.{ltb}
use lib.ListN.{length, length-map}
use borrow.Author.Tests.{ltb-true, ltb-false, lt-ltb, le-ltb}
use Rattle.lists.specs.Lists.{All, some}
use Rattle.lists.specs.Sorted.{compare_numbers, compare_lists, second, Rising, canon}
use Rattle.lists.proofs.Comparisons.{lists-lawful}
use Rattle.lists.proofs.Members.{some-none, none-some, all-at, all_of, all_map}
use Rattle.lists.proofs.Canon.{canon-is, canon-of, rising-canon}
use Rattle.labels.specs.Labels.{label_count}
use Rattle.expression.specs.Refusals.{subsets_full, plans_full}
use Rattle.tables.specs.Definitions.{Pair, subsets, pairs}
use Rattle.values.specs.Values.{valued}
use Rattle.values.proofs.Items.{items-canon}
use Rattle.decisions.specs.Decisions.{pairs_fault}
use Rattle.rows.specs.Rows.{Fit}
use Rattle.entries.specs.declared.Carry.{Carry}
use Rattle.entries.specs.Carries.{Entry, entry_algebra, carried_by}
use Rattle.making.specs.Making.{table_of_all, Finished}
use Rattle.workspace.specs.Workspace.{Sound, pairs_of, fault_of}

-- the property of a pair as one of entries
abbrev Of : (Pair → Type 0) → Entry → Type 0
Of Q x = Q x.item

module _ (carry : Carry) (cands : List Entry) where
  abbrev new : List Entry
  new = table_of_all carry cands

  pairs-new : pairs_of new ≡ canon compare_lists second (pairs_of cands)
  unfolding table_of_all entry_algebra valued pairs
  pairs-new = items-canon (pairs label_count) (carried_by carry) (λ x y. refl) cands

  pub new-rising : Rising compare_lists (pairs_of new)
  new-rising = subst (Rising compare_lists) (sym pairs-new) (rising-canon lists-lawful (pairs_of cands))

  module _ (Q : Pair → Type 0) where
    pub of-candidates : All (Of Q) cands → All Q (pairs_of new)
    of-candidates h =
        let every = all_map (Of Q) Q (λ (x : Entry). x.item) (λ x z. z) cands h in
        subst (All Q) (sym pairs-new) (all_of Q (canon compare_lists second (pairs_of cands)) (λ x m. all-at Q (pairs_of cands) every (canon-is lists-lawful (pairs_of cands) m)))

    back : (xs : List Entry) → All Q (pairs_of xs) → All (Of Q) xs
    back [] h = tt
    back (x ∷ xs) h = (h.0, back xs h.1)

    pub to-candidates : All Q (pairs_of new) → All (Of Q) cands
    to-candidates h = back cands (all_of Q (pairs_of cands) (λ x m. all-at Q (canon compare_lists second (pairs_of cands)) (subst (All Q) pairs-new h) (canon-of lists-lawful (pairs_of cands) m)))

-- a pair that fits has few enough subsets, and the other way
module _ (w : ℕ) (wide : 2 ≤ w) where
  abbrev exceeds : Pair → Bool
  exceeds x = ltb (w - 2) (length (subsets x))

  fits_not : (x : Pair) → Fit w x → exceeds x ≡ false
  unfolding Fit
  fits_not [] h = absurd (omega (arith, h.0))
  fits_not (q ∷ s) h = le-ltb (w - 2) (length s) (omega (arith, h.1))

  not-fits : (x : Pair) → 0 < length x → exceeds x ≡ false → Fit w x
  unfolding Fit
  not-fits [] l h = absurd (omega arith)
  not-fits (q ∷ s) l h = (l, omega (arith, ltb-false (w - 2) (length s) h))

  some-not : (t : List Pair) → All (Fit w) t → some exceeds t ≡ false
  some-not t h = some-none exceeds t (λ x m. fits_not x (all-at (Fit w) t h m))

  not_some : (t : List Pair) → All (λ x. 0 < length x) t → some exceeds t ≡ false → All (Fit w) t
  not_some t l h = all_of (Fit w) t (λ x m. not-fits x (all-at (λ y. 0 < length y) t l m) (none-some exceeds t h m))

-- a table that can be kept is refused by neither
pub no-fault : (w p n : ℕ) → 2 ≤ w → (t : List Pair) → Sound w p t → length t ≡ n → fault_of p n ≡ pairs_fault p (w - 2) t
unfolding fault_of pairs_fault
no-fault w p n wide t s e =
    rw (some-not w wide t s.fit, le-ltb p (length t) s.few, le-ltb (p + 1) n (omega (arith, s.few)), le-ltb p n (omega (arith, s.few)))

module _ {carry : Carry} {w p at : ℕ} {cands : List Entry} {r : ℕ} {ws cleared ws' made : List ℕ} (wide : 2 ≤ w) (h : Finished carry w p at cands r ws cleared ws' made) where
  abbrev T : List Pair
  T = pairs_of (table_of_all carry cands)

  all_fit : r ≤ p + 1 → All (Fit w) T
  all_fit l = of-candidates carry cands (Fit w) (h.fit l)

  long : length T ≡ length (table_of_all carry cands)
  long = length-map (table_of_all carry cands) (λ (x : Entry). x.item)

  -- 15 and 16 as the definition says
  module _ (filled : All (λ x. 0 < length x.item) cands) where
    one-exceeds : p + 1 < r → some (exceeds w wide) T ≡ true
    one-exceeds l = step (some (exceeds w wide) T) refl
      where
        step : (b : Bool) → some (exceeds w wide) T ≡ b → b ≡ true
        step true e = refl
        step false e = absurd (h.wide l (to-candidates carry cands (Fit w) (not_some w wide T (of-candidates carry cands (λ x. 0 < length x) filled) e)))

    pub fault-is : fault_of p r ≡ pairs_fault p (w - 2) T
    unfolding fault_of pairs_fault
    fault-is = step (ltb (p + 1) r) (ltb p r) refl refl
      where
        step : (b c : Bool) → ltb (p + 1) r ≡ b → ltb p r ≡ c
            → cond b subsets_full (cond c plans_full 0) ≡ cond (some (exceeds w wide) T) subsets_full (cond (ltb p (length T)) plans_full 0)
        step true c e f = rw (one-exceeds (ltb-true (p + 1) r e))
        step false true e f =
            let l = ltb-false (p + 1) r e in
            let m = ltb-true p r f in
            rw (some-not w wide T (all_fit l), lt-ltb p (length T) (omega (arith, long, h.over (omega arith))))
        step false false e f =
            let l = ltb-false p r f in
            rw (some-not w wide T (all_fit (omega arith)), le-ltb p (length T) (omega (arith, long, h.count l)))

  -- the table can be kept
  pub table-sound : r ≤ p → All (λ x. Rising compare_numbers (subsets x.item)) cands → Sound w p T
  table-sound l o = record {
    few = omega (arith, long, h.count l);
    fit = all_fit (omega arith);
    rising = new-rising carry cands;
    ordered = of-candidates carry cands (λ x. Rising compare_numbers (subsets x)) o;
  }
