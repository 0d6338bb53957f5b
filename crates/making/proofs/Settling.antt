-- A table from its first candidate to its last word: how the making begins, and what it leaves. Assumes nothing.
use mathlib.Core.Path.{◌≡◌, refl, sym, ap, ◌∙◌, subst}
use mathlib.Core.List.{List, [], ◌∷◌, ◌++◌, map, append-nil}
use Prim.Native.Nat.{ℕ, ◌+◌, ◌*◌, ◌≤◌, ◌<◌, min}
use native.Mathlib.Omega.{arith}
use lib.ListN.{length}
use Rattle.lists.specs.Lists.{All}
use Rattle.lists.specs.Sorted.{insert_all, canon, Rising}
use Rattle.tables.specs.Definitions.{Pair}
use Rattle.values.specs.declared.Value.{Value}
use Rattle.rows.specs.Parts.{part, put, zeros}
use Rattle.rows.specs.Rows.{table_of, sorted_of, Rows, Indexed}
use Rattle.rows.proofs.Parts.{part-long, part_low, part-high, put-put, put-part, put-comm}
use Rattle.rows.proofs.Tables.{length-table}
use Rattle.rows.proofs.Indexing.{sorted-long, sorted-fit}
use Rattle.entries.specs.declared.Carry.{Carry}
use Rattle.entries.specs.Carries.{Entry, values_in, Kept}
use Rattle.entries.specs.Entries.{with_values, entries_of}
use Rattle.entries.proofs.Entering.{length-with}
use Rattle.making.specs.Making.{entered_all, table_of_all, FitEntry, Making, Stepped, Next, Puts, Steps, Settled, Finished}
use Rattle.making.proofs.Stepping.{making-indexed, making-kept, stepped}

-- ---- how it begins

none-indexed : (w p : ℕ) (area index : List ℕ) → area ≡ zeros (p * w) → p ≤ length index → Indexed w p 0 area index
unfolding table_of sorted_of Rising
none-indexed w p area index z l = record {
  arrived = [];
  words = z;
  count = refl;
  room = omega arith;
  fit = tt;
  long = l;
  places = tt;
  rising = tt;
}

pub begin : (carry : Carry) (w p to : ℕ) (cands : List Entry) (ws index vals : List ℕ) → part to (p * w) ws ≡ zeros (p * w) → p ≤ length index → Kept carry p 0 vals
    → Making carry w p to cands (cands ++ []) 0 ws ws index vals
unfolding entered_all table_of_all canon entries_of sorted_of with_values
begin carry w p to cands ws index vals z l k =
    let none : 0 ≡ min 0 p = omega arith in
    record {
      bound = omega arith;
      frame = sym (put-part to (p * w) ws);
      as_long = refl;
      indexed = subst (λ (n : ℕ). Indexed w p n (part to (p * w) ws) index) none (none-indexed w p (part to (p * w) ws) index z l);
      kept = subst (λ (n : ℕ). Kept carry p n vals) none k;
      going = λ g. rw (append-nil cands);
      over = λ g. absurd (omega arith);
      fit = subst (All (FitEntry w)) (append-nil cands);
    }

-- where the words, the index and the values are those of no table, the candidates of a command are next, and then they are in
module _ {carry : Carry} {w p to : ℕ} {ws index vals : List ℕ} (z : part to (p * w) ws ≡ zeros (p * w)) (l : p ≤ length index) (k : Kept carry p 0 vals) where
  pub starts : (cands : List Entry) → Next carry w p to 0 cands ws index vals
  starts cands = (cands, [], ws, begin carry w p to cands ws index vals z l k)

  pub after-puts : {cands : List Entry} {r : ℕ} {ws' index' vals' : List ℕ} → Puts carry w p to 0 cands r ws index vals ws' index' vals' → Making carry w p to cands [] r ws ws' index' vals'
  after-puts {cands} s = s cands [] ws (begin carry w p to cands ws index vals z l k)

  pub after-all : {cands : List Entry} {r : ℕ} {ws' index' vals' : List ℕ} → 2 ≤ w → Puts carry w p to 0 cands r ws index vals ws' index' vals' → Stepped carry w p to cands [] cands r ws ws' index' vals'
  after-all g s = stepped g (after-puts s)

  pub after-steps : {cands : List Entry} {r : ℕ} {ws' index' vals' : List ℕ} → Steps carry w p to 0 cands r ws index vals ws' index' vals' → Stepped carry w p to cands [] cands r ws ws' index' vals'
  after-steps {cands} s = s cands [] ws (begin carry w p to cands ws index vals z l k)

-- ---- what it leaves

items_of : (xs : List Pair) (vs : List Value) → map (λ (x : Entry). x.item) (with_values xs vs) ≡ xs
unfolding with_values
items_of [] vs = refl
items_of (x ∷ xs) [] = ap (λ (l : List Pair). x ∷ l) (items_of xs [])
items_of (x ∷ xs) (v ∷ vs) = ap (λ (l : List Pair). x ∷ l) (items_of xs vs)

module _ {carry : Carry} {w p at to : ℕ} {cands : List Entry} {r : ℕ} {ws₀ ws ws' index vals : List ℕ} (apart : at + p * w ≤ to) (within : to + p * w ≤ length ws₀)
    (zero-before : part to (p * w) ws₀ ≡ zeros (p * w)) (h : Stepped carry w p to cands [] cands r ws₀ ws index vals) (s : Settled w p r at to index ws ws') where
  -- without what was made the words are as before
  back : put to (p * w) ws (zeros (p * w)) ≡ ws₀
  back =
      let long = part-long to (p * w) ws (omega (arith, h.same_length)) in
      ap (λ (u : List ℕ). put to (p * w) u (zeros (p * w))) h.scratch ∙ put-put to (p * w) ws₀ (part to (p * w) ws) (zeros (p * w)) (omega arith) long
      ∙ ap (put to (p * w) ws₀) (sym zero-before) ∙ put-part to (p * w) ws₀

  module _ (few : r ≤ p) where
    made : Making carry w p to cands [] r ws₀ ws index vals
    made = h.made (omega arith)

    abbrev new : List Pair
    new = sorted_of w r (part to (p * w) ws) index

    new-entries : with_values new (values_in carry r vals) ≡ table_of_all carry cands
    unfolding entered_all entries_of insert_all
    new-entries = made.going few

    new_items : new ≡ map (λ x. x.item) (table_of_all carry cands)
    new_items = sym (items_of new (values_in carry r vals)) ∙ ap (map (λ (x : Entry). x.item)) new-entries

    new-long : length new ≡ r
    new-long = sorted-long (making-indexed made few)

    table-long : length (table_of w p new) ≡ p * w
    table-long = length-table w p new (sorted-fit (making-indexed made few)) (omega (arith, new-long))

    new-table : ws' ≡ put at (p * w) ws₀ (table_of w p new)
    new-table =
        s.table few ∙ put-comm at (p * w) to (p * w) ws (table_of w p new) (zeros (p * w)) apart (omega (arith, h.same_length)) table-long
        ∙ ap (λ (u : List ℕ). put at (p * w) u (table_of w p new)) back

  module _ (cleared ws'' : List ℕ) (tabled : (l : r ≤ p) → ws'' ≡ put at (p * w) cleared (table_of w p (new l))) (stays : p < r → ws'' ≡ ws') where
    finished_as : Finished carry w p at cands r ws₀ cleared ws'' vals
    finished_as = record {
      most = h.most;
      wide = h.wide;
      fit = λ l. (h.made l).fit tt;
      over = λ e. (h.made (omega arith)).over (omega arith);
      stays = λ l. stays l ∙ s.none l ∙ back;
      count = λ l. ap length (sym (new-entries l)) ∙ length-with (new l) (values_in carry r vals) ∙ new-long l;
      table = λ l. tabled l ∙ ap (λ (xs : List Pair). put at (p * w) cleared (table_of w p xs)) (new_items l);
      kept = λ l. making-kept (made l) l;
      values = λ l. ap (λ (xs : List Pair). with_values xs (values_in carry r vals)) (sym (new_items l)) ∙ new-entries l;
    }

  pub finished : Finished carry w p at cands r ws₀ ws₀ ws' vals
  finished = finished_as ws₀ ws' new-table (λ l. refl)

  -- an operand at word b, behind the table
  module _ (b : ℕ) (behind : at + p * w ≤ b) (inside : b + p * w ≤ length ws₀) where
    pub operand-there : r ≤ p → part b (p * w) ws' ≡ part b (p * w) ws₀
    operand-there l = ap (part b (p * w)) (new-table l) ∙ part-high b (p * w) at (p * w) ws₀ (table_of w p (new l)) behind inside (table-long l)

    pub finished-alone : (ws'' : List ℕ) → (r ≤ p → ws'' ≡ put b (p * w) ws' (zeros (p * w))) → (p < r → ws'' ≡ ws') → Finished carry w p at cands r ws₀ (put b (p * w) ws₀ (zeros (p * w))) ws'' vals
    finished-alone ws'' e =
        finished_as (put b (p * w) ws₀ (zeros (p * w))) ws''
        (λ l. e l ∙ ap (λ (u : List ℕ). put b (p * w) u (zeros (p * w))) (new-table l) ∙ put-comm at (p * w) b (p * w) ws₀ (table_of w p (new l)) (zeros (p * w)) behind inside (table-long l))

-- what lies below the words that a table is made in, and they themselves
module _ {carry : Carry} {w p to : ℕ} {cands rest xs : List Entry} {r : ℕ} {ws₀ ws index vals : List ℕ} (h : Stepped carry w p to cands rest xs r ws₀ ws index vals) where
  pub stepped-below : (a k : ℕ) → a + k ≤ to → to ≤ length ws₀ → part a k ws ≡ part a k ws₀
  stepped-below a k l e = ap (part a k) h.scratch ∙ part_low a k to (p * w) ws₀ (part to (p * w) ws) l e

  pub stepped-indexed : r ≤ p → Indexed w p r (part to (p * w) ws) index
  stepped-indexed l = making-indexed (h.made (omega arith)) l

  -- the rows that are settled: those at word `at`, and those that were made
  pub stepped-rows : (at n : ℕ) → at + p * w ≤ to → to ≤ length ws₀ → Rows w p n (part at (p * w) ws₀) → Rows w p n (part at (p * w) ws) × Rows w p p (part to (p * w) ws)
  stepped-rows at n l e t = (subst (Rows w p n) (sym (stepped-below at (p * w) l e)) t, h.rows)
