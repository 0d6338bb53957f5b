-- An entry put among entries: rows and values side by side. Assumes nothing.
use Rattle.std.proofs.Common.{◌≡◌, ℕ, zero, suc, ◌+◌, ◌<◌, ◌≤◌, List, [], ◌∷◌, ◌++◌, length, get_or, take, drop, sym, refl, ap, ◌∙◌, ap₂, le_of_suc-le-suc, not-suc-le-zero, add-one, arith, length-append, length-drop, length-take}
use Rattle.lists.specs.Sorted.{by_order, compare_lists, rank}
use Rattle.lists.proofs.Ranks.{rank-le, insert-there, insert-absent}
use Rattle.tables.specs.Algebras.{Algebra}
use Rattle.tables.specs.Definitions.{Pair, pairs}
use Rattle.values.specs.declared.Value.{Value}
use Rattle.values.specs.Values.{valued, no_value}
use Rattle.labels.specs.Labels.{label_count}
use Rattle.rows.specs.Rows.{sorted_of, Indexed}
use Rattle.rows.specs.declared.Placed.TheVariants.{New, Old, Full}
use Rattle.rows.specs.Inserted.{There, Inserted}
use Rattle.rows.proofs.Indexing.{sorted-long}
use Rattle.entries.specs.declared.Carry.{Carry}
use Rattle.entries.specs.Carries.{carried_by, values_in, Kept, Entry, entry_algebra}
use Rattle.entries.proofs.Keeping.{kept-beside, values-long}
use Rattle.entries.specs.Entries.{with_values, entries_of, entered, Entered}

-- ---- pairs with values, place by place

pub none : Entry
none = record { item = []; value = no_value }

pub length-with : (xs : List Pair) (vs : List Value) → length (with_values xs vs) ≡ length xs
unfolding with_values
length-with [] vs = refl
length-with (x ∷ xs) [] = ap suc (length-with xs [])
length-with (x ∷ xs) (v ∷ vs) = ap suc (length-with xs vs)

pub with_at : (xs : List Pair) (vs : List Value) (k : ℕ) → length vs ≡ length xs → k < length xs → get_or (with_values xs vs) k none ≡ record { item = get_or xs k []; value = get_or vs k no_value }
unfolding with_values
with_at [] vs k e l = absurd (not-suc-le-zero l)
with_at (x ∷ xs) [] k e l = absurd (omega arith)
with_at (x ∷ xs) (v ∷ vs) zero e l = refl
with_at (x ∷ xs) (v ∷ vs) (suc k) e l = with_at xs vs k (omega arith) (le_of_suc-le-suc l)

-- one more at place k
with-more : (xs : List Pair) (vs : List Value) (k : ℕ) (x : Pair) (v : Value) → length vs ≡ length xs → k ≤ length xs
    → with_values (take k xs ++ x ∷ drop k xs) (take k vs ++ v ∷ drop k vs) ≡ take k (with_values xs vs) ++ record { item = x; value = v } ∷ drop k (with_values xs vs)
unfolding with_values
with-more xs vs zero x v e l = refl
with-more [] vs (suc k) x v e l = absurd (not-suc-le-zero l)
with-more (y ∷ xs) [] (suc k) x v e l = absurd (omega arith)
with-more (y ∷ xs) (u ∷ vs) (suc k) x v e l = ap {B = List Entry} (λ t. record { item = y; value = u } ∷ t) (with-more xs vs k x v (omega arith) (le_of_suc-le-suc l))

-- another value at place k
with-other : (xs : List Pair) (vs : List Value) (k : ℕ) (v : Value) → length vs ≡ length xs → k < length xs
    → with_values xs (take k vs ++ v ∷ drop (suc k) vs) ≡ take k (with_values xs vs) ++ record { item = get_or xs k []; value = v } ∷ drop (suc k) (with_values xs vs)
unfolding with_values
with-other [] vs k v e l = absurd (not-suc-le-zero l)
with-other (x ∷ xs) [] k v e l = absurd (omega arith)
with-other (x ∷ xs) (u ∷ vs) zero v e l = refl
with-other (x ∷ xs) (u ∷ vs) (suc k) v e l = ap {B = List Entry} (λ t. record { item = x; value = u } ∷ t) (with-other xs vs k v (omega arith) (le_of_suc-le-suc l))

module _ (carry : Carry) where
  abbrev E : Algebra Entry
  E = entry_algebra label_count carry

  rank-with : (x : Pair) (v : Value) (xs : List Pair) (vs : List Value) → rank E.order (record { item = x; value = v }) (with_values xs vs) ≡ rank compare_lists x xs
  unfolding rank with_values entry_algebra valued pairs
  rank-with x v [] vs = refl
  rank-with x v (y ∷ ys) [] = ap (λ (n : ℕ). by_order (compare_lists x y) zero zero (suc n)) (rank-with x v ys [])
  rank-with x v (y ∷ ys) (u ∷ us) = ap (λ (n : ℕ). by_order (compare_lists x y) zero zero (suc n)) (rank-with x v ys us)

  module _ (x : Pair) (v : Value) (xs : List Pair) (vs : List Value) (e : length vs ≡ length xs) (k : ℕ) (kr : k ≡ rank compare_lists x xs) where
    abbrev entry : Entry
    entry = record { item = x; value = v }

    low : k ≤ length xs
    low = omega (arith, kr, rank-le compare_lists x xs)

    -- a new pair
    pub entered-new : (There x xs → ⊥) → entered carry entry (with_values xs vs) ≡ with_values (take k xs ++ x ∷ drop k xs) (take k vs ++ v ∷ drop k vs)
    unfolding entered entry_algebra valued pairs
    entered-new new =
        let r : rank E.order entry (with_values xs vs) ≡ k = rank-with x v xs vs ∙ sym kr in
        let absent = insert-absent E.order E.merge none entry (with_values xs vs) (λ l q.
        let h : k < length xs = omega (arith, length-with xs vs) in
        new (
          omega (arith, kr),
          sym (ap (λ (y : Entry). compare_lists x y.item) (ap (λ (i : ℕ). get_or (with_values xs vs) i none) r ∙ with_at xs vs k e h)
              ∙ ap (λ (i : ℕ). compare_lists x (get_or xs i [])) kr) ∙ q,
        )) in
        absent ∙ ap (λ (i : ℕ). take i (with_values xs vs) ++ entry ∷ drop i (with_values xs vs)) r ∙ sym (with-more xs vs k x v e low)

    -- a pair that is there
    pub entered-old : There x xs → entered carry entry (with_values xs vs) ≡ with_values xs (take k vs ++ (carried_by carry).either v (get_or vs k no_value) ∷ drop (k + 1) vs)
    unfolding entered entry_algebra valued pairs
    entered-old t =
        let r : rank E.order entry (with_values xs vs) ≡ k = rank-with x v xs vs ∙ sym kr in
        let h : k < length xs = omega (arith, kr, t.0) in
        let y : get_or (with_values xs vs) k none ≡ record { item = get_or xs k []; value = get_or vs k no_value } = with_at xs vs k e h in
        let at : get_or (with_values xs vs) (rank E.order entry (with_values xs vs)) none ≡ record { item = get_or xs k []; value = get_or vs k no_value } = ap (λ (i : ℕ). get_or (with_values xs vs) i none) r ∙ y in
        let there = insert-there E.order E.merge none entry (with_values xs vs) (omega (arith, length-with xs vs, r))
        (ap (λ (z : Entry). compare_lists x z.item) at ∙ ap (λ (i : ℕ). compare_lists x (get_or xs i [])) kr ∙ t.1) in
        there
        ∙ ap₂ (λ (i : ℕ) (z : Entry). take i (with_values xs vs) ++ E.merge entry z ∷ drop (suc i) (with_values xs vs)) r at
        ∙ sym (ap (λ (i : ℕ). with_values xs (take k vs ++ (carried_by carry).either v (get_or vs k no_value) ∷ drop i vs)) (add-one k) ∙ with-other xs vs k ((carried_by carry).either v (get_or vs k no_value)) e h)

-- ---- what putting a row and its value in leaves

module _ (carry : Carry) (w p m : ℕ) (x : Pair) (v : Value) (area index vals area' index' vals' : List ℕ) (h : Indexed w p m area index) (kept : Kept carry p m vals) where
  abbrev S : List Pair
  S = sorted_of w m area index

  as_long : length (values_in carry m vals) ≡ length S
  as_long = values-long carry m vals (kept-beside carry p m vals h.room kept) ∙ sym (sorted-long h)

  pub entry_new : (k : ℕ) → Inserted w p m x area index area' index' (New k) → Kept carry p (m + 1) vals'
      → values_in carry (m + 1) vals' ≡ take k (values_in carry m vals) ++ v ∷ drop k (values_in carry m vals)
      → Entered carry w p m (m + 1) (record { item = x; value = v }) area index vals area' index' vals'
  unfolding entries_of
  entry_new k i g e = record {
    bound = omega (arith, h.room);
    indexed = λ l. i.0;
    kept = λ l. g;
    holds = λ l. ap₂ with_values i.3 e ∙ sym (entered-new carry x v S (values_in carry m vals) as_long k i.1 i.2);
    full = λ l. absurd (omega (arith, i.0.room));
    same = λ l. absurd (omega (arith, i.0.room));
  }

  pub entry_old : (k : ℕ) → Inserted w p m x area index area' index' (Old k) → Kept carry p m vals'
      → values_in carry m vals' ≡ take k (values_in carry m vals) ++ (carried_by carry).either v (get_or (values_in carry m vals) k no_value) ∷ drop (k + 1) (values_in carry m vals)
      → Entered carry w p m m (record { item = x; value = v }) area index vals area' index' vals'
  unfolding entries_of
  entry_old k i g e = record {
    bound = omega (arith, h.room);
    indexed = λ l. rw (i.0, i.1) h;
    kept = λ l. g;
    holds = λ l. ap₂ with_values (ap₂ (sorted_of w m) i.0 i.1) e ∙ sym (entered-old carry x v S (values_in carry m vals) as_long k i.2 i.3);
    full = λ l. absurd (omega (arith, h.room));
    same = λ l. absurd (omega (arith, h.room));
  }

  pub entry-full : Inserted w p m x area index area' index' Full → vals' ≡ vals → Entered carry w p m (p + 1) (record { item = x; value = v }) area index vals area' index' vals'
  unfolding entries_of
  entry-full i e = record {
    bound = omega arith;
    indexed = λ l. absurd (omega arith);
    kept = λ l. absurd (omega arith);
    holds = λ l. absurd (omega arith);
    full = λ l. (
      i.2,
      rw (entered-new carry x v S (values_in carry m vals) as_long (rank compare_lists x S) refl i.3, length-with)
          (simp (length-append, length-take, length-drop) (omega (arith, i.2, sorted-long h, rank-le compare_lists x S))),
    );
    same = λ l. (i.0, i.1, e);
  }

  -- where a row that is there stands
  pub old-place : (k : ℕ) → Inserted w p m x area index area' index' (Old k) → k < m
  old-place k i = omega (arith, i.2, i.3.0, sorted-long h)

  pub new-place : (k : ℕ) → Inserted w p m x area index area' index' (New k) → (k ≤ m) × (m < p)
  new-place k i = (omega (arith, i.1, rank-le compare_lists x S, sorted-long h), omega (arith, i.0.room))
