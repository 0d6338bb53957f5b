-- Commands at once are commands one after the other, and a rule among them is the union with it. Assumes nothing.
use mathlib.Core.Path.{◌≡◌, refl, sym, ap, ap₂, ◌∙◌}
use mathlib.Core.List.{List, [], ◌∷◌, map}
use Prim.Native.Nat.{ℕ, ◌+◌, ◌%◌, ◌^◌}
use native.Mathlib.Omega.{arith}
use lib.Bits.{bit_or}
use Rattle.std.specs.declared.cmp.Ordering.{Ordering}
use Rattle.std.specs.declared.cmp.Ordering.TheVariants.{Less, Equal, Greater}
use Rattle.lists.specs.Lists.{All, products}
use Rattle.lists.specs.Sorted.{compare_numbers, compare_lists, second, by_order, insert, insert_all, canon, set_of}
use Rattle.lists.proofs.Members.{map-map}
use Rattle.lists.proofs.Comparisons.{numbers-lawful, lists-lawful}
use Rattle.lists.proofs.Canon.{rising-canon, canon-rising, canon-map}
use Rattle.labels.specs.Labels.{label_count}
use Rattle.expression.specs.declared.Kind.{Kind}
use Rattle.expression.specs.declared.Command.{Command}
use Rattle.expression.specs.declared.Command.TheVariants.{Atom, Rule, Union, Relabel, Connect, Name}
use Rattle.tables.specs.Triples.{mark_u}
use Rattle.tables.specs.Definitions.{Pair, own_triple, subsets, unite_pairs, pairs}
use Rattle.values.specs.declared.Value.{Value}
use Rattle.values.specs.Values.{valued, in_low}
use Rattle.values.proofs.Consequences.{consequences-semiring}
use Rattle.batches.specs.Batches.{step_triple, step, reversed, steps, cleaned, batch_pair}
use Rattle.entries.specs.declared.Carry.{Carry}
use Rattle.entries.specs.declared.Carry.TheVariants.{Nothing, First, Consequences}
use Rattle.entries.specs.Carries.{Entry, entry_algebra, carried_by}
use Rattle.making.specs.Making.{table_of_all}
use Rattle.maps.specs.Maps.{batched, batched_table, Small}
use Rattle.maps.proofs.Mapping.{by}
use Rattle.maps.proofs.Merging.{map-all}

-- ---- pairs

module _ (K : ℕ) where
  clean-twice : (y : List ℕ) → cleaned K (cleaned K y) ≡ cleaned K y
  unfolding cleaned set_of
  clean-twice y = ap (λ (s : List ℕ). own_triple y ∷ s) (canon-rising numbers-lawful (canon compare_numbers second (subsets y)) (rising-canon numbers-lawful (subsets y)))

  clean_step : (c : Command) (y : List ℕ) → cleaned K (step K c (cleaned K y)) ≡ cleaned K (step K c y)
  unfolding cleaned step set_of
  clean_step c y = ap (λ (s : List ℕ). step_triple K c (own_triple y) (own_triple y) ∷ s) (canon-map numbers-lawful numbers-lawful (step_triple K c (own_triple y)) (subsets y))

  clean-both : (c : Command) (y : List ℕ) → cleaned K (reversed K c (step K c (cleaned K y))) ≡ cleaned K (reversed K c (step K c y))
  unfolding reversed
  clean-both (Rule g) y = clean_step (Rule g) y
  clean-both (Relabel i j) y = clean_step (Relabel i j) y
  clean-both (Connect k i j) y =
      sym (clean_step (Connect k j i) (step K (Connect k i j) (cleaned K y)))
      ∙ ap (λ z. cleaned K (step K (Connect k j i) z)) (clean_step (Connect k i j) y)
      ∙ clean_step (Connect k j i) (step K (Connect k i j) y)
  clean-both (Atom g) y = clean_step (Atom g) y
  clean-both Union y = clean_step Union y
  clean-both (Name at) y = clean_step (Name at) y

  -- subsets may be put in order in between
  absorb : (cs : List Command) (y : List ℕ) → batch_pair K cs (cleaned K y) ≡ batch_pair K cs y
  unfolding batch_pair steps
  absorb [] y = clean-twice y
  absorb (c ∷ cs) y =
      sym (absorb cs (reversed K c (step K c (cleaned K y)))) ∙ ap (batch_pair K cs) (clean-both c y) ∙ absorb cs (reversed K c (step K c y))

  pair-more : (c : Command) (cs : List Command) (x : Pair) → batch_pair K cs (batch_pair K (c ∷ []) x) ≡ batch_pair K (c ∷ cs) x
  unfolding batch_pair steps
  pair-more c cs x = absorb cs (reversed K c (step K c x))

no-products : (xs : List ℕ) → products bit_or xs [] ≡ []
unfolding products
no-products [] = refl
no-products (x ∷ xs) = no-products xs

rule-pair : (g : ℕ) (x : Pair) → unite_pairs x (mark_u label_count g ∷ []) ≡ batch_pair label_count (Rule g ∷ []) x
unfolding unite_pairs batch_pair cleaned steps reversed step step_triple
rule-pair g x = rw (no-products (subsets x))

-- ---- tables

either-turns : (carry : Carry) (a b : Value) → (carried_by carry).either a b ≡ (carried_by carry).either b a
either-turns Nothing a b = refl
either-turns First a b = ap in_low (omega arith)
either-turns Consequences a b = consequences-semiring.either-comm a b

either-joins : (carry : Carry) (a b c : Value) → (carried_by carry).either ((carried_by carry).either a b) c ≡ (carried_by carry).either a ((carried_by carry).either b c)
either-joins Nothing a b c = refl
either-joins First a b c = ap in_low (omega arith)
either-joins Consequences a b c = consequences-semiring.either-assoc a b c

-- what one half of a link makes of a pair
abbrev pub half : Kind → ℕ → ℕ → Pair → Pair
half k i j x = cleaned label_count (step label_count (Connect k i j) x)

module _ (carry : Carry) where
  in_order : (f : Pair → Pair) (t : List Entry) → table_of_all carry (map (by f) (table_of_all carry t)) ≡ table_of_all carry (map (by f) t)
  unfolding table_of_all entry_algebra valued pairs
  in_order f t = map-all lists-lawful (carried_by carry).either (either-turns carry) (either-joins carry) f t

  -- the first command, then the others
  pub batch-more : (c : Command) (cs : List Command) (t : List Entry) → batched_table carry cs (batched_table carry (c ∷ []) t) ≡ batched_table carry (c ∷ cs) t
  batch-more c cs t =
      in_order (batch_pair label_count cs) (map (batched (c ∷ [])) t)
      ∙ ap (table_of_all carry) (map-map (batched cs) (batched (c ∷ [])) (batched (c ∷ cs)) (λ x. ap (λ (y : Pair). record { item = y; value = x.value }) (pair-more label_count c cs x.item)) t)

  -- a link is its two halves, one after the other
  pub link-halves : (k : Kind) (i j : ℕ) (t : List Entry) → table_of_all carry (map (by (half k j i)) (table_of_all carry (map (by (half k i j)) t))) ≡ batched_table carry (Connect k i j ∷ []) t
  unfolding batch_pair steps reversed
  link-halves k i j t =
      in_order (half k j i) (map (by (half k i j)) t)
      ∙ ap (table_of_all carry) (map-map (by (half k j i)) (by (half k i j)) (batched (Connect k i j ∷ [])) (λ x. ap (λ (y : Pair). record { item = y; value = x.value }) (clean_step label_count (Connect k j i) (step label_count (Connect k i j) x.item))) t)

  unit-small : (x : Entry) → Small carry x → (carried_by carry).together x.value (carried_by carry).unit ≡ x.value
  unit-small = go carry
    where
      go : (k : Carry) (x : Entry) → Small k x → (carried_by k).together x.value (carried_by k).unit ≡ x.value
      go Nothing x h = sym h
      go First x h = ap₂ {C = Value} (λ u v. record { high = u; low = v }) (sym h.0) (let z : (x.value.low + 0) % 2 ^ 64 ≡ x.value.low = omega (arith, h.1) in z)
      go Consequences x h = consequences-semiring.together-unit x.value

  united-all : (g : ℕ) (t : List Entry) → All (Small carry) t → products (entry_algebra label_count carry).united t ((entry_algebra label_count carry).unmet g ∷ []) ≡ map (batched (Rule g ∷ [])) t
  unfolding products entry_algebra valued pairs
  united-all g [] h = refl
  united-all g (x ∷ t) h =
      ap₂ {C = List Entry} (λ y l. y ∷ l) (ap₂ {C = Entry} (λ (y : Pair) (v : Value). record { item = y; value = v }) (rule-pair g x.item) (unit-small x h.0)) (united-all g t h.1)

  -- the union with a rule
  pub rule-united : (g : ℕ) (t : List Entry) → All (Small carry) t → table_of_all carry (products (entry_algebra label_count carry).united t ((entry_algebra label_count carry).unmet g ∷ [])) ≡ batched_table carry (Rule g ∷ []) t
  rule-united g t h = ap (table_of_all carry) (united-all g t h)

  small-merged : (x y : Entry) → Small carry x → Small carry y → Small carry (record { item = y.item; value = (carried_by carry).either x.value y.value })
  small-merged = go carry
    where
      go : (k : Carry) (x y : Entry) → Small k x → Small k y → Small k (record { item = y.item; value = (carried_by k).either x.value y.value })
      go Nothing x y a b = refl
      go First x y a b = (refl, omega (arith, a.1, b.1))
      go Consequences x y a b = tt

  small_put : (x : Entry) (l : List Entry) → Small carry x → All (Small carry) l → All (Small carry) (insert (entry_algebra label_count carry).order (entry_algebra label_count carry).merge x l)
  unfolding insert entry_algebra valued pairs
  small_put x [] a h = (a, tt)
  small_put x (y ∷ l) a h = go (compare_lists x.item y.item) (small_put x l a h.1)
    where
      go : (o : Ordering) → All (Small carry) (insert (λ (u v : Entry). compare_lists u.item v.item) (λ u v. record { item = v.item; value = (carried_by carry).either u.value v.value }) x l)
          → All (Small carry) (by_order o (x ∷ y ∷ l) (record { item = y.item; value = (carried_by carry).either x.value y.value } ∷ l) (y ∷ insert (λ (u v : Entry). compare_lists u.item v.item) (λ u v. record { item = v.item; value = (carried_by carry).either u.value v.value }) x l))
      go Less r = (a, h)
      go Equal r = (small-merged x y a h.0, h.1)
      go Greater r = (h.0, r)

  small_all : (xs acc : List Entry) → All (Small carry) xs → All (Small carry) acc → All (Small carry) (insert_all (entry_algebra label_count carry).order (entry_algebra label_count carry).merge xs acc)
  unfolding insert_all
  small_all [] acc h k = k
  small_all (x ∷ xs) acc h k = small_all xs (insert (entry_algebra label_count carry).order (entry_algebra label_count carry).merge x acc) h.1 (small_put x acc h.0 k)

  small-mapped : (cs : List Command) (t : List Entry) → All (Small carry) t → All (Small carry) (map (batched cs) t)
  small-mapped cs [] h = tt
  small-mapped cs (x ∷ t) h = (go carry x h.0, small-mapped cs t h.1)
    where
      go : (k : Carry) (y : Entry) → Small k y → Small k (batched cs y)
      go Nothing y a = a
      go First y a = a
      go Consequences y a = tt

  -- values stay small
  pub small-batched : (cs : List Command) (t : List Entry) → All (Small carry) t → All (Small carry) (batched_table carry cs t)
  unfolding table_of_all canon
  small-batched cs t h = small_all (map (batched cs) t) [] (small-mapped cs t h) tt
