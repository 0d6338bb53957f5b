-- A link given again changes no table (01, "The sheet"), with other links between or none; its two halves commute (02, Item 11), as any two connects do.
-- Assumes nothing.
use mathlib.Core.Path.{◌≡◌, refl, sym, ap, ap₂, ◌∙◌}
use mathlib.Core.Bool.{Bool, true, false, cond, not, ◌&&◌, and-true}
use mathlib.Core.List.{List, [], ◌∷◌, map}
use Prim.Native.Nat.{ℕ, ◌+◌, ◌*◌, ◌-◌, ◌^◌, ◌<◌}
use native.Mathlib.Omega.{arith}
use lib.Dec.{eqb}
use borrow.Author.Tests.{ne_eqb}
use Rattle.std.specs.declared.cmp.Ordering.{Ordering}
use Rattle.lists.specs.Lists.{All}
use Rattle.lists.specs.Sorted.{compare_numbers, second, canon, set_of}
use Rattle.lists.proofs.Members.{map-map}
use Rattle.lists.proofs.Comparisons.{Lawful, numbers-lawful}
use Rattle.lists.proofs.Canon.{canon-map}
use Rattle.labels.specs.Sets.{has, without}
use Rattle.labels.proofs.Sets.{has-without, has-gone, set-ext}
use Rattle.expression.specs.declared.Kind.{Kind}
use Rattle.expression.specs.declared.Kind.TheVariants.{Head, Positive, Negative}
use Rattle.semantics.specs.Expressions.{Expr, fold, link, trees}
use Rattle.semantics.specs.AnswerSets.{Assumptions}
use Rattle.tables.specs.Algebras.{Algebra, tables, table}
use Rattle.tables.specs.Triples.{settles, connect_triple}
use Rattle.tables.specs.Definitions.{Pair, own_triple, subsets, map_pair, triples, pairs}
use Rattle.tables.proofs.Answers.{triples-lawful, pairs-lawful}

-- ---- tables over any algebra

-- two maps, in order before and after, by what they do to each element
canon-maps : {X : Type 0} {cmp : X → X → Ordering} {merge : X → X → X} → Lawful cmp merge → (f g f' g' : X → X) → ((x : X) → g (f x) ≡ g' (f' x))
    → (xs : List X) → canon cmp merge (map g (canon cmp merge (map f xs))) ≡ canon cmp merge (map g' (canon cmp merge (map f' xs)))
canon-maps {cmp = cmp} {merge = merge} L f g f' g' h xs = canon-map L L g (map f xs) ∙ ap (canon cmp merge) (map-map g f (λ x. g' (f' x)) h xs ∙ sym (map-map g' f' (λ x. g' (f' x)) (λ x. refl) xs)) ∙ sym (canon-map L L g' (map f' xs))

-- ---- at once

without-again : (m a : ℕ) → without m (without m a) ≡ without m a
unfolding without
without-again m a = ap (λ b. cond b (without m a - 2 ^ m) (without m a)) (has-gone m a)

-- what is settled has lost the mark m, and what is not is as it was
cond-again : (m r : ℕ) (b c : Bool) → (b ≡ false → c ≡ false) → cond c (without m (cond b (without m r) r)) (cond b (without m r) r) ≡ cond b (without m r) r
cond-again m r true true h = without-again m r
cond-again m r true false h = refl
cond-again m r false c h = ap (λ b. cond b (without m r) r) (h refl)

module _ (K : ℕ) (k : Kind) (i j : ℕ) where
  pub triple-again : (q r : ℕ) → connect_triple K k i j (connect_triple K k i j q q) (connect_triple K k i j q r) ≡ connect_triple K k i j q r
  unfolding connect_triple
  triple-again q r = cond-again (2 * K + j) r (settles K k i q r) (settles K k i (connect_triple K k i j q q) (connect_triple K k i j q r)) (unsettled k)
    where
      same : (l : Kind) (s : ℕ) → settles K l i q s ≡ false → connect_triple K l i j q s ≡ s
      same l s h = ap (λ b. cond b (without (2 * K + j) s) s) h

      unsettled : (l : Kind) → settles K l i q r ≡ false → settles K l i (connect_triple K l i j q q) (connect_triple K l i j q r) ≡ false
      unsettled Head h = unfold settles in (ap (has i) (same Head r h) ∙ h)
      unsettled Positive h = unfold settles in (ap (has (K + i)) (same Positive r h) ∙ h)
      unsettled Negative h = unfold settles in (ap (has i) (same Negative q h) ∙ h)

  pub pair-again : (x : Pair) → (pairs K).connected k i j ((pairs K).connected k i j x) ≡ (pairs K).connected k i j x
  unfolding pairs map_pair set_of
  pair-again x =
      ap₂ {C = Pair} (λ q s. q ∷ s) (triple-again q q)
      (canon-map numbers-lawful numbers-lawful (connect_triple K k i j (connect_triple K k i j q q)) (map (connect_triple K k i j q) (subsets x))
      ∙ ap (canon compare_numbers second) (map-map (connect_triple K k i j (connect_triple K k i j q q)) (connect_triple K k i j q) (connect_triple K k i j q) (triple-again q) (subsets x)))
    where
      q : ℕ
      q = own_triple x

-- ---- two connects in any order

without-swap : (m n a : ℕ) → without m (without n a) ≡ without n (without m a)
without-swap m n a = set-ext (without m (without n a)) (without n (without m a)) (λ x.
    has-without m x (without n a) ∙ ap (λ b. b && not (eqb x m)) (has-without n x a)
    ∙ swap (has x a) (eqb x n) (eqb x m)
    ∙ ap (λ b. b && not (eqb x n)) (sym (has-without m x a)) ∙ sym (has-without n x (without m a)))
  where
    swap : (b c d : Bool) → ((b && not c) && not d) ≡ ((b && not d) && not c)
    swap false c d = refl
    swap true true true = refl
    swap true true false = refl
    swap true false true = refl
    swap true false false = refl

cond-swap : (m n r : ℕ) (b c : Bool) → cond b (without m (cond c (without n r) r)) (cond c (without n r) r) ≡ cond c (without n (cond b (without m r) r)) (cond b (without m r) r)
cond-swap m n r true true = without-swap m n r
cond-swap m n r true false = refl
cond-swap m n r false true = refl
cond-swap m n r false false = refl

module _ (K : ℕ) where
  -- a connect leaves what another one tests
  has-after : (l : Kind) (i j q r x : ℕ) → x < 2 * K → has x (connect_triple K l i j q r) ≡ has x r
  unfolding connect_triple
  has-after l i j q r x low = step (settles K l i q r)
    where
      step : (b : Bool) → has x (cond b (without (2 * K + j) r) r) ≡ has x r
      step true = has-without (2 * K + j) x r ∙ ap (λ b. has x r && not b) (ne_eqb x (2 * K + j) (λ e. omega arith)) ∙ and-true (has x r)
      step false = refl

  settles-after : (k : Kind) (i : ℕ) → i < K → (l : Kind) (i' j' q r : ℕ) → settles K k i (connect_triple K l i' j' q q) (connect_triple K l i' j' q r) ≡ settles K k i q r
  unfolding settles
  settles-after Head i low l i' j' q r = has-after l i' j' q r i (omega arith)
  settles-after Positive i low l i' j' q r = has-after l i' j' q r (K + i) (omega arith)
  settles-after Negative i low l i' j' q r = has-after l i' j' q q i (omega arith)

  module _ (k : Kind) (i j : ℕ) (low : i < K) (l : Kind) (i' j' : ℕ) (low' : i' < K) where
    triple-swap : (q r : ℕ)
        → connect_triple K k i j (connect_triple K l i' j' q q) (connect_triple K l i' j' q r) ≡ connect_triple K l i' j' (connect_triple K k i j q q) (connect_triple K k i j q r)
    unfolding connect_triple
    triple-swap q r =
        ap (λ b. cond b (without (2 * K + j) (connect_triple K l i' j' q r)) (connect_triple K l i' j' q r)) (settles-after k i low l i' j' q r)
        ∙ cond-swap (2 * K + j) (2 * K + j') r (settles K k i q r) (settles K l i' q r)
        ∙ ap (λ b. cond b (without (2 * K + j') (connect_triple K k i j q r)) (connect_triple K k i j q r)) (sym (settles-after l i' low' k i j q r))

    pair-swap : (x : Pair) → (pairs K).connected k i j ((pairs K).connected l i' j' x) ≡ (pairs K).connected l i' j' ((pairs K).connected k i j x)
    unfolding pairs map_pair set_of
    pair-swap x =
        ap₂ {C = Pair} (λ q s. q ∷ s) (triple-swap q q)
        (canon-maps numbers-lawful (connect_triple K l i' j' q) (connect_triple K k i j (connect_triple K l i' j' q q))
        (connect_triple K k i j q) (connect_triple K l i' j' (connect_triple K k i j q q)) (triple-swap q) (subsets x))
      where
        q : ℕ
        q = own_triple x

-- ---- links

-- what connects do to entries: given again nothing, and two of them, of labels below K, the same in either order
record Commuting {X : Type 0} (K : ℕ) (A : Algebra X) : Type 0 where
  lawful : Lawful A.order A.merge
  again : (k : Kind) (i j : ℕ) (x : X) → A.connected k i j (A.connected k i j x) ≡ A.connected k i j x
  swap : (k : Kind) (i j : ℕ) → i < K → (l : Kind) (i' j' : ℕ) → i' < K → (x : X) → A.connected k i j (A.connected l i' j' x) ≡ A.connected l i' j' (A.connected k i j x)

pairs-commute : (K : ℕ) → Commuting K (pairs K)
pairs-commute K = record { lawful = pairs-lawful K; again = pair-again K; swap = pair-swap K }

triples-commute : (K : ℕ) → Commuting K (triples K)
unfolding triples
triples-commute K = record { lawful = triples-lawful K; again = λ k i j q. triple-again K k i j q q; swap = λ k i j low l i' j' low' q. triple-swap K k i j low l i' j' low' q q }

pub record Link : Type 0 where
  pub kind : Kind
  pub from : ℕ
  pub to : ℕ

abbrev pub Below : ℕ → Link → Type 0
Below K l = (l.from < K) × (l.to < K)

-- a link on an expression, and several, the last one first
abbrev pub linked : Link → Expr → Expr
linked l e = link trees l.kind l.from l.to e

abbrev pub with_links : List Link → Expr → Expr
with_links [] e = e
with_links (l ∷ ls) e = linked l (with_links ls e)

module _ {X : Type 0} {K : ℕ} {A : Algebra X} (C : Commuting K A) (o : Assumptions) where
  -- what a link makes of an entry
  abbrev both : Link → X → X
  both l x = A.connected l.kind l.to l.from (A.connected l.kind l.from l.to x)

  abbrev tabled : (X → X) → List X → List X
  tabled f t = canon A.order A.merge (map f t)

  -- 02, Item 11: its halves commute
  table-turned : (l : Link) → Below K l → (e : Expr) → table A o (linked l e) ≡ table A o (linked (record { kind = l.kind; from = l.to; to = l.from }) e)
  unfolding table tables fold trees
  table-turned l (a, b) e =
      canon-maps C.lawful (A.connected l.kind l.from l.to) (A.connected l.kind l.to l.from) (A.connected l.kind l.to l.from) (A.connected l.kind l.from l.to)
      (C.swap l.kind l.to l.from b l.kind l.from l.to a) (table A o e)

  table-linked : (l : Link) (e : Expr) → table A o (linked l e) ≡ tabled (both l) (table A o e)
  unfolding table tables fold trees
  table-linked l e =
      canon-map C.lawful C.lawful (A.connected l.kind l.to l.from) (map (A.connected l.kind l.from l.to) (table A o e))
      ∙ ap (canon A.order A.merge) (map-map (A.connected l.kind l.to l.from) (A.connected l.kind l.from l.to) (both l) (λ x. refl) (table A o e))

  both-again : (l : Link) → Below K l → (x : X) → both l (both l x) ≡ both l x
  both-again l (a, b) x =
      ap (A.connected l.kind l.to l.from)
      (C.swap l.kind l.from l.to a l.kind l.to l.from b (A.connected l.kind l.from l.to x)
      ∙ ap (A.connected l.kind l.to l.from) (C.again l.kind l.from l.to x))
      ∙ C.again l.kind l.to l.from (A.connected l.kind l.from l.to x)

  -- one connect and a link
  half-swap : (k : Kind) (i j : ℕ) → i < K → (l : Link) → Below K l → (x : X) → A.connected k i j (both l x) ≡ both l (A.connected k i j x)
  half-swap k i j low l (a, b) x =
      C.swap k i j low l.kind l.to l.from b (A.connected l.kind l.from l.to x)
      ∙ ap (A.connected l.kind l.to l.from) (C.swap k i j low l.kind l.from l.to a x)

  both-swap : (l m : Link) → Below K l → Below K m → (x : X) → both l (both m x) ≡ both m (both l x)
  both-swap l m (a, b) h x =
      ap (A.connected l.kind l.to l.from) (half-swap l.kind l.from l.to a m h x)
      ∙ half-swap l.kind l.to l.from b m h (A.connected l.kind l.from l.to x)

  -- a link given again, with others between
  table-later : (l : Link) → Below K l → (e : Expr) (ms : List Link) → All (Below K) ms → table A o (linked l (with_links ms (linked l e))) ≡ table A o (with_links ms (linked l e))
  table-later l low e [] h =
      table-linked l (linked l e)
      ∙ ap (tabled (both l)) (table-linked l e)
      ∙ canon-map C.lawful C.lawful (both l) (map (both l) (table A o e))
      ∙ ap (canon A.order A.merge) (map-map (both l) (both l) (both l) (both-again l low) (table A o e))
      ∙ sym (table-linked l e)
  table-later l low e (m ∷ ms) h =
      table-linked l (linked m (with_links ms (linked l e)))
      ∙ ap (tabled (both l)) (table-linked m (with_links ms (linked l e)))
      ∙ canon-maps C.lawful (both m) (both l) (both l) (both m) (both-swap l m low h.0) (table A o (with_links ms (linked l e)))
      ∙ ap (tabled (both m)) (sym (table-linked l (with_links ms (linked l e))) ∙ table-later l low e ms h.1)
      ∙ sym (table-linked m (with_links ms (linked l e)))

module _ (K : ℕ) (l : Link) (low : Below K l) (o : Assumptions) (e : Expr) where
  -- 02, Item 11: a link has no direction
  pub pairs-turned : table (pairs K) o (linked l e) ≡ table (pairs K) o (linked (record { kind = l.kind; from = l.to; to = l.from }) e)
  pairs-turned = table-turned (pairs-commute K) o l low e

  pub triples-turned : table (triples K) o (linked l e) ≡ table (triples K) o (linked (record { kind = l.kind; from = l.to; to = l.from }) e)
  triples-turned = table-turned (triples-commute K) o l low e

  -- given again it changes nothing
  pub pairs-later : (ms : List Link) → All (Below K) ms → table (pairs K) o (linked l (with_links ms (linked l e))) ≡ table (pairs K) o (with_links ms (linked l e))
  pairs-later = table-later (pairs-commute K) o l low e

  pub triples-later : (ms : List Link) → All (Below K) ms → table (triples K) o (linked l (with_links ms (linked l e))) ≡ table (triples K) o (with_links ms (linked l e))
  triples-later = table-later (triples-commute K) o l low e
