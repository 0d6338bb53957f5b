-- A rule judged at once does what the rule, its connects and a relabel of it do one after the other. Assumes nothing.
use mathlib.Core.Path.{◌≡◌, refl, sym, ap, ap₂, ◌∙◌}
use mathlib.Core.Bool.{Bool, true, false, cond, not, ◌&&◌, ◌||◌, true≢false, and-false, and-true, or-true, or-false}
use Prim.Native.Nat.{ℕ, ◌+◌, ◌*◌, ◌^◌, ◌<◌}
use native.Mathlib.Omega.{arith}
use lib.Bits.{bit_and, bit_or}
use lib.Dec.{eqb}
use borrow.Author.Tests.{eqb-true, eqb-false, eq-eqb, ne_eqb}
use Rattle.lists.proofs.Members.{not-true-false}
use Rattle.labels.specs.Sets.{has, without, replace}
use Rattle.labels.proofs.Sets.{has-none, has-none-zero, has-or, has-and, has-pow, has-without, has-gone, has-replace, set-ext}
use Rattle.expression.specs.declared.Kind.{Kind}
use Rattle.expression.specs.declared.Kind.TheVariants.{Head, Positive, Negative}
use Rattle.tables.specs.Triples.{mark_u, relabel_triple, settles, connect_triple}
use Rattle.batches.specs.declared.Judge.{Judge}
use Rattle.batches.specs.Batches.{is_met, settled, judge_triple}
use Rattle.batches.proofs.Words.{without-or}

-- ---- sets

pub absent-out : (n a : ℕ) → has n a ≡ false → without n a ≡ a
unfolding without
absent-out n a e = rw e

replace-same : (m a : ℕ) → replace m m a ≡ a
replace-same m a = set-ext (replace m m a) a (λ k. has-replace m m k a ∙ step k (eqb k m) refl)
  where
    step : (k : ℕ) (b : Bool) → eqb k m ≡ b → (b && has m a || has k a && not b) ≡ has k a
    step k true e = ap (λ n. has n a || has k a && false) (sym (eqb-true k m e)) ∙ ap (λ b. has k a || b) (and-false (has k a)) ∙ or-false (has k a)
    step k false e = and-true (has k a)

-- a set that has one number more meets r where it did, or where r has that number
pub meets-more : (r a i : ℕ) → not (eqb (bit_and r (bit_or a (2 ^ i))) 0) ≡ (not (eqb (bit_and r a) 0) || has i r)
meets-more r a i = go (eqb (bit_and r a) 0) (has i r) refl refl
  where
    each : (m : ℕ) → has m (bit_and r (bit_or a (2 ^ i))) ≡ (has m r && (has m a || eqb m i))
    each m = has-and m r (bit_or a (2 ^ i)) ∙ ap (λ b. has m r && b) (has-or m a (2 ^ i) ∙ ap (λ b. has m a || b) (has-pow m i))

    -- where there is a number in common, it is one of the union's
    some : (m : ℕ) → has m (bit_and r (bit_or a (2 ^ i))) ≡ true → eqb (bit_and r (bit_or a (2 ^ i))) 0 ≡ false
    some m h = ne_eqb (bit_and r (bit_or a (2 ^ i))) 0 (λ e. true≢false (sym h ∙ ap (has m) e ∙ has-none m))

    none : (m : ℕ) → bit_and r a ≡ 0 → has i r ≡ false → (b : Bool) → eqb m i ≡ b → (has m r && (has m a || b)) ≡ false
    none m e h true f = ap (λ k. has k r && (has m a || true)) (eqb-true m i f) ∙ ap (λ b. b && (has m a || true)) h
    none m e h false f = ap (λ b. has m r && b) (or-false (has m a)) ∙ sym (has-and m r a) ∙ ap (has m) e ∙ has-none m

    go : (x y : Bool) → eqb (bit_and r a) 0 ≡ x → has i r ≡ y → not (eqb (bit_and r (bit_or a (2 ^ i))) 0) ≡ (not x || y)
    go true true e h = ap not (some i (each i ∙ ap₂ (λ b c. b && (has i a || c)) h (eq-eqb i i refl) ∙ or-true (has i a)))
    go true false e h =
        ap not (eq-eqb (bit_and r (bit_or a (2 ^ i))) 0 (has-none-zero (bit_and r (bit_or a (2 ^ i))) (λ m. each m ∙ none m (eqb-true (bit_and r a) 0 e) h (eqb m i) refl)))
    go false y e h = ap not (not-true-false (eqb (bit_and r (bit_or a (2 ^ i))) 0) (λ z. eqb-false (bit_and r a) 0 e (has-none-zero (bit_and r a) (λ m. less m (eqb-true (bit_and r (bit_or a (2 ^ i))) 0 z)))))
      where
        less : (m : ℕ) → bit_and r (bit_or a (2 ^ i)) ≡ 0 → has m (bit_and r a) ≡ false
        less m z = has-and m r a ∙ part (has m r) (has m a) (eqb m i) (sym (each m) ∙ ap (has m) z ∙ has-none m)
          where
            part : (b c d : Bool) → (b && (c || d)) ≡ false → (b && c) ≡ false
            part true true d f = f
            part true false d f = refl
            part false c d f = refl

-- ---- the mark of the rule's label out of U or in it

module _ (b : Bool) (u r : ℕ) where
  abbrev pub marked : ℕ
  marked = cond b (without u r) (bit_or r (2 ^ u))

  -- other marks stay
  pub others-stay : (n : ℕ) → (n ≡ u → ⊥) → has n marked ≡ has n r
  others-stay n e = go b
    where
      go : (d : Bool) → has n (cond d (without u r) (bit_or r (2 ^ u))) ≡ has n r
      go true = has-without u n r ∙ ap (λ x. has n r && not x) (ne_eqb n u e) ∙ and-true (has n r)
      go false = has-or n r (2 ^ u) ∙ ap (λ x. has n r || x) (has-pow n u ∙ ne_eqb n u e) ∙ or-false (has n r)

  -- a connect after it
  pub marked_more : (d : Bool) → cond d (without u marked) marked ≡ cond (b || d) (without u r) (bit_or r (2 ^ u))
  marked_more d = go b d
    where
      go : (b d : Bool) → cond d (without u (cond b (without u r) (bit_or r (2 ^ u)))) (cond b (without u r) (bit_or r (2 ^ u))) ≡ cond (b || d) (without u r) (bit_or r (2 ^ u))
      go true true = absent-out u (without u r) (has-gone u r)
      go true false = refl
      go false true = without-or u r
      go false false = refl

module _ (K : ℕ) where
  relabel-same : (g r : ℕ) → relabel_triple K g g r ≡ r
  unfolding relabel_triple
  relabel-same g r = replace-same g _ ∙ replace-same (K + g) _ ∙ replace-same (2 * K + g) r

  pub judged : (j : Judge) (g h q r : ℕ) → j.label ≡ g → j.after ≡ h → j.leaves ≡ 0 → judge_triple K j q r ≡ relabel_triple K g h (marked (is_met j q r) (2 * K + g) r)
  unfolding judge_triple settled mark_u
  judged j g h q r e f z =
      ap (λ (b : Bool). cond b (settled K j.label j.after (is_met j q r) r) (cond (is_met j q r) r (bit_or r (mark_u K j.after)))) (eq-eqb j.leaves 0 z)
      ∙ ap₂ (λ a b. relabel_triple K a b (marked (is_met j q r) (2 * K + a) r)) e f

  -- a rule that keeps its label
  pub keeps-label : (j : Judge) (g q r : ℕ) → j.label ≡ g → j.after ≡ g → j.leaves ≡ 0 → judge_triple K j q r ≡ marked (is_met j q r) (2 * K + g) r
  keeps-label j g q r e f z = judged j g g q r e f z ∙ relabel-same g (marked (is_met j q r) (2 * K + g) r)

  settles-same : (k : Kind) (i g : ℕ) → i < K → (b d : Bool) (q r : ℕ) → settles K k i (marked b (2 * K + g) q) (marked d (2 * K + g) r) ≡ settles K k i q r
  unfolding settles
  settles-same Head i g l b d q r = others-stay d (2 * K + g) r i (λ e. omega arith)
  settles-same Positive i g l b d q r = others-stay d (2 * K + g) r (K + i) (λ e. omega arith)
  settles-same Negative i g l b d q r = others-stay b (2 * K + g) q i (λ e. omega arith)

  module _ (j x : Judge) (g : ℕ) (e : j.label ≡ g) (f : j.after ≡ g) (z : j.leaves ≡ 0) (y : x.leaves ≡ 0) (q r : ℕ) where
    -- a connect of its label, after it
    pub connect-more : (k : Kind) (i : ℕ) → i < K → x.label ≡ g → x.after ≡ g → is_met x q r ≡ (is_met j q r || settles K k i q r)
        → judge_triple K x q r ≡ connect_triple K k i g (judge_triple K j q q) (judge_triple K j q r)
    unfolding connect_triple
    connect-more k i l ex fx m =
        keeps-label x g q r ex fx y
        ∙ ap (λ b. marked b (2 * K + g) r) m
        ∙ sym (marked_more (is_met j q r) (2 * K + g) r (settles K k i q r))
        ∙ ap (λ b. cond b (without (2 * K + g) (marked (is_met j q r) (2 * K + g) r)) (marked (is_met j q r) (2 * K + g) r)) (sym (settles-same k i g l (is_met j q q) (is_met j q r) q r))
        ∙ ap₂ (λ a c. cond (settles K k i a c) (without (2 * K + g) c) c) (sym (keeps-label j g q q e f z)) (sym (keeps-label j g q r e f z))

    -- a relabel of its label, after it
    pub relabel-more : (h : ℕ) → x.label ≡ g → x.after ≡ h → is_met x q r ≡ is_met j q r
        → judge_triple K x q r ≡ relabel_triple K g h (judge_triple K j q r)
    relabel-more h ex fx m =
        judged x g h q r ex fx y ∙ ap (λ b. relabel_triple K g h (marked b (2 * K + g) r)) m ∙ ap (relabel_triple K g h) (sym (keeps-label j g q r e f z))

  -- a rule with no atoms
  pub no-atoms : (j : Judge) (g q r : ℕ) → j.label ≡ g → j.after ≡ g → j.leaves ≡ 0 → is_met j q r ≡ false → judge_triple K j q r ≡ bit_or r (mark_u K g)
  unfolding mark_u
  no-atoms j g q r e f z m = keeps-label j g q r e f z ∙ ap (λ b. marked b (2 * K + g) r) m
