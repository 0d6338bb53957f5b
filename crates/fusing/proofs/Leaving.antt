-- A rule may leave what has its label to a rule behind it that is relabelled alike, and has no atoms of these labels. Assumes nothing.
use mathlib.Core.Path.{◌≡◌, refl, sym, ap, ap₂, ◌∙◌}
use mathlib.Core.Bool.{Bool, true, false, cond, not, ◌&&◌, ◌||◌, true≢false, and-false, and-true, or-true}
use Prim.Native.Nat.{ℕ, ◌+◌, ◌*◌, ◌^◌, ◌≤◌, ◌<◌}
use native.Mathlib.Decide.{dec_le}
use native.Mathlib.Omega.{arith}
use lib.Bits.{bit_and, bit_or, or_comm}
use lib.Dec.{eqb}
use borrow.Author.Tests.{eqb-true, eq-eqb, ne_eqb}
use Rattle.labels.specs.Sets.{has, without, replace}
use Rattle.labels.proofs.Sets.{has-or, has-and, has-pow, has-without, has-gone, has-replace, has-ge, set-ext}
use Rattle.tables.specs.Triples.{mark_u, relabel_triple}
use Rattle.batches.specs.declared.Judge.{Judge}
use Rattle.batches.specs.Batches.{is_met, settled, judge_triple}
use Rattle.batches.proofs.Words.{with-has, without-or}
use Rattle.fusing.proofs.Judging.{absent-out, marked, judged}

-- ---- sets

module _ (n v z : ℕ) (d : v ≡ n → ⊥) where
  -- one number more, another one taken out
  without_other : without n (bit_or (2 ^ v) z) ≡ bit_or (2 ^ v) (without n z)
  without_other = set-ext (without n (bit_or (2 ^ v) z)) (bit_or (2 ^ v) (without n z)) (λ m.
      has-without n m (bit_or (2 ^ v) z) ∙ ap (λ b. b && not (eqb m n)) (has-or m (2 ^ v) z ∙ ap (λ b. b || has m z) (has-pow m v))
      ∙ step m (eqb m v) refl
      ∙ sym (has-or m (2 ^ v) (without n z) ∙ ap₂ ◌||◌ (has-pow m v) (has-without n m z)))
    where
      step : (m : ℕ) (b : Bool) → eqb m v ≡ b → ((b || has m z) && not (eqb m n)) ≡ (b || has m z && not (eqb m n))
      step m true e = ap not (ne_eqb m n (λ x. d (sym (eqb-true m v e) ∙ x)))
      step m false e = refl

  -- another one replaced
  replace-other : (k : ℕ) → replace n k (bit_or (2 ^ v) z) ≡ bit_or (2 ^ v) (replace n k z)
  replace-other k = set-ext (replace n k (bit_or (2 ^ v) z)) (bit_or (2 ^ v) (replace n k z)) (λ m.
      has-replace n k m (bit_or (2 ^ v) z)
      ∙ ap₂ (λ b c. eqb m k && b || c && not (eqb m n)) (has-or n (2 ^ v) z ∙ ap (λ b. b || has n z) (has-pow n v ∙ ne_eqb n v (λ x. d (sym x)))) (has-or m (2 ^ v) z ∙ ap (λ b. b || has m z) (has-pow m v))
      ∙ step m (eqb m v) refl
      ∙ sym (has-or m (2 ^ v) (replace n k z) ∙ ap₂ ◌||◌ (has-pow m v) (has-replace n k m z)))
    where
      step : (m : ℕ) (b : Bool) → eqb m v ≡ b → (eqb m k && has n z || (b || has m z) && not (eqb m n)) ≡ (b || (eqb m k && has n z || has m z && not (eqb m n)))
      step m true e = ap (λ b. eqb m k && has n z || b) (ap not (ne_eqb m n (λ x. d (sym (eqb-true m v e) ∙ x)))) ∙ or-true (eqb m k && has n z)
      step m false e = refl

module _ (n k a : ℕ) where
  gone : (n ≡ k → ⊥) → has n (replace n k a) ≡ false
  gone d = has-replace n k n a ∙ ap₂ (λ b c. b && has n a || has n a && not c) (ne_eqb n k d) (eq-eqb n n refl) ∙ and-false (has n a)

  stays : (m : ℕ) → (m ≡ n → ⊥) → (m ≡ k → ⊥) → has m (replace n k a) ≡ has m a
  stays m d e = has-replace n k m a ∙ ap₂ (λ b c. b && has n a || has m a && not c) (ne_eqb m k e) (ne_eqb m n d) ∙ and-true (has m a)

  absent : has n a ≡ false → replace n k a ≡ a
  unfolding replace
  absent e = rw e

  present : has n a ≡ true → replace n k a ≡ bit_or (2 ^ k) (without n a)
  unfolding replace
  present e = rw e

-- sets alike where a has a number
and-agree : (a y z : ℕ) → ((m : ℕ) → has m a ≡ true → has m y ≡ has m z) → bit_and y a ≡ bit_and z a
and-agree a y z e = set-ext (bit_and y a) (bit_and z a) (λ m. has-and m y a ∙ step m (has m a) refl ∙ sym (has-and m z a))
  where
    step : (m : ℕ) (b : Bool) → has m a ≡ b → (has m y && b) ≡ (has m z && b)
    step m true h = ap (λ b. b && true) (e m h)
    step m false h = and-false (has m y) ∙ sym (and-false (has m z))

below : (k m a : ℕ) → a < 2 ^ k → has m a ≡ true → m < k
below k m a l h = go (dec_le k m)
  where
    go : Dec (k ≤ m) → m < k
    go (yes x) = absurd (true≢false (sym h ∙ has-ge m k a l x))
    go (no x) = omega arith

-- ---- a triple whose marks of label g are gone, those of atoms to label h

module _ (K g h : ℕ) (lg : g < K) (lh : h < K) (ne : g ≡ h → ⊥) where
  abbrev cleared : ℕ → ℕ
  cleared y = replace g h (replace (K + g) (K + h) (without (2 * K + g) y))

  -- the label h put into U where a rule is not met
  abbrev put : Bool → ℕ → ℕ
  put b z = cond b z (bit_or (2 ^ (2 * K + h)) z)

  relabel-put : (y z : ℕ) → replace (2 * K + g) (2 * K + h) y ≡ bit_or (2 ^ (2 * K + h)) z → relabel_triple K g h y ≡ bit_or (2 ^ (2 * K + h)) (replace g h (replace (K + g) (K + h) z))
  unfolding relabel_triple
  relabel-put y z e =
      ap (λ t. replace g h (replace (K + g) (K + h) t)) e
      ∙ ap (replace g h) (replace-other (K + g) (2 * K + h) z (λ x. omega arith) (K + h))
      ∙ replace-other g (2 * K + h) (replace (K + g) (K + h) z) (λ x. omega arith) h

  is-put : (b : Bool) (y : ℕ) → relabel_triple K g h (marked b (2 * K + g) y) ≡ put b (cleared y)
  unfolding relabel_triple
  is-put true y = ap (λ t. replace g h (replace (K + g) (K + h) t)) (absent (2 * K + g) (2 * K + h) (without (2 * K + g) y) (has-gone (2 * K + g) y))
  is-put false y =
      relabel-put (bit_or y (2 ^ (2 * K + g))) (without (2 * K + g) y)
      (present (2 * K + g) (2 * K + h) (bit_or y (2 ^ (2 * K + g))) (with-has (2 * K + g) y) ∙ ap (bit_or (2 ^ (2 * K + h))) (without-or (2 * K + g) y))

  cleared-put : (b : Bool) (y : ℕ) → cleared (put b y) ≡ put b (cleared y)
  cleared-put true y = refl
  cleared-put false y =
      ap (λ t. replace g h (replace (K + g) (K + h) t)) (without_other (2 * K + g) (2 * K + h) y (λ x. ne (omega arith)))
      ∙ ap (replace g h) (replace-other (K + g) (2 * K + h) (without (2 * K + g) y) (λ x. omega arith) (K + h))
      ∙ replace-other g (2 * K + h) (replace (K + g) (K + h) (without (2 * K + g) y)) (λ x. omega arith) h

  cleared-twice : (y : ℕ) → cleared (cleared y) ≡ cleared y
  cleared-twice y =
      ap (λ t. replace g h (replace (K + g) (K + h) t)) (absent-out (2 * K + g) (cleared y) no-u)
      ∙ ap (replace g h) (absent (K + g) (K + h) (cleared y) no-f)
      ∙ absent g h (cleared y) (gone g h (replace (K + g) (K + h) (without (2 * K + g) y)) ne)
    where
      no-u : has (2 * K + g) (cleared y) ≡ false
      no-u =
          stays g h (replace (K + g) (K + h) (without (2 * K + g) y)) (2 * K + g) (λ x. omega arith) (λ x. omega arith)
          ∙ stays (K + g) (K + h) (without (2 * K + g) y) (2 * K + g) (λ x. omega arith) (λ x. omega arith) ∙ has-gone (2 * K + g) y

      no-f : has (K + g) (cleared y) ≡ false
      no-f = stays g h (replace (K + g) (K + h) (without (2 * K + g) y)) (K + g) (λ x. omega arith) (λ x. omega arith) ∙ gone (K + g) (K + h) (without (2 * K + g) y) (λ x. ne (omega arith))

  -- marks of atoms of other labels
  agrees : (b : Bool) (y m : ℕ) → m < 2 * K → (m ≡ g → ⊥) → (m ≡ h → ⊥) → (m ≡ K + g → ⊥) → (m ≡ K + h → ⊥) → has m (put b (cleared y)) ≡ has m (put b y)
  agrees b y m l a c d e = go b
    where
      same : has m (cleared y) ≡ has m y
      same =
          stays g h (replace (K + g) (K + h) (without (2 * K + g) y)) m a c ∙ stays (K + g) (K + h) (without (2 * K + g) y) m d e
          ∙ has-without (2 * K + g) m y ∙ ap (λ x. has m y && not x) (ne_eqb m (2 * K + g) (λ x. omega arith)) ∙ and-true (has m y)

      go : (b : Bool) → has m (put b (cleared y)) ≡ has m (put b y)
      go true = same
      go false = has-or m (2 ^ (2 * K + h)) (cleared y) ∙ ap (λ x. has m (2 ^ (2 * K + h)) || x) same ∙ sym (has-or m (2 ^ (2 * K + h)) y)

  -- a rule without atoms of the labels g and h
  module _ (j : Judge) (lm : j.marks < 2 ^ (2 * K)) (ln : j.negative < 2 ^ K)
      (mg : has g j.marks ≡ false) (fg : has (K + g) j.marks ≡ false) (ng : has g j.negative ≡ false)
      (mh : has h j.marks ≡ false) (fh : has (K + h) j.marks ≡ false) (nh : has h j.negative ≡ false) where
    differ : (a m n : ℕ) → has m a ≡ true → has n a ≡ false → m ≡ n → ⊥
    differ a m n x y e = true≢false (sym x ∙ ap (λ t. has t a) e ∙ y)

    same_met : (b d : Bool) (q r : ℕ) → is_met j (put b (cleared q)) (put d (cleared r)) ≡ is_met j (put b q) (put d r)
    unfolding is_met
    same_met b d q r =
        ap₂ (λ x y. not (eqb x 0) || not (eqb y 0))
        (and-agree j.negative (put b (cleared q)) (put b q) (λ m t. let l = below K m j.negative ln t in agrees b q m (omega arith) (differ j.negative m g t ng) (differ j.negative m h t nh) (λ x. omega arith) (λ x. omega arith)))
        (and-agree j.marks (put d (cleared r)) (put d r) (λ m t. agrees d r m (below (2 * K) m j.marks lm t) (differ j.marks m g t mg) (differ j.marks m h t mh) (differ j.marks m (K + g) t fg) (differ j.marks m (K + h) t fh)))

    -- so the one in front of it may leave what has the label g
    module _ (i x : Judge) (il : i.label ≡ g) (ia : i.after ≡ h) (iz : i.leaves ≡ 0) (xa : x.after ≡ h) (xz : x.leaves ≡ 0 → ⊥) (jl : j.label ≡ g) (ja : j.after ≡ h) (jz : j.leaves ≡ 0) where
      whole : (q r : ℕ) → judge_triple K i q r ≡ put (is_met i q r) (cleared r)
      whole q r = judged K i g h q r il ia iz ∙ is-put (is_met i q r) r

      light : (q r : ℕ) → is_met x q r ≡ is_met i q r → judge_triple K x q r ≡ put (is_met i q r) r
      unfolding judge_triple mark_u
      light q r e =
          ap (λ (b : Bool). cond b (settled K x.label x.after (is_met x q r) r) (cond (is_met x q r) r (bit_or r (2 ^ (2 * K + x.after))))) (ne_eqb x.leaves 0 xz)
          ∙ ap₂ (λ (b : Bool) (t : ℕ). cond b r (bit_or r (2 ^ (2 * K + t)))) e xa
          ∙ ap (λ (t : ℕ). cond (is_met i q r) r t) (or_comm r (2 ^ (2 * K + h)))

      pub left-to : (q r : ℕ) → ((t : ℕ) → is_met x q t ≡ is_met i q t) → judge_triple K j (judge_triple K x q q) (judge_triple K x q r) ≡ judge_triple K j (judge_triple K i q q) (judge_triple K i q r)
      left-to q r e =
          ap₂ (judge_triple K j) (light q q (e q)) (light q r (e r))
          ∙ judged K j g h (put b q) (put d r) jl ja jz ∙ is-put (is_met j (put b q) (put d r)) (put d r)
          ∙ ap₂ put (sym (same_met b d q r)) (cleared-put d r ∙ ap (put d) (sym (cleared-twice r)) ∙ sym (cleared-put d (cleared r)))
          ∙ sym (judged K j g h (put b (cleared q)) (put d (cleared r)) jl ja jz ∙ is-put (is_met j (put b (cleared q)) (put d (cleared r))) (put d (cleared r)))
          ∙ ap₂ (judge_triple K j) (sym (whole q q)) (sym (whole q r))
        where
          b : Bool
          b = is_met i q q

          d : Bool
          d = is_met i q r
