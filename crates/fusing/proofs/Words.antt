-- The words of rules judged at once: read again, with a command more, in front of another one; and a word for one command. Assumes nothing.
use mathlib.Core.Path.{◌≡◌, refl, sym, ap, ap₂, ◌∙◌}
use mathlib.Core.Bool.{Bool, true, false, not, ◌||◌, or-true, or-false, true≢false}
use Prim.Native.Nat.{ℕ, suc, ◌+◌, ◌*◌, ◌/◌, ◌%◌, ◌^◌, ◌≤◌, ◌<◌}
use native.Mathlib.Nat.{add-mul, mul_assoc, suc-mul}
use native.Mathlib.Omega.{arith}
use lib.Arith.{digits_div, digits_mod}
use lib.Bits.{bit_and, bit_or, or_lt, and_zero_r}
use lib.Pow.{pow-lt, pow-add, shr-shr}
use lib.Dec.{eqb}
use Rattle.labels.specs.Sets.{has}
use Rattle.expression.specs.declared.Kind.{Kind}
use Rattle.expression.specs.declared.Kind.TheVariants.{Head, Positive, Negative}
use Rattle.expression.specs.declared.Command.{Command}
use Rattle.expression.specs.declared.Command.TheVariants.{Relabel, Connect}
use Rattle.tables.specs.Triples.{settles, relabel_triple, connect_triple}
use Rattle.batches.specs.declared.Judge.{Judge}
use Rattle.batches.specs.Batches.{command_of, step_triple, is_met, Fits, judges_from, judge_of, judge_triple, word_triple}
use Rattle.batches.proofs.Steps.{digit-fits, label-in, mark-is, rule-word}
use Rattle.batches.proofs.Words.{by-judge}
use Rattle.fusing.proofs.Judging.{meets-more, connect-more, relabel-more, no-atoms}

pub with-mark : (k a n w : ℕ) → a < 2 ^ k → n < k → k ≤ w → bit_or a ((1 * 2 ^ n) % 2 ^ w) < 2 ^ k
with-mark k a n w h l m = rw (mark-is n w (omega arith)) (or_lt k a (2 ^ n) h (pow-lt l))

-- a word without one digit more
higher : (K w k : ℕ) {x d : ℕ} → w / 2 ^ (k * K) ≡ x * 2 ^ K + d → d < 2 ^ K → w / 2 ^ (suc k * K) ≡ x
higher K w k {x} e l = ap (λ n. w / 2 ^ n) (suc-mul k K) ∙ sym (shr-shr w (k * K) K) ∙ ap (λ z. z / 2 ^ K) e ∙ digits_div x l

-- a rule's word, read again
pub word_fits : (K m n g h l w : ℕ) → Fits K (record { marks = m; negative = n; label = g; after = h; leaves = l })
    → w ≡ (((1 + l) * 2 ^ K + h) * 2 ^ K + g) * 2 ^ (3 * K) + n * 2 ^ (2 * K) + m
    → judge_of K w ≡ record { marks = m; negative = n; label = g; after = h; leaves = l }
unfolding judge_of
word_fits K m n g h l w f e =
    let y : ℕ = (1 + l) * 2 ^ K + h in
    let x : ℕ = y * 2 ^ K + g in
    let p : 2 ^ (3 * K) ≡ 2 ^ K * 2 ^ (2 * K) = ap (λ k. 2 ^ k) (omega arith) ∙ pow-add 2 K (2 * K) in
    let o : w ≡ (x * 2 ^ K + n) * 2 ^ (2 * K) + m = e ∙ ap (λ z. z + n * 2 ^ (2 * K) + m) (ap (λ z. x * z) p ∙ sym (mul_assoc x (2 ^ K) (2 ^ (2 * K)))) ∙ ap (λ z. z + m) (sym (add-mul (x * 2 ^ K) n (2 ^ (2 * K)))) in
    let a : w % 2 ^ (2 * K) ≡ m = ap (λ z. z % 2 ^ (2 * K)) o ∙ digits_mod (x * 2 ^ K + n) f.0 in
    let u : w / 2 ^ (2 * K) ≡ x * 2 ^ K + n = ap (λ z. z / 2 ^ (2 * K)) o ∙ digits_div (x * 2 ^ K + n) f.0 in
    let v : w / 2 ^ (3 * K) ≡ x = higher K w 2 u f.1 in
    let t : w / 2 ^ (4 * K) ≡ y = higher K w 3 v (digit-fits K g f.2) in
    let r : w / 2 ^ (5 * K) ≡ 1 + l = higher K w 4 t (digit-fits K h f.3) in
    let i : (1 + l) / 2 % 2 ≡ l = omega (arith, f.4) in
    rw (a, u, v, t, r, digits_mod x f.1, label-in K y g f.2, label-in K (1 + l) h f.3, i)

-- ---- atoms put into a rule

or-back : (a b c : Bool) → (a || (b || c)) ≡ ((a || b) || c)
or-back true b c = refl
or-back false b c = refl

or-last : (a b c : Bool) → ((a || c) || b) ≡ ((a || b) || c)
or-last true b c = refl
or-last false true c = or-true c
or-last false false c = or-false c

module _ (K w : ℕ) (j : Judge) (k : Kind) (i q r : ℕ) (fit : 2 * K ≤ w) where
  pub head_in : i < K → k ≡ Head
      → is_met (record { marks = bit_or j.marks ((1 * 2 ^ i) % 2 ^ w); negative = j.negative; label = j.label; after = j.after; leaves = j.leaves }) q r ≡ (is_met j q r || settles K k i q r)
  unfolding is_met settles
  head_in l e = rw (e, mark-is i w (omega arith), meets-more r j.marks i) (or-back (not (eqb (bit_and q j.negative) 0)) (not (eqb (bit_and r j.marks) 0)) (has i r))

  pub positive-in : i < K → k ≡ Positive
      → is_met (record { marks = bit_or j.marks ((1 * 2 ^ (K + i)) % 2 ^ w); negative = j.negative; label = j.label; after = j.after; leaves = j.leaves }) q r ≡ (is_met j q r || settles K k i q r)
  unfolding is_met settles
  positive-in l e = rw (e, mark-is (K + i) w (omega arith), meets-more r j.marks (K + i)) (or-back (not (eqb (bit_and q j.negative) 0)) (not (eqb (bit_and r j.marks) 0)) (has (K + i) r))

  pub negative-in : i < K → k ≡ Negative
      → is_met (record { marks = j.marks; negative = bit_or j.negative ((1 * 2 ^ i) % 2 ^ w); label = j.label; after = j.after; leaves = j.leaves }) q r ≡ (is_met j q r || settles K k i q r)
  unfolding is_met settles
  negative-in l e = rw (e, mark-is i w (omega arith), meets-more q j.negative i) (or-last (not (eqb (bit_and q j.negative) 0)) (not (eqb (bit_and r j.marks) 0)) (has i q))

-- ---- a rule's word, and the word after a command more

reads : (K t : ℕ) → judges_from K ≤ t → (k : Judge) → k ≡ judge_of K t → (q r : ℕ) → word_triple K t q r ≡ judge_triple K k q r
reads K t l k e q r = by-judge K t q r l ∙ ap (λ (y : Judge). judge_triple K y q r) (sym e)

module _ (K w : ℕ) (j : Judge) (lw : judges_from K ≤ w) (ej : j ≡ judge_of K w) (s : ℕ) (x : Judge) (ls : judges_from K ≤ s) (ex : judge_of K s ≡ x) where
  module _ (g : ℕ) (el : j.label ≡ g) (ea : j.after ≡ g) (ez : j.leaves ≡ 0) (xz : x.leaves ≡ 0) (c : Command) (q r : ℕ) where
    pub connect-fused : (k : Kind) (i : ℕ) → c ≡ Connect k i g → i < K → x.label ≡ g → x.after ≡ g → is_met x q r ≡ (is_met j q r || settles K k i q r)
        → word_triple K s q r ≡ step_triple K c (word_triple K w q q) (word_triple K w q r)
    unfolding step_triple
    connect-fused k i ec l xl xa m =
        reads K s ls x (sym ex) q r
        ∙ connect-more K j x g el ea ez xz q r k i l xl xa m
        ∙ ap₂ (connect_triple K k i g) (sym (reads K w lw j ej q q)) (sym (reads K w lw j ej q r))
        ∙ ap (λ (d : Command). step_triple K d (word_triple K w q q) (word_triple K w q r)) (sym ec)

    pub relabel-fused : (h : ℕ) → c ≡ Relabel g h → x.label ≡ g → x.after ≡ h → is_met x q r ≡ is_met j q r
        → word_triple K s q r ≡ step_triple K c (word_triple K w q q) (word_triple K w q r)
    unfolding step_triple
    relabel-fused h ec xl xa m =
        reads K s ls x (sym ex) q r
        ∙ relabel-more K j x g el ea ez xz q r h xl xa m
        ∙ ap (relabel_triple K g h) (sym (reads K w lw j ej q r))
        ∙ ap (λ (d : Command). step_triple K d (word_triple K w q q) (word_triple K w q r)) (sym ec)

-- a rule's word in front of another's
module _ (K v w s : ℕ) (lv : judges_from K ≤ v) (lw : judges_from K ≤ w) (ls : judges_from K ≤ s) (i j x : Judge) (ei : i ≡ judge_of K v) (ej : j ≡ judge_of K w) (ex : judge_of K s ≡ x) where
  pub both-judged : (q r : ℕ) → judge_triple K j (judge_triple K x q q) (judge_triple K x q r) ≡ judge_triple K j (judge_triple K i q q) (judge_triple K i q r)
      → word_triple K w (word_triple K s q q) (word_triple K s q r) ≡ word_triple K w (word_triple K v q q) (word_triple K v q r)
  both-judged q r e =
      ap₂ (word_triple K w) (reads K s ls x (sym ex) q q) (reads K s ls x (sym ex) q r)
      ∙ reads K w lw j ej (judge_triple K x q q) (judge_triple K x q r)
      ∙ e
      ∙ sym (reads K w lw j ej (judge_triple K i q q) (judge_triple K i q r))
      ∙ ap₂ (word_triple K w) (sym (reads K v lv i ei q q)) (sym (reads K v lv i ei q r))

pub three-false : (a b c : Bool) → (a || (b || c)) ≡ false → (a ≡ false) × (b ≡ false) × (c ≡ false)
three-false true b c e = absurd (true≢false e)
three-false false true c e = absurd (true≢false e)
three-false false false c e = (refl, refl, e)

-- ---- a word for one command

no-marks : (g q r : ℕ) → is_met (record { marks = 0; negative = 0; label = g; after = g; leaves = 0 }) q r ≡ false
unfolding is_met
no-marks g q r = rw (and_zero_r q, and_zero_r r)

-- a rule
pub rule-alone : (K w s : ℕ) → w < K → judges_from K ≤ s → judge_of K s ≡ record { marks = 0; negative = 0; label = w; after = w; leaves = 0 }
    → (q r : ℕ) → word_triple K s q r ≡ step_triple K (command_of K w) q r
unfolding step_triple
rule-alone K w s l ls ex q r =
    by-judge K s q r ls
    ∙ ap (λ (y : Judge). judge_triple K y q r) ex
    ∙ no-atoms K (record { marks = 0; negative = 0; label = w; after = w; leaves = 0 }) w q r refl refl refl (no-marks w q r)
    ∙ ap (λ (d : Command). step_triple K d q r) (sym (rule-word K w l))
