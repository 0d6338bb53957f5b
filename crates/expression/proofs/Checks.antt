-- Laws of the checks: the walk of `check_bytes` (its start, one step, its ways out), and what the tests after it may use. Assumes nothing.
use mathlib.Core.Path.{◌≡◌, refl, sym, ap, ◌∙◌, subst}
use mathlib.Core.Bool.{Bool, true, false, true≢false, cond, ◌&&◌}
use mathlib.Core.List.{List, [], ◌∷◌, ◌++◌}
use Prim.Native.Nat.{ℕ, zero, suc, ◌+◌, ◌/◌, ◌^◌, ◌≤◌, ◌<◌}
use native.Mathlib.Nat.{mul-le-mul, div-eq_of_lt, div-lt_iff_lt-mul}
use native.Mathlib.Omega.{arith}
use lib.Dec.{eqb, ltb}
use lib.ListN.{length}
use lib.Pow.{pow_pos}
use borrow.Author.Tests.{eq-eqb, ne_eqb, eqb-true, ltb-true, ltb-false, not-false}
use Rattle.lists.specs.Lists.{All}
use Rattle.lists.proofs.Members.{and_both}
use Rattle.expression.specs.declared.Command.{Command}
use Rattle.expression.specs.declared.Counts.{Counts}
use Rattle.expression.specs.Limits.{byte_limit, depth_limit, table_limit, area_words, count_limit, areas_for, area_count, workspace_need}
use Rattle.expression.specs.Refusals.{overlong, unjoined}
use Rattle.expression.specs.Commands.{Got, Fault, read_at}
use Rattle.expression.specs.Reading.{no_counts, counted, capped, count_fault, Placed, Reading, faulty, whole, behind, read_from, reading}
use Rattle.expression.specs.Checks.{Checked, Passed, Refused, Test, first_of, is_faulty, fault_number, fault_place, counts_of, is_limit, overlong_test, fault_test, unjoined_test, check_bytes, check_sheet}
use Rattle.expression.proofs.Commands.{read-ends}
use Rattle.expression.proofs.Totals.{AtMost, none-at-most, counted-at-most, capped_same, Limited}
use Rattle.expression.proofs.Readings.{from_end, from-fault, from-count-fault, from_step, reading-limited}

-- ---- the walk of `check_bytes`

-- what a reading is answered with
pub verdict : List ℕ → Reading → Checked
verdict s r = first_of (counts_of r) (fault_test r ∷ unjoined_test s r ∷ [])

verdict-behind : (s : List ℕ) (p : Placed) (r : Reading) → verdict s (behind p r) ≡ verdict s r
unfolding verdict behind first_of fault_test unjoined_test is_faulty fault_number fault_place counts_of
verdict-behind s p (faulty f at) = refl
verdict-behind s p (whole cs z) = refl

module _ (K : ℕ) (s : List ℕ) where
  -- the walk has come to `at` with counts n: some fuel, enough for the rest, gives from here the whole verdict
  abbrev pub Unread : ℕ → Counts → Type 0
  Unread at n = (at ≤ length s) × AtMost at n × ((k : ℕ) × (length s ≤ at + k) × (verdict s (read_from K k s at n) ≡ check_bytes K s))

  pub unread-start : (n : Counts) → n ≡ no_counts → Unread 0 n
  unfolding verdict check_bytes reading
  unread-start n e = subst (Unread 0) (sym e) (omega arith, none-at-most 0, (length s, omega arith, refl))

  module _ (at : ℕ) (n : Counts) (within : at < length s) where
    -- m is what the code counts
    pub unread-step : (c : Command) (next : ℕ) (m : Counts) → read_at K s at ≡ Got c next → count_fault n c ≡ 0 → m ≡ capped (counted n c) → length s ≤ count_limit → Unread at n → Unread next m
    unread-step c next m e g f l (h, w, (zero, x, p)) = absurd (omega arith)
    unread-step c next m e g f l (h, w, (suc k, x, p)) =
        let b = read-ends K s at c next e in
        let v = counted-at-most at next n c w b.0 in
        subst (Unread next) (sym (f ∙ capped_same next (counted n c) v (omega arith)))
        (b.1, v, (k, omega arith, sym (ap (verdict s) (from_step K k s at n within c next e g) ∙ verdict-behind s _ _) ∙ p))

    pub unread-fault : (f : ℕ) → read_at K s at ≡ Fault f → Unread at n → Refused f at ≡ check_bytes K s
    unfolding verdict first_of fault_test is_faulty fault_number fault_place counts_of
    unread-fault f e (h, w, (zero, x, p)) = absurd (omega arith)
    unread-fault f e (h, w, (suc k, x, p)) = sym (ap (verdict s) (from-fault K k s at n within f e)) ∙ p

    pub unread-count-fault : (c : Command) (next f : ℕ) → read_at K s at ≡ Got c next → count_fault n c ≡ f → 0 < f → Unread at n → Refused f at ≡ check_bytes K s
    unfolding verdict first_of fault_test is_faulty fault_number fault_place counts_of
    unread-count-fault c next f e g y (h, w, (zero, x, p)) = absurd (omega arith)
    unread-count-fault c next zero e g y (h, w, (suc k, x, p)) = absurd (omega arith)
    unread-count-fault c next (suc f) e g y (h, w, (suc k, x, p)) = sym (ap (verdict s) (from-count-fault K k s at n within c next f e g)) ∙ p

  module _ (at : ℕ) (n : Counts) (past : length s ≤ at) where
    pub unread-unjoined : (n.depth ≡ 1 → ⊥) → Unread at n → Refused unjoined (length s) ≡ check_bytes K s
    unfolding verdict first_of fault_test unjoined_test is_faulty fault_number fault_place counts_of
    unread-unjoined e (h, w, (k, x, p)) = simp (ne_eqb n.depth 1 e) at (sym (ap (verdict s) (from_end K k s at n past)) ∙ p)

    pub unread-joined : n.depth ≡ 1 → Unread at n → Passed n ≡ check_bytes K s
    unfolding verdict first_of fault_test unjoined_test is_faulty fault_number fault_place counts_of
    unread-joined e (h, w, (k, x, p)) = simp (eq-eqb n.depth 1 e) at (sym (ap (verdict s) (from_end K k s at n past)) ∙ p)

-- ---- the tests in their order, each by its place in the list

-- none of them refuses
abbrev pub Pass : List Test → Type 0
Pass ts = All (λ t. t.refuses ≡ false) ts

module _ (z : Counts) (t : Test) (ts : List Test) where
  pub refuses : t.refuses ≡ true → Refused t.number t.place ≡ first_of z (t ∷ ts)
  unfolding first_of
  refuses h = simp h

  pub passes : (x : Checked) → t.refuses ≡ false → x ≡ first_of z ts → x ≡ first_of z (t ∷ ts)
  unfolding first_of
  passes x h e = rw h e

pub none_left : (z : Counts) → Passed z ≡ first_of z []
unfolding first_of
none_left z = refl

-- where a list passes, none of its tests refuses, and the counts are those given
pub passed-all : (z n : Counts) (ts : List Test) → first_of z ts ≡ Passed n → Pass ts × (z ≡ n)
unfolding first_of
passed-all z n [] h = (tt, cc)
passed-all z n (t ∷ ts) h = step t.refuses refl (λ k. passed-all z n ts k) h
  where
    step : (b : Bool) → t.refuses ≡ b → (first_of z ts ≡ Passed n → Pass ts × (z ≡ n)) → cond b (Refused t.number t.place) (first_of z ts) ≡ Passed n
        → Pass (t ∷ ts) × (z ≡ n)
    step true e g k = let q : ◌≡◌ {A = ℕ} 0 1 = cc in absurd (omega arith)
    step false e g k = let r = g k in ((e, r.0), r.1)

-- the first of them that refuses, and x where none does
unfoldable pub first_else : Checked → List Test → Checked
first_else x [] = x
first_else x (t ∷ ts) = cond t.refuses (Refused t.number t.place) (first_else x ts)

pub first-append : (z : Counts) (xs ys : List Test) → first_of z (xs ++ ys) ≡ first_else (first_of z ys) xs
unfolding first_of first_else
first-append z [] ys = refl
first-append z (t ∷ xs) ys = ap (cond t.refuses (Refused t.number t.place)) (first-append z xs ys)

pub else-pass : (x : Checked) (ts : List Test) → Pass ts → first_else x ts ≡ x
unfolding first_else
else-pass x [] h = refl
else-pass x (t ∷ ts) h = rw h.0 (else-pass x ts h.1)

pub else-refuse : (z : Counts) (x : Checked) (ts : List Test) {n at : ℕ} → first_of z ts ≡ Refused n at → first_else x ts ≡ Refused n at
unfolding first_of first_else
else-refuse z x [] h = let q : ◌≡◌ {A = ℕ} 0 1 = cc in absurd (omega arith)
else-refuse z x (t ∷ ts) {n} {at} h = step t.refuses (λ k. else-refuse z x ts k) h
  where
    step : (b : Bool) → (first_of z ts ≡ Refused n at → first_else x ts ≡ Refused n at) → cond b (Refused t.number t.place) (first_of z ts) ≡ Refused n at
        → cond b (Refused t.number t.place) (first_else x ts) ≡ Refused n at
    step true g k = k
    step false g k = g k

-- 5 to 12 refuse, whatever tests come behind
pub bytes-refuse : (K : ℕ) (s : List ℕ) (ts : List Test) (f at : ℕ) → check_bytes K s ≡ Refused f at
    → Refused f at ≡ first_of (counts_of (reading K s)) (fault_test (reading K s) ∷ unjoined_test s (reading K s) ∷ ts)
unfolding check_bytes
bytes-refuse K s ts f at h =
    let r = reading K s in
    let xs = fault_test r ∷ unjoined_test s r ∷ [] in
    sym (first-append (counts_of r) xs ts ∙ else-refuse (counts_of r) (first_of (counts_of r) ts) xs h)

-- 5 to 12 pass: the whole expression was read, and leaves one operand
pub record Joined (K : ℕ) (s : List ℕ) (n : Counts) : Type 0 where
  pub placed : List Placed
  pub read : reading K s ≡ whole placed n
  pub joined : n.depth ≡ 1
  pub limited : Limited n

pub bytes-joined : (K : ℕ) (s : List ℕ) (n : Counts) → check_bytes K s ≡ Passed n → Joined K s n
unfolding check_bytes fault_test unjoined_test is_faulty counts_of
bytes-joined K s n h = let ((sound, (one, none)), e) = passed-all (counts_of (reading K s)) n (fault_test (reading K s) ∷ unjoined_test s (reading K s) ∷ []) h in reads (reading K s) refl sound (eqb-true _ 1 (not-false _ one)) e
  where
    reads : (r : Reading) → reading K s ≡ r → is_faulty r ≡ false → (counts_of r).depth ≡ 1 → counts_of r ≡ n → Joined K s n
    reads (faulty g p) e f j q = absurd (true≢false f)
    reads (whole cs z) e f j q =
        let w = e ∙ ap (whole cs) q in
        record { placed = cs; read = w; joined = sym (ap (λ (x : Counts). x.depth) q) ∙ j; limited = reading-limited K s cs n w }

-- what passes the checks of a sheet passes those that read its bytes
pub sheet-joined : (K : ℕ) (s : List ℕ) (n : Counts) → check_sheet K s ≡ Passed n → Joined K s n
unfolding check_sheet check_bytes overlong_test first_of
sheet-joined K s n h = step (ltb byte_limit (length s)) h
  where
    step : (b : Bool) → cond b (Refused overlong 0) (check_bytes K s) ≡ Passed n → Joined K s n
    step true e = let z : ◌≡◌ {A = ℕ} 0 1 = cc in absurd (omega arith)
    step false e = bytes-joined K s n e

-- then the tests behind decide, on the counts
pub bytes-pass : (K : ℕ) (s : List ℕ) (ts : Counts → List Test) (n : Counts) (x : Checked) → check_bytes K s ≡ Passed n → x ≡ first_of n (ts n)
    → x ≡ first_of (counts_of (reading K s)) (fault_test (reading K s) ∷ unjoined_test s (reading K s) ∷ ts (counts_of (reading K s)))
unfolding check_bytes
bytes-pass K s ts n x h e =
    let r = reading K s in
    let xs = fault_test r ∷ unjoined_test s r ∷ [] in
    let (pass, q) = passed-all (counts_of r) n xs h in
    e ∙ ap (λ (m : Counts). first_of m (ts m)) (sym q) ∙ sym (first-append (counts_of r) xs (ts (counts_of r)) ∙ else-pass (first_of (counts_of r) (ts (counts_of r))) xs pass)

-- ---- tests of numbers

pub limit-tested : (x : ℕ) → is_limit x ≡ true → (0 < x) × (x ≤ table_limit)
unfolding is_limit
limit-tested x h =
    let b = and_both (ltb 0 x) (ltb x (table_limit + 1)) h in
    let u = ltb-true x (table_limit + 1) b.1 in
    (ltb-true 0 x b.0, omega arith)

pub limits-tested : (P G : ℕ) → (is_limit P && is_limit G) ≡ true → (P ≤ table_limit) × (G ≤ table_limit)
limits-tested P G h = let b = and_both (is_limit P) (is_limit G) h in ((limit-tested P b.0).1, (limit-tested G b.1).1)

pub area-bound : (P G : ℕ) → P ≤ table_limit → G ≤ table_limit → area_words P G ≤ area_words table_limit table_limit
area-bound P G p g = let h : G + 2 ≤ table_limit + 2 = omega arith in mul-le-mul p h

pub need-bound : (d P G : ℕ) → d ≤ depth_limit → P ≤ table_limit → G ≤ table_limit → workspace_need d P G ≤ workspace_need depth_limit table_limit table_limit
need-bound d P G l p g = let h : areas_for d ≤ area_count = omega arith in mul-le-mul h (area-bound P G p g)

-- no bit of x stands at n or past it
pub shifted-out : (x n : ℕ) → eqb (x / 2 ^ n) 0 ≡ ltb x (2 ^ n)
shifted-out x n = step (ltb x (2 ^ n)) refl
  where
    step : (b : Bool) → ltb x (2 ^ n) ≡ b → eqb (x / 2 ^ n) 0 ≡ b
    step true e = eq-eqb (x / 2 ^ n) 0 (div-eq_of_lt (ltb-true x (2 ^ n) e))
    step false e = ne_eqb (x / 2 ^ n) 0 (λ z. let h : x / 2 ^ n < 1 = omega arith in let l = (div-lt_iff_lt-mul (pow_pos n)).0 h in let g = ltb-false x (2 ^ n) e in omega arith)
