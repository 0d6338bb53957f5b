-- One row in words: what it reads as, a row stored over it, a row cleared. Assumes nothing.
use mathlib.Core.Path.{◌≡◌, refl, sym, ap, ◌∙◌, subst}
use mathlib.Core.List.{List, [], ◌∷◌, ◌++◌}
use Prim.Native.Nat.{ℕ, suc, ◌+◌, ◌-◌, ◌≤◌, ◌<◌}
use native.Mathlib.Omega.{arith}
use lib.ListN.{length, take, drop, get_or, length-append, length-drop, length-replicate}
use lib.Seq.{length-take-le, take_at, drop-append-add, drop-drop}
use borrow.Rule.Slice.PartMut.{put_mid, mid_of, Post-is, mid_len}
use Rattle.tables.specs.Definitions.{Pair}
use Rattle.candidates.specs.Candidates.{pair_of, Readable}
use Rattle.rows.specs.Parts.{zeros}
use Rattle.rows.specs.Rows.{row_of, Fit, IsRow}
use Rattle.rows.proofs.Parts.{drop-zeros, zeros-append}

-- ---- one row

pub length-row : (w : ℕ) (x : Pair) → Fit w x → length (row_of w x) ≡ w
unfolding row_of Fit
length-row w [] f = absurd (omega arith)
length-row w (q ∷ s) f = simp (length-append, length-replicate) (omega arith)

pub pair_row : (w : ℕ) (x : Pair) → Fit w x → pair_of (row_of w x) ≡ x
unfolding pair_of row_of Fit
pair_row w [] f = absurd (omega arith)
pair_row w (q ∷ s) f = ap (λ (t : List ℕ). q ∷ t) (take_at s (zeros (w - (2 + length s))) (length s) refl)

pub row_count : (w : ℕ) (x : Pair) → Fit w x → 2 + get_or (row_of w x) 1 0 ≤ w
unfolding row_of Fit
row_count w [] f = absurd (omega arith)
row_count w (q ∷ s) f = omega arith

pub row-readable : (w : ℕ) (x : Pair) → Fit w x → Readable (row_of w x)
row-readable w x f = rw (length-row w x f) (row_count w x f)

-- ---- a row stored over another

pub row-zeros : (w : ℕ) (x : Pair) → Fit w x → (k : ℕ) → 1 + length x ≤ k → k ≤ w → drop k (row_of w x) ≡ zeros (w - k)
unfolding row_of Fit
row-zeros w [] f k l h = absurd (omega arith)
row-zeros w (q ∷ s) f k l h =
    let t : ℕ = k - (2 + length s) in
    let e : k ≡ suc (suc (length s + t)) = omega arith in
    ap (λ (j : ℕ). drop j (q ∷ length s ∷ (s ++ zeros (w - (2 + length s))))) e
    ∙ drop-append-add s (zeros (w - (2 + length s))) t ∙ drop-zeros t (w - (2 + length s)) (omega arith) ∙ ap zeros (let z : w - (2 + length s) - t ≡ w - k = omega arith in z)

-- the words that a row reads, and zeros
stored : (w : ℕ) (row : List ℕ) → Readable row → length row ≡ w → take (2 + get_or row 1 0) row ++ zeros (w - (2 + get_or row 1 0)) ≡ row_of w (pair_of row)
unfolding row_of pair_of
stored w [] r e = absurd (omega arith)
stored w (a ∷ []) r e = absurd (omega arith)
stored w (a ∷ b ∷ row) r e =
    let two : 2 + b ≡ suc (suc b) = omega arith in
    let long : length (take b row) ≡ b = length-take-le b row (omega arith) in
    rw (long, two)

-- what a row reads fits one of its length
pub read_fits : {w : ℕ} (row : List ℕ) → Readable row → length row ≡ w → Fit w (pair_of row)
unfolding Fit pair_of
read_fits row r e = (omega arith, omega (arith, length-take-le (get_or row 1 0) (drop 2 row) (simp length-drop (omega arith))))

-- its first words read the same
pub read-front : (row row' : List ℕ) → Readable row → take (2 + get_or row 1 0) row' ≡ take (2 + get_or row 1 0) row → 2 + get_or row 1 0 ≤ length row' → Readable row' × (pair_of row' ≡ pair_of row)
unfolding pair_of
read-front [] row' r e l = absurd (omega arith)
read-front (a ∷ []) row' r e l = absurd (omega arith)
read-front (a ∷ b ∷ row) [] r e l = absurd (omega arith)
read-front (a ∷ b ∷ row) (x ∷ []) r e l = absurd (omega arith)
read-front (a ∷ b ∷ row) (x ∷ y ∷ row') r e l =
    let two : 2 + b ≡ suc (suc b) = omega arith in
    let k : ◌≡◌ {A = List ℕ} (x ∷ y ∷ take b row') (a ∷ b ∷ take b row) = rw two at e in
    let ex : x ≡ a = cc in
    let ey : y ≡ b = cc in
    let er : take b row' ≡ take b row = cc in
    (omega arith, rw (ex, ey, er))

module _ {w : ℕ} {part : List ℕ} (h : IsRow w part) where
  abbrev old : ℕ
  old = 2 + get_or part 1 0

  pub row-long : length part ≡ w
  row-long = ap length h.words ∙ length-row w (pair_of part) h.fit

  pub row-used : old ≤ w
  row-used = rw h.words (row_count w (pair_of part) h.fit)

  used-is : old ≡ 1 + length (pair_of part)
  unfolding pair_of
  used-is = omega (arith, length-take-le (get_or part 1 0) (drop 2 part) (simp length-drop (omega (arith, row-used, row-long))))

  -- zeros behind the words that it uses
  pub row-rest : (k : ℕ) → old ≤ k → k ≤ w → drop k part ≡ zeros (w - k)
  row-rest k l g = ap (drop k) h.words ∙ row-zeros w (pair_of part) h.fit k (omega (arith, used-is)) g

  -- what is left where those are cleared
  pub cleared : zeros (length (take old part)) ++ drop old part ≡ zeros w
  cleared =
      let long : length (take old part) ≡ old = length-take-le old part (omega (arith, row-used, row-long)) in
      rw (long, row-rest old (omega arith) row-used, zeros-append old (w - old)) (ap zeros (let z : old + (w - old) ≡ w = omega (arith, row-used) in z))

  module _ (row : List ℕ) (r : Readable row) (e : length row ≡ w) where
    abbrev new : ℕ
    new = 2 + get_or row 1 0

    front_long : length (take new row) ≡ new
    front_long = length-take-le new row r

    -- the new row is as long as the old one, or longer
    pub stored-long : old ≤ new → take new row ++ drop (length (take new row)) part ≡ row_of w (pair_of row)
    stored-long l = ap (λ (t : List ℕ). take new row ++ t) (ap (λ (k : ℕ). drop k part) front_long ∙ row-rest new l (omega (arith, r))) ∙ stored w row r e

    -- it is shorter: what is left of the old one is cleared
    pub stored_short : new < old → (ys : List ℕ) → ys ≡ zeros (length (mid_of new (old - new) (take new row ++ drop (length (take new row)) part)))
        → put_mid new (old - new) (take new row ++ drop (length (take new row)) part) ys ≡ row_of w (pair_of row)
    stored_short l ys ey =
        let F : List ℕ = take new row in
        let P : List ℕ = F ++ drop (length F) part in
        let long : length P ≡ w = simp (length-append, length-drop) (omega (arith, front_long, row-long, r)) in
        let mid : ys ≡ zeros (old - new) = ey ∙ ap zeros (mid_len new old P (omega (arith, row-used))) in
        let back : drop old P ≡ zeros (w - old) =
        ap (λ (k : ℕ). drop k P) (let z : old ≡ length F + (old - new) = omega (arith, front_long) in z)
        ∙ drop-append-add F (drop (length F) part) (old - new) ∙ drop-drop (old - new) (length F) part
        ∙ ap (λ (k : ℕ). drop k part) (let z : length F + (old - new) ≡ old = omega (arith, front_long) in z) ∙ row-rest old (omega arith) row-used in
        rw (Post-is new old P (omega arith), take_at F (drop (length F) part) new front_long, mid, back, zeros-append (old - new) (w - old))
        (ap (λ (k : ℕ). F ++ zeros k) (let z : old - new + (w - old) ≡ w - new = omega (arith, row-used) in z) ∙ stored w row r e)

-- a row of zeros is a row
pub zeros-row : (w : ℕ) → 2 ≤ w → IsRow w (zeros w)
unfolding row_of pair_of Fit
zeros-row w h =
    let e : w ≡ suc (suc (w - 2)) = omega arith in
    subst (λ (v : ℕ). IsRow v (zeros v)) (sym e) (record { words = ap (λ (t : List ℕ). 0 ∷ 0 ∷ t) (ap zeros (let z : w - 2 ≡ suc (suc (w - 2)) - 2 = omega arith in z)); fit = (omega arith, omega arith) })

pub row-none : (w : ℕ) → 2 ≤ w → row_of w (0 ∷ []) ≡ zeros w
unfolding row_of
row-none w h = ap zeros (let z : suc (suc (w - 2)) ≡ w = omega arith in z)
