-- A row whose first two words and subsets are written. Assumes nothing.
use mathlib.Core.Path.{◌≡◌, refl, ap, ◌∙◌}
use mathlib.Core.List.{List, [], ◌∷◌}
use Prim.Native.Nat.{ℕ, ◌-◌, ◌≤◌, ◌<◌}
use native.Mathlib.Omega.{arith}
use lib.ListN.{get_or, length, set, length-take, length-drop}
use lib.Seq.{take-append-le}
use borrow.Rule.Slice.PartMut.{put_mid, mid_of}
use Rattle.runs.specs.Runs.{Filled}
use Rattle.candidates.specs.Candidates.{pair_of, Made}

-- the slice of a row's subsets
abbrev pub behind : List ℕ → List ℕ
behind row = mid_of 2 (length row - 2) row

-- the row with that slice written, then its triple q and its count m
abbrev pub written : List ℕ → List ℕ → ℕ → ℕ → List ℕ
written row ys q m = set (set (put_mid 2 (length row - 2) row ys) 0 q) 1 m

pub room : (row : List ℕ) → length (behind row) ≡ length row - 2
room row = simp (length-take, length-drop) (omega arith)

pub made : (row xs ys : List ℕ) (q m : ℕ) → 2 ≤ length row → length ys ≡ length (behind row) → Filled xs m ys → m ≤ length row - 2
    → (get_or (written row ys q m) 1 0 ≡ m) × (pair_of (written row ys q m) ≡ q ∷ xs)
unfolding pair_of
made [] xs ys q m h e g l = absurd (omega arith)
made (x ∷ []) xs ys q m h e g l = absurd (omega arith)
made (x ∷ y ∷ row) xs ys q m h e g l =
    let k : m ≤ length ys = omega (arith, e, room (x ∷ y ∷ row)) in
    (refl, ap (λ (t : List ℕ). q ∷ t) (take-append-le m ys _ k ∙ (g.fits k).1))

-- the subsets fit
pub holds : (row xs ys : List ℕ) (q m : ℕ) → 2 ≤ length row → length ys ≡ length (behind row) → Filled xs m ys → m ≤ length row - 2 → Made (length row) m (q ∷ xs) (written row ys q m)
holds row xs ys q m h e g l = record { fits = λ k. made row xs ys q m h e g l; full = λ k. absurd (omega arith) }

-- they do not
pub exceeds : (row xs ys row' : List ℕ) (q m : ℕ) → 2 ≤ length row → length ys ≡ length (behind row) → Filled xs m ys → length row - 2 < m → Made (length row) m (q ∷ xs) row'
exceeds row xs ys row' q m h e g l =
    record { fits = λ k. absurd (omega arith); full = λ k. omega (arith, e, g.full (omega (arith, e, room row)), room row) }
