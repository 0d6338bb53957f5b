-- Marks gathered from more and more triples. Assumes nothing.
use mathlib.Core.Path.{◌≡◌, sym, ap, ◌∙◌, subst}
use mathlib.Core.Bool.{◌||◌, or-true}
use mathlib.Core.List.{List, [], ◌∷◌}
use Prim.Native.Nat.{ℕ, zero, suc, ◌+◌, ◌*◌, ◌≤◌, ◌<◌}
use native.Mathlib.Decide.{dec_le}
use native.Mathlib.Omega.{arith}
use lib.Bits.{bit_or}
use native.Mathlib.Numerals.{add-one}
use lib.ListN.{length, take, drop, get_or}
use lib.Seq.{take-suc, take-take}
use Rattle.lists.specs.Lists.{All}
use Rattle.lists.proofs.Members.{all_append, all_take}
use Rattle.labels.specs.Sets.{has, Within}
use Rattle.labels.proofs.Sets.{has-or}
use Rattle.candidates.specs.Candidates.{pair_of}
use Rattle.rows.specs.Parts.{part}
use Rattle.rows.specs.Rows.{rows_in, Rows}
use Rattle.rows.proofs.Tables.{length-rows_in, rows_in-at, slot_is}
use Rattle.marks.specs.Marks.{Marked}

pub within-left : (a b : ℕ) → Within (bit_or a b) a
within-left a b = record { at = λ m h. has-or m a b ∙ ap (λ c. c || has m b) h }

pub within-right : (a b : ℕ) → Within (bit_or a b) b
within-right a b = record { at = λ m h. has-or m a b ∙ ap (λ c. has m a || c) h ∙ or-true (has m a) }

-- what was within is so still
pub within_more : {a b c : ℕ} → Within b a → Within c b → Within c a
within_more h k = record { at = λ m e. k.at m (h.at m e) }

pub all_more : {b c : ℕ} → Within c b → (xs : List ℕ) → All (Within b) xs → All (Within c) xs
all_more k [] h = tt
all_more k (x ∷ xs) h = (within_more h.0 k, all_more k xs h.1)

pub marked_more : {b c : ℕ} → Within c b → (x : List ℕ) → Marked b x → Marked c x
marked_more k [] h = h
marked_more k (q ∷ s) h = all_more k (q ∷ s) h

-- one triple more
pub all-next : (b : ℕ) (xs : List ℕ) (i : ℕ) → i < length xs → All (Within b) (take i xs) → All (Within (bit_or b (get_or xs i 0))) (take (i + 1) xs)
all-next b xs i l h =
    let x = get_or xs i 0 in
    rw (add-one i, take-suc xs i 0 l) (all_append (Within (bit_or b x)) (take i xs) (x ∷ []) (all_more (within-left b x) (take i xs) h) (within-right b x, tt))

-- all places of a list
pub all-places : {A : Type 0} (P : A → Type 0) (d : A) (xs : List A) → ((i : ℕ) → i < length xs → P (get_or xs i d)) → All P xs
all-places P d [] h = tt
all-places P d (x ∷ xs) h = (h 0 (omega arith), all-places P d xs (λ i l. h (suc i) (omega arith)))

-- a front and what stands behind it
all-parted : (P : ℕ → Type 0) (k l n : ℕ) (xs : List ℕ) → n ≤ k + l → All P (take k xs) → All P (take l (drop k xs)) → All P (take n xs)
all-parted P zero l n xs h a b = subst (All P) (take-take n l xs (omega arith)) (all_take P n (take l xs) b)
all-parted P (suc k) l zero xs h a b = tt
all-parted P (suc k) l (suc n) [] h a b = tt
all-parted P (suc k) l (suc n) (x ∷ xs) h a b = (a.0, all-parted P k l n xs (omega arith) a.1 b)

-- a row, its own triple gathered first, then k words, then l more: its triples are among them
pub row-marked : (r m k l : ℕ) (row : List ℕ) → get_or row 1 0 ≤ k + l → Within r (bit_or m (get_or row 0 0)) → All (Within r) (take k (drop 2 row)) → All (Within r) (take l (drop k (drop 2 row)))
    → Within r m × Marked r (pair_of row)
unfolding pair_of
row-marked r m k l row n h a b =
    (within_more (within-left m (get_or row 0 0)) h, (within_more (within-right m (get_or row 0 0)) h, all-parted (Within r) k l (get_or row 1 0) (drop 2 row) n a b))

-- the rows of an area, one by one
module _ (w p a n : ℕ) (ws : List ℕ) (within : a + p * w ≤ length ws) (t : Rows w p n (part a (p * w) ws)) where
  abbrev pub MarkedTo : ℕ → ℕ → Type 0
  MarkedTo m j = (i : ℕ) → i < j → Marked m (pair_of (part (a + i * w) w ws))

  pub marked_next : (m r j : ℕ) → MarkedTo m j → Within r m → Marked r (pair_of (part (a + j * w) w ws)) → MarkedTo r (j + 1)
  marked_next m r j h k last i l = step (dec_le (suc i) j)
    where
      step : Dec (suc i ≤ j) → Marked r (pair_of (part (a + i * w) w ws))
      step (yes b) = marked_more k (pair_of (part (a + i * w) w ws)) (h i b)
      step (no b) = let e : j ≡ i = omega arith in subst (λ (x : ℕ). Marked r (pair_of (part (a + x * w) w ws))) e last

  pub marked_all : (m j : ℕ) → n ≤ j → MarkedTo m j → All (Marked m) (rows_in w n (part a (p * w) ws))
  marked_all m j l h =
      all-places (Marked m) [] (rows_in w n (part a (p * w) ws)) (λ i b.
      let c : i < n = omega (arith, length-rows_in w n (part a (p * w) ws)) in
      subst (Marked m) (sym (rows_in-at w n (part a (p * w) ws) i c ∙ ap pair_of (slot_is w p a n ws within t i c))) (h i (omega arith)))
