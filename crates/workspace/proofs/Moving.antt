-- Words moved within a list, one by one: below i they stand in their new place, and zeros in the old one. Assumes nothing.
use mathlib.Core.Path.{◌≡◌, sym, ap, ap₂, ◌∙◌}
use mathlib.Core.List.{List, ◌++◌}
use Prim.Native.Nat.{ℕ, ◌+◌, ◌≤◌, ◌<◌}
use native.Mathlib.Omega.{arith}
use lib.ListN.{length, take, drop, get_or, set, get_or-append, get_or-replicate}
use lib.Seq.{length-take-le, get_or-append-add}
use borrow.Rule.Slice.PartMut.{set_mid_at}
use Rattle.words.proofs.Mix.{mix, mix-more, mix-get-high, mix-length, mix_all}
use Rattle.rows.specs.Parts.{part, put, zeros}
use Rattle.rows.proofs.Parts.{part-long, put-long, part-put, put-put, put-part, put-comm, zeros-long}
use Rattle.workspace.specs.Workspace.{moved_to}

-- a word of a part that was put in
module _ (a n i : ℕ) (xs ys : List ℕ) (within : a + n ≤ length xs) (e : length ys ≡ n) (l : i < n) where
  put-set : (v : ℕ) → set (put a n xs ys) (a + i) v ≡ put a n xs (set ys i v)
  put-set v =
      let there : part a n (put a n xs ys) ≡ ys = part-put a n xs ys (omega arith) e in
      sym (set_mid_at a n i (put a n xs ys) v (omega (arith, e, ap length there))) ∙ ap (λ (t : List ℕ). put a n (put a n xs ys) (set t i v)) there ∙ put-put a n xs ys (set ys i v) (omega arith) e

  put-get : get_or (put a n xs ys) (a + i) 0 ≡ get_or ys i 0
  put-get =
      let front : length (take a xs) ≡ a = length-take-le a xs (omega arith) in
      ap (λ (j : ℕ). get_or (put a n xs ys) (j + i) 0) (sym front) ∙ get_or-append-add (take a xs) (ys ++ drop n (drop a xs)) i 0 ∙ get_or-append ys (drop n (drop a xs)) 0 i (omega (arith, e))

-- after i words
abbrev pub moving : ℕ → ℕ → ℕ → List ℕ → ℕ → List ℕ
moving to from n xs i = put from n (put to n xs (mix i (part from n xs) (part to n xs))) (mix i (zeros n) (part from n xs))

module _ (to from n : ℕ) (xs : List ℕ) (apart : to + n ≤ from) (within : from + n ≤ length xs) where
  abbrev P : List ℕ
  P = part to n xs

  abbrev Q : List ℕ
  Q = part from n xs

  -- both parts as they are after i words
  abbrev here : ℕ → List ℕ
  here i = mix i Q P

  abbrev there : ℕ → List ℕ
  there i = mix i (zeros n) Q

  P-long : length P ≡ n
  P-long = part-long to n xs (omega arith)

  Q-long : length Q ≡ n
  Q-long = part-long from n xs within

  here-long : (i : ℕ) → length (here i) ≡ n
  here-long i = mix-length i Q P (Q-long ∙ sym P-long) ∙ P-long

  there-long : (i : ℕ) → length (there i) ≡ n
  there-long i = mix-length i (zeros n) Q (zeros-long n ∙ sym Q-long) ∙ Q-long

  first-long : (ys : List ℕ) → length ys ≡ n → length (put to n xs ys) ≡ length xs
  first-long ys e = put-long to n xs ys (omega arith) e

  pub moving-start : xs ≡ moving to from n xs 0
  moving-start = sym (ap (λ (t : List ℕ). put from n t Q) (put-part to n xs) ∙ put-part from n xs)

  module _ (i : ℕ) (l : i < n) where
    pub moving-next : get_or (moving to from n xs i) (from + i) 0 ≡ get_or (part from n xs) i 0
    moving-next =
        put-get from n i (put to n xs (here i)) (there i) (omega (arith, first-long (here i) (here-long i))) (there-long i) l
        ∙ mix-get-high i i (zeros n) Q (omega arith) (omega (arith, zeros-long n)) (omega (arith, Q-long))

    -- in its new place
    stored : (v : ℕ) → get_or Q i 0 ≡ v → set (moving to from n xs i) (to + i) v ≡ put from n (put to n xs (here (i + 1))) (there i)
    stored v e =
        let X : List ℕ = put from n xs (there i) in
        let long : length X ≡ length xs = put-long from n xs (there i) within (there-long i) in
        ap (λ (t : List ℕ). set t (to + i) v) (put-comm to n from n xs (here i) (there i) apart within (here-long i))
        ∙ put-set to n i X (here i) (omega (arith, long)) (here-long i) l v
        ∙ ap (put to n X) (mix-more i v Q P (omega (arith, Q-long)) (omega (arith, P-long)) e)
        ∙ sym (put-comm to n from n xs (here (i + 1)) (there i) apart within (here-long (i + 1)))

    pub moving-more : (v : ℕ) → get_or (part from n xs) i 0 ≡ v → set (set (moving to from n xs i) (to + i) v) (from + i) 0 ≡ moving to from n xs (i + 1)
    moving-more v e =
        let Y : List ℕ = put to n xs (here (i + 1)) in
        ap (λ (t : List ℕ). set t (from + i) 0) (stored v e)
        ∙ put-set from n i Y (there i) (omega (arith, first-long (here (i + 1)) (here-long (i + 1)))) (there-long i) l 0
        ∙ ap (put from n Y) (mix-more i 0 (zeros n) Q (omega (arith, zeros-long n)) (omega (arith, Q-long)) (get_or-replicate n i 0 0 l))

  pub moving-end : (i : ℕ) → n ≤ i → moving to from n xs i ≡ moved_to to from n xs
  moving-end i l =
      ap₂ (λ (ys : List ℕ) (zs : List ℕ). put from n (put to n xs ys) zs) (mix_all i Q P (Q-long ∙ sym P-long) (omega (arith, P-long))) (mix_all i (zeros n) Q (zeros-long n ∙ sym Q-long) (omega (arith, Q-long)))
