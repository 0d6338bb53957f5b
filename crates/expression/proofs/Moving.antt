-- A test taken out of a list of tests, and one put behind others for it: which answers change, and to what. Assumes nothing.
use mathlib.Core.Path.{◌≡◌, refl, sym, ap, ◌∙◌}
use mathlib.Core.Bool.{Bool, true, false, cond}
use mathlib.Core.List.{List, [], ◌∷◌, ◌++◌}
use Prim.Native.Nat.{ℕ}
use Rattle.lists.specs.Lists.{All}
use Rattle.expression.specs.declared.Counts.{Counts}
use Rattle.expression.specs.Checks.{Checked, Refused, Test, first_of}
use Rattle.expression.proofs.Checks.{Pass, first_else, first-append, else-pass, else-refuse}

-- where none of them has the number of x, x is the answer only if none refuses
pub else-only : (n at : ℕ) (ts : List Test) → All (λ t. t.refuses ≡ true → t.number ≡ n → ⊥) ts → first_else (Refused n at) ts ≡ Refused n at → Pass ts
unfolding first_else
else-only n at [] h e = tt
else-only n at (t ∷ ts) h e = step t.refuses refl (λ k. else-only n at ts h.1 k) e
  where
    step : (b : Bool) → t.refuses ≡ b → (first_else (Refused n at) ts ≡ Refused n at → Pass ts) → cond b (Refused t.number t.place) (first_else (Refused n at) ts) ≡ Refused n at → Pass (t ∷ ts)
    step true r g k = absurd (h.0 r cc)
    step false r g k = (r, g k)

-- t stood behind xs; u, which may be the same, stands behind ys too
module _ (z : Counts) (t u : Test) (xs ys zs : List Test) where
  abbrev pub before : Checked
  before = first_of z (xs ++ (t ∷ ys ++ zs))

  abbrev pub after : Checked
  after = first_of z (xs ++ (ys ++ u ∷ zs))

  pub moved_passes : t.refuses ≡ false → u.refuses ≡ false → after ≡ before
  unfolding first_of
  moved_passes h k =
      first-append z xs (ys ++ u ∷ zs)
      ∙ ap (λ x. first_else x xs) (first-append z ys (u ∷ zs) ∙ rw (h, k) (sym (first-append z ys zs)))
      ∙ sym (first-append z xs (t ∷ ys ++ zs))

  pub moved-behind : {n at : ℕ} → first_of z xs ≡ Refused n at → after ≡ before
  moved-behind h =
      first-append z xs (ys ++ u ∷ zs) ∙ else-refuse z _ xs h ∙ sym (else-refuse z _ xs h) ∙ sym (first-append z xs (t ∷ ys ++ zs))

  module _ (pass : Pass xs) where
    pub refused-before : t.refuses ≡ true → before ≡ Refused t.number t.place
    unfolding first_of
    refused-before h = first-append z xs (t ∷ ys ++ zs) ∙ else-pass _ xs pass ∙ simp h

    pub passed-after : after ≡ first_else (first_of z (u ∷ zs)) ys
    passed-after = first-append z xs (ys ++ u ∷ zs) ∙ else-pass _ xs pass ∙ first-append z ys (u ∷ zs)

    pub refused-after : u.refuses ≡ true → after ≡ first_else (Refused u.number u.place) ys
    unfolding first_of
    refused-after h = passed-after ∙ simp h
