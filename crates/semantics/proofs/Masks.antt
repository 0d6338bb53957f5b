-- Interpretations as masks: bit c is atom c. Assumes nothing.
use mathlib.Core.Path.{◌≡◌, refl, sym, ap, ◌∙◌}
use mathlib.Core.Bool.{Bool, true, false, cond, ◌&&◌, ◌||◌, and-false}
use mathlib.Core.List.{List, [], ◌∷◌}
use Prim.Native.Nat.{ℕ, ◌^◌, ◌<◌}
use native.Mathlib.Omega.{arith}
use lib.Bits.{bit_or}
use lib.Dec.{eqb}
use borrow.Author.Tests.{eqb-true}
use Rattle.lists.specs.Lists.{some, run}
use Rattle.lists.proofs.Members.{listed, not_listed}
use Rattle.lists.proofs.Runs.{run-bounds}
use Rattle.labels.specs.Sets.{has}
use Rattle.labels.proofs.Sets.{has-or, has-pow, has-lt, has-none}
use Rattle.semantics.specs.AnswerSets.{Interpretation, of_mask, mask_of}
use Rattle.semantics.proofs.Interpretations.{Agree}

pub has-mask : (p : Interpretation) (xs : List ℕ) (c : ℕ) → has c (mask_of p xs) ≡ (some (eqb c) xs && p c)
unfolding mask_of some
has-mask p [] c = has-none c
has-mask p (x ∷ xs) c = step (p x) (eqb c x) refl refl (has-mask p xs c)
  where
    r : ℕ
    r = mask_of p xs

    step : (b d : Bool) → p x ≡ b → eqb c x ≡ d → has c r ≡ (some (eqb c) xs && p c) → has c (cond b (bit_or (2 ^ x) r) r) ≡ ((d || some (eqb c) xs) && p c)
    step true true e f h = has-or c (2 ^ x) r ∙ ap (λ y. y || has c r) (has-pow c x ∙ f) ∙ sym (ap p (eqb-true c x f) ∙ e)
    step true false e f h = has-or c (2 ^ x) r ∙ ap (λ y. y || has c r) (has-pow c x ∙ f) ∙ h
    step false true e f h = h ∙ ap (λ y. some (eqb c) xs && y) (ap p (eqb-true c x f) ∙ e) ∙ and-false (some (eqb c) xs) ∙ sym (ap p (eqb-true c x f) ∙ e)
    step false false e f h = h

pub mask-agrees : (p : Interpretation) (xs : List ℕ) → Agree xs (of_mask (mask_of p xs)) p
mask-agrees p xs c m = has-mask p xs c ∙ ap (λ b. b && p c) (listed xs m)

-- no bit beyond the n atoms
pub mask_lt : (p : Interpretation) (n : ℕ) → mask_of p (run 0 n) < 2 ^ n
mask_lt p n = has-lt n (mask_of p (run 0 n)) (λ m l.
    has-mask p (run 0 n) m ∙ ap (λ b. b && p m) (not_listed m (run 0 n) (λ k. let h = run-bounds 0 n k in omega arith)))
