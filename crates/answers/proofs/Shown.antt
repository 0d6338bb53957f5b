-- The mask of a run of atoms, and the one that a value shows, atom by atom. Assumes nothing.
use mathlib.Core.Path.{◌≡◌, sym, ap, ap₂, ◌∙◌}
use mathlib.Core.Bool.{true, false, cond, ◌&&◌, ◌||◌, and-or_distrib_right}
use mathlib.Core.List.{List, [], ◌∷◌, ◌++◌}
use Prim.Native.Nat.{ℕ, ◌+◌, ◌-◌, ◌*◌, ◌/◌, ◌%◌, ◌^◌, ◌<◌}
use native.Mathlib.Nat.{zero-add, one-mul}
use native.Mathlib.Omega.{arith}
use lib.Bits.{bit_or, or_zero_r}
use lib.Dec.{eqb}
use lib.Pow.{shl_exact}
use borrow.Author.Tests.{eq-eqb, ne_eqb}
use Rattle.lists.specs.Lists.{some, run}
use Rattle.lists.proofs.Members.{some-append}
use Rattle.lists.proofs.Runs.{run-append}
use Rattle.labels.specs.Sets.{has}
use Rattle.labels.proofs.Sets.{has-or, set-ext}
use Rattle.expression.specs.Limits.{atom_limit}
use Rattle.semantics.specs.AnswerSets.{Interpretation, mask_of}
use Rattle.semantics.proofs.Masks.{has-mask}
use Rattle.values.specs.First.{shown_by}

module _ (p : Interpretation) where
  mask_append : (xs ys : List ℕ) → mask_of p (xs ++ ys) ≡ bit_or (mask_of p xs) (mask_of p ys)
  mask_append xs ys =
      set-ext (mask_of p (xs ++ ys)) (bit_or (mask_of p xs) (mask_of p ys)) (λ m.
      has-mask p (xs ++ ys) m ∙ ap (λ b. b && p m) (some-append (eqb m) xs ys) ∙ and-or_distrib_right (some (eqb m) xs) (some (eqb m) ys) (p m)
      ∙ sym (has-or m (mask_of p xs) (mask_of p ys) ∙ ap₂ ◌||◌ (has-mask p xs m) (has-mask p ys m)))

  mask_next : (c : ℕ) → mask_of p (run 0 (c + 1)) ≡ bit_or (mask_of p (run 0 c)) (cond (p c) (bit_or (2 ^ c) 0) 0)
  unfolding run mask_of
  mask_next c = ap (mask_of p) (sym (run-append 0 c 1)) ∙ mask_append (run 0 c) (run (0 + c) 1) ∙ ap (λ k. bit_or (mask_of p (run 0 c)) (mask_of p (k ∷ []))) (zero-add c)

  -- atom c is in; it is out
  mask-in : (c : ℕ) → p c ≡ true → mask_of p (run 0 (c + 1)) ≡ bit_or (mask_of p (run 0 c)) (2 ^ c)
  mask-in c e = mask_next c ∙ ap (λ b. bit_or (mask_of p (run 0 c)) (cond b (bit_or (2 ^ c) 0) 0)) e ∙ ap (bit_or (mask_of p (run 0 c))) (or_zero_r (2 ^ c))

  mask-out : (c : ℕ) → p c ≡ false → mask_of p (run 0 (c + 1)) ≡ mask_of p (run 0 c)
  mask-out c e = mask_next c ∙ ap (λ b. bit_or (mask_of p (run 0 c)) (cond b (bit_or (2 ^ c) 0) 0)) e ∙ or_zero_r (mask_of p (run 0 c))

-- bit 62 - c of the value v is atom c
module _ (c v : ℕ) (l : c < atom_limit) where
  pub shown-in : v / 2 ^ (atom_limit - (c + 1)) % 2 ≡ 1 → bit_or (shown_by c v) ((1 * 2 ^ c) % 2 ^ 64) ≡ shown_by (c + 1) v
  unfolding shown_by has
  shown-in e =
      ap (bit_or (shown_by c v)) (shl_exact 1 c 64 (omega arith) (omega arith) ∙ one-mul (2 ^ c))
      ∙ sym (mask-in (λ k. has (atom_limit - (k + 1)) v) c (eq-eqb _ _ e))

  pub shown-out : (v / 2 ^ (atom_limit - (c + 1)) % 2 ≡ 1 → ⊥) → shown_by c v ≡ shown_by (c + 1) v
  unfolding shown_by has
  shown-out e = sym (mask-out (λ k. has (atom_limit - (k + 1)) v) c (ne_eqb _ _ e))
