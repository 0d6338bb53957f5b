-- What follows in some and in all of several interpretations may be summed in any order, so a table with these values says it of all interpretations
-- that give an entry (`Sums`). Assumes nothing.
use mathlib.Core.Path.{◌≡◌, refl, ap₂, ◌∙◌}
use mathlib.Core.Bool.{Bool, true, false, ◌&&◌, ◌||◌}
use Prim.Native.Nat.{ℕ}
use lib.Bits.{bit_or, bit_and, or_comm, and_comm, or_zero_l, or_zero_r}
use Rattle.labels.specs.Sets.{has}
use Rattle.labels.proofs.Sets.{has-or, has-and, set-ext}
use Rattle.values.specs.declared.Value.{Value}
use Rattle.values.specs.Consequences.{consequences}
use Rattle.values.proofs.Semirings.{Semiring}

-- ---- by digits

or_assoc : (a b c : ℕ) → bit_or (bit_or a b) c ≡ bit_or a (bit_or b c)
or_assoc a b c = set-ext _ _ (λ m. simp has-or (step (has m a) (has m b) (has m c)))
  where
    step : (x y z : Bool) → ((x || y) || z) ≡ (x || (y || z))
    step true y z = refl
    step false y z = refl

and_assoc : (a b c : ℕ) → bit_and (bit_and a b) c ≡ bit_and a (bit_and b c)
and_assoc a b c = set-ext _ _ (λ m. simp has-and (step (has m a) (has m b) (has m c)))
  where
    step : (x y z : Bool) → ((x && y) && z) ≡ (x && (y && z))
    step true y z = refl
    step false y z = refl

or-or : (a b c : ℕ) → bit_or a (bit_or b c) ≡ bit_or (bit_or a b) (bit_or a c)
or-or a b c = set-ext _ _ (λ m. simp has-or (step (has m a) (has m b) (has m c)))
  where
    step : (x y z : Bool) → (x || (y || z)) ≡ ((x || y) || (x || z))
    step true y z = refl
    step false y z = refl

or-and : (a b c : ℕ) → bit_or a (bit_and b c) ≡ bit_and (bit_or a b) (bit_or a c)
or-and a b c = set-ext _ _ (λ m. simp (has-or, has-and) (step (has m a) (has m b) (has m c)))
  where
    step : (x y z : Bool) → (x || (y && z)) ≡ ((x || y) && (x || z))
    step true y z = refl
    step false y z = refl

-- ---- both words

both : {a b c d : ℕ} → a ≡ b → c ≡ d → ◌≡◌ {A = Value} (record { high = a; low = c }) (record { high = b; low = d })
both e f = λ i. record { high = e i; low = f i }

pub consequences-semiring : Semiring consequences
unfolding consequences
consequences-semiring = record {
  either-assoc = λ a b c. both (or_assoc a.high b.high c.high) (and_assoc a.low b.low c.low);
  either-comm = λ a b. both (or_comm a.high b.high) (and_comm a.low b.low);
  together-assoc = λ a b c. both (or_assoc a.high b.high c.high) (or_assoc a.low b.low c.low);
  either-together = λ a b c. both
      (or_comm (bit_or a.high b.high) c.high ∙ or-or c.high a.high b.high ∙ ap₂ bit_or (or_comm c.high a.high) (or_comm c.high b.high))
      (or_comm (bit_and a.low b.low) c.low ∙ or-and c.low a.low b.low ∙ ap₂ bit_and (or_comm c.low a.low) (or_comm c.low b.low));
  together-either = λ a b c. both (or-or a.high b.high c.high) (or-and a.low b.low c.low);
  unit-together = λ a. both (or_zero_l a.high) (or_zero_l a.low);
  together-unit = λ a. both (or_zero_r a.high) (or_zero_r a.low);
}
