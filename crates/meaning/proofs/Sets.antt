-- A rule, a smaller plan or the pins, judged test by test. Assumes nothing.
use mathlib.Core.Path.{◌≡◌, refl}
use mathlib.Core.Bool.{Bool, true, false, not}
use Prim.Native.Nat.{ℕ}
use lib.Bits.{bit_and}
use lib.Dec.{eqb}
use borrow.Author.Tests.{eq-eqb, ne_eqb}
use Rattle.meaning.specs.Meaning.{has_some, lacks_some, is_met, is_smaller, obeys_pins}

module _ (head positive negative plan smaller : ℕ) where
  pub met-by-negative : (bit_and negative plan ≡ 0 → ⊥) → true ≡ is_met head positive negative plan smaller
  unfolding is_met has_some
  met-by-negative h = rw (ne_eqb (bit_and negative plan) 0 h)

  module _ (none : bit_and negative plan ≡ 0) where
    pub met-by-positive : (bit_and positive smaller ≡ positive → ⊥) → true ≡ is_met head positive negative plan smaller
    unfolding is_met has_some lacks_some
    met-by-positive h = rw (eq-eqb (bit_and negative plan) 0 none, ne_eqb (bit_and positive smaller) positive h)

    pub met-by-head : bit_and positive smaller ≡ positive → not (eqb (bit_and head smaller) 0) ≡ is_met head positive negative plan smaller
    unfolding is_met has_some lacks_some
    met-by-head h = rw (eq-eqb (bit_and negative plan) 0 none, eq-eqb (bit_and positive smaller) positive h)

module _ (granted plan smaller : ℕ) where
  pub not-subset : (bit_and smaller plan ≡ smaller → ⊥) → false ≡ is_smaller granted plan smaller
  unfolding is_smaller lacks_some
  not-subset h = rw (ne_eqb (bit_and smaller plan) smaller h)

  module _ (subset : bit_and smaller plan ≡ smaller) where
    pub not-proper : bit_and plan smaller ≡ plan → false ≡ is_smaller granted plan smaller
    unfolding is_smaller lacks_some
    not-proper h = rw (eq-eqb (bit_and smaller plan) smaller subset, eq-eqb (bit_and plan smaller) plan h)

    pub by-granted : (bit_and plan smaller ≡ plan → ⊥) → eqb (bit_and granted smaller) (bit_and granted plan) ≡ is_smaller granted plan smaller
    unfolding is_smaller lacks_some
    by-granted h = rw (eq-eqb (bit_and smaller plan) smaller subset, ne_eqb (bit_and plan smaller) plan h)

module _ (plan copies pins_in pins_out : ℕ) where
  pub not-of-copies : (bit_and plan copies ≡ plan → ⊥) → false ≡ obeys_pins plan copies pins_in pins_out
  unfolding obeys_pins lacks_some
  not-of-copies h = rw (ne_eqb (bit_and plan copies) plan h)

  module _ (these : bit_and plan copies ≡ plan) where
    pub lacks-pinned : (bit_and (bit_and pins_in copies) plan ≡ bit_and pins_in copies → ⊥) → false ≡ obeys_pins plan copies pins_in pins_out
    unfolding obeys_pins lacks_some
    lacks-pinned h = rw (eq-eqb (bit_and plan copies) plan these, ne_eqb (bit_and (bit_and pins_in copies) plan) (bit_and pins_in copies) h)

    pub by-pins-out : bit_and (bit_and pins_in copies) plan ≡ bit_and pins_in copies → eqb (bit_and pins_out plan) 0 ≡ obeys_pins plan copies pins_in pins_out
    unfolding obeys_pins lacks_some has_some
    by-pins-out h = rw (eq-eqb (bit_and plan copies) plan these, eq-eqb (bit_and (bit_and pins_in copies) plan) (bit_and pins_in copies) h) (step (eqb (bit_and pins_out plan) 0))
      where
        step : (b : Bool) → b ≡ not (not b)
        step true = refl
        step false = refl
