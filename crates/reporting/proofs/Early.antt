-- A report zeroes what the whole expression needs (02, Item 8), whatever command it stops at. Over K labels. Assumes nothing.
use mathlib.Core.Path.{◌≡◌, refl}
use mathlib.Core.List.{List}
use Prim.Native.Nat.{ℕ}
use Rattle.expression.specs.Checks.{Checked, Passed, Refused, Request, check}
use Rattle.reporting.specs.Reporting.{starts_at, words_reported}

pub zeroed-alike : (K : ℕ) (a : Request) (at at' : ℕ) (ws : List ℕ) → starts_at K a.bytes at ≡ starts_at K a.bytes at' → words_reported K a at ws ≡ words_reported K a at' ws
unfolding words_reported
zeroed-alike K a at at' ws e = by (check K a) refl
  where
    by : (c : Checked) → check K a ≡ c → words_reported K a at ws ≡ words_reported K a at' ws
    by (Passed z) h = rw (h, words_reported, e)
    by (Refused n p) h = rw (h, words_reported)
