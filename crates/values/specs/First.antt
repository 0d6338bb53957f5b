-- The first of several interpretations, as the one of least value: atom c weighs 2 ^ (62 - c). Assumes nothing.
use Rattle.std.specs.Prelude.{◌≡◌, Bool, false, cond, List, [], ◌∷◌, ℕ, ◌+◌, ◌-◌, ◌%◌, ◌^◌, min}
use Rattle.lists.specs.Lists.{run}
use Rattle.labels.specs.Sets.{has}
use Rattle.expression.specs.Limits.{atom_limit}
use Rattle.semantics.specs.AnswerSets.{Interpretation, mask_of}
use Rattle.values.specs.Values.{Values, Total, none, worth}

-- the sum of the weights of the atoms that are in; the least over interpretations
unfoldable pub least_by : (ℕ → ℕ) → Values ℕ
least_by w = record { unit = 0; either = min; together = ◌+◌; present = w; absent = λ c. 0 }

unfoldable pub first_weight : ℕ → ℕ
first_weight c = 2 ^ (atom_limit - (c + 1))

unfoldable pub firsts : Values ℕ
firsts = least_by first_weight

-- the same as 64-bit words keep it: sums wrap
abbrev pub first_words : Values ℕ
first_words = record { unit = 0; either = min; together = λ a b. (a + b) % 2 ^ 64; present = first_weight; absent = λ c. 0 }

-- the factor that lets only entries that pass a test count
unfoldable pub passing : {X : Type 0} → (X → Bool) → X → Total ℕ
passing f x = cond (f x) (worth 0) none

-- the mask of the interpretation of n atoms that has such a value
unfoldable pub shown_by : ℕ → ℕ → ℕ
shown_by n v = mask_of (λ c. has (atom_limit - (c + 1)) v) (run 0 n)

-- q does not come before p: at the first atom of the list where they differ, p leaves it out
unfoldable pub NotBefore : List ℕ → Interpretation → Interpretation → Type 0
NotBefore [] q p = Unit {0}
NotBefore (c ∷ cs) q p = (q c ≡ false → p c ≡ false) × (q c ≡ p c → NotBefore cs q p)
