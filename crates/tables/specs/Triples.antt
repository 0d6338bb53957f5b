-- Triples (01, Tables) over K labels: T + 2 ^ K * F + 4 ^ K * U, the set of the marks g for a label of T, K + g for one of F, 2 * K + g for one of U. Assumes nothing.
use Rattle.std.specs.Prelude.{Bool, cond, ℕ, ◌+◌, ◌*◌, ◌^◌, ltb}
use Rattle.labels.specs.Sets.{has, without, replace}
use Rattle.expression.specs.declared.Kind.{Kind}
use Rattle.expression.specs.declared.Kind.TheVariants.{Head, Positive, Negative}

module _ (K : ℕ) where
  -- an atom of label g that is in; one that is out; an unmet rule
  unfoldable pub mark_t : ℕ → ℕ
  mark_t g = 2 ^ g

  unfoldable pub mark_f : ℕ → ℕ
  mark_f g = 2 ^ (K + g)

  unfoldable pub mark_u : ℕ → ℕ
  mark_u g = 2 ^ (2 * K + g)

  unfoldable pub relabel_triple : ℕ → ℕ → ℕ → ℕ
  relabel_triple i j q = replace i j (replace (K + i) (K + j) (replace (2 * K + i) (2 * K + j) q))

  -- whether atoms of label i meet a rule that they are put into, from the triple q of the interpretation and the triple r at hand:
  -- head: one is in; needed: one is out; barring: one is in by q (01: "the barring link tests the T of Q for the subsets too")
  unfoldable pub settles : Kind → ℕ → ℕ → ℕ → Bool
  settles Head i q r = has i r
  settles Positive i q r = has (K + i) r
  settles Negative i q r = has i q

  unfoldable pub connect_triple : Kind → ℕ → ℕ → ℕ → ℕ → ℕ
  connect_triple k i j q r = cond (settles k i q r) (without (2 * K + j) r) r

  -- U is empty
  unfoldable pub all_met : ℕ → Bool
  all_met q = ltb q (2 ^ (2 * K))
