-- The words after a decision, by what the checks say. Over K labels. Assumes nothing.
use mathlib.Core.Path.{◌≡◌}
use mathlib.Core.List.{List}
use Prim.Native.Nat.{ℕ}
use Rattle.expression.specs.declared.Counts.{Counts}
use Rattle.expression.specs.Checks.{Passed, Refused, Request, check, need_of}
use Rattle.stacks.specs.Stacks.{cleared, words_after}

module _ (K : ℕ) (a : Request) (ws : List ℕ) where
  pub words-stay : {n at : ℕ} → check K a ≡ Refused n at → ws ≡ words_after K a ws
  unfolding words_after
  words-stay h = rw (h, words_after)

  pub words-cleared : {z : Counts} → check K a ≡ Passed z → {n : ℕ} → n ≡ need_of K a → cleared n ws ≡ words_after K a ws
  unfolding words_after
  words-cleared h e = rw (h, words_after, e)
