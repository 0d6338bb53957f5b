-- Laws of the walk that finds an offset: its start, one step, a fault, and the offset asked. Assumes nothing.
use Rattle.std.specs.Prelude.{Some, None}
use mathlib.Core.Path.{◌≡◌, refl, sym, ◌∙◌, subst}
use mathlib.Core.List.{List}
use Prim.Native.Nat.{ℕ, zero, suc, ◌+◌, ◌≤◌, ◌<◌}
use native.Mathlib.Omega.{arith}
use lib.ListN.{length}
use borrow.Author.Tests.{eq-eqb, ne_eqb}
use Rattle.expression.specs.declared.Command.{Command}
use Rattle.expression.specs.declared.Counts.{Counts}
use Rattle.expression.specs.Limits.{count_limit}
use Rattle.expression.specs.Commands.{Got, Fault, read_at}
use Rattle.expression.specs.Reading.{no_counts, counted, capped}
use Rattle.expression.specs.Places.{locate_from, locate}
use Rattle.expression.proofs.Commands.{read-ends}
use Rattle.expression.proofs.Totals.{AtMost, none-at-most, counted-at-most, capped_same}

module _ (K : ℕ) (s : List ℕ) (asked : ℕ) where
  -- the walk has come to `at` with counts n: some fuel, enough for the rest, finds from here what is to be found
  abbrev pub Ahead : ℕ → Counts → Type 0
  Ahead at n = (at ≤ length s) × AtMost at n × ((k : ℕ) × (length s < at + k) × (locate_from K k s asked at n ≡ locate K s asked))

  pub ahead-start : (n : Counts) → n ≡ no_counts → Ahead 0 n
  unfolding locate
  ahead-start n e = subst (Ahead 0) (sym e) (omega arith, none-at-most 0, (suc (length s), omega arith, refl))

  module _ (at : ℕ) (n : Counts) (further : at ≡ asked → ⊥) where
    -- m is what the code counts
    pub ahead_step : (c : Command) (next : ℕ) (m : Counts) → read_at K s at ≡ Got c next → m ≡ capped (counted n c) → length s ≤ count_limit → Ahead at n → Ahead next m
    unfolding locate_from
    ahead_step c next m e f l (h, w, (zero, g, p)) = absurd (omega arith)
    ahead_step c next m e f l (h, w, (suc k, g, p)) =
        let b = read-ends K s at c next e in
        let v = counted-at-most at next n c w b.0 in
        subst (Ahead next) (sym (f ∙ capped_same next (counted n c) v (omega arith))) (b.1, v, (k, omega arith, rw (ne_eqb at asked further, e, locate_from) at p))

    pub ahead-fault : (f : ℕ) → read_at K s at ≡ Fault f → Ahead at n → None ≡ locate K s asked
    unfolding locate_from
    ahead-fault f e (h, w, (zero, g, p)) = absurd (omega arith)
    ahead-fault f e (h, w, (suc k, g, p)) = rw (ne_eqb at asked further, e, locate_from) at p

  pub ahead-here : (at : ℕ) (n : Counts) → at ≡ asked → Ahead at n → Some n ≡ locate K s asked
  unfolding locate_from
  ahead-here at n e (h, w, (zero, g, p)) = absurd (omega arith)
  ahead-here at n e (h, w, (suc k, g, p)) = rw (eq-eqb at asked e, locate_from) at p
