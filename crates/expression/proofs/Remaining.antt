-- The walk over an expression that the checks passed: which commands remain at an offset, one step, the end. For every loop that acts on commands. Assumes nothing.
use mathlib.Core.Path.{◌≡◌, sym, ◌∙◌}
use mathlib.Core.List.{List, [], ◌∷◌}
use Prim.Native.Nat.{ℕ, zero, suc, ◌+◌, ◌≤◌, ◌<◌}
use native.Mathlib.Omega.{arith}
use lib.ListN.{length}
use Rattle.expression.specs.declared.Command.{Command}
use Rattle.expression.specs.declared.Counts.{Counts}
use Rattle.expression.specs.Commands.{Got, read_at}
use Rattle.expression.specs.Effects.{effect, depth_by}
use Rattle.expression.specs.Reading.{no_counts, counted, count_fault, Placed, whole, read_from, reading}
use Rattle.expression.proofs.Commands.{read-ends}
use Rattle.expression.proofs.Totals.{Limited, none-limited, counted-limited}
use Rattle.expression.proofs.Readings.{from_end, whole-taken, from-keeps}
use Rattle.expression.proofs.Checks.{Joined}

module _ (K : ℕ) (s : List ℕ) where
  -- after counts n the commands cs stand from `at` on, and leave the counts z
  abbrev pub Remains : ℕ → Counts → List Placed → Counts → Type 0
  Remains at n cs z = (at ≤ length s) × Limited n × ((k : ℕ) × (length s ≤ at + k) × (read_from K k s at n ≡ whole cs z))

  pub remains-start : (z : Counts) (j : Joined K s z) → Remains 0 no_counts j.placed z
  unfolding reading
  remains-start z j = (omega arith, none-limited, (length s, omega arith, j.read))

  -- the command at `at`, and what remains after it
  pub record Next (at : ℕ) (n : Counts) (cs : List Placed) (z : Counts) : Type 0 where
    pub command : Command
    pub next : ℕ
    pub rest : List Placed
    pub read : read_at K s at ≡ Got command next
    pub passes : count_fault n command ≡ 0
    pub listed : cs ≡ (record { place = at; command = command }) ∷ rest
    pub after : Remains next (counted n command) rest z

  pub remains-next : (at : ℕ) (n : Counts) (cs : List Placed) (z : Counts) → at < length s → Remains at n cs z → Next at n cs z
  remains-next at n cs z within (h, l, (zero, x, p)) = absurd (omega arith)
  remains-next at n cs z within (h, l, (suc k, x, p)) =
      let t = whole-taken K k s at n cs z within p in
      let b = read-ends K s at t.command t.next t.read in
      record {
        command = t.command;
        next = t.next;
        rest = t.rest;
        read = t.read;
        passes = t.passes;
        listed = t.listed;
        after = (b.1, counted-limited n t.command t.passes l, (k, omega arith, t.after));
      }

  pub remains-end : (at : ℕ) (n : Counts) (cs : List Placed) (z : Counts) → length s ≤ at → Remains at n cs z → (cs ≡ []) × (n ≡ z)
  remains-end at n cs z past (h, l, (k, x, p)) = let e = sym (from_end K k s at n past) ∙ p in (cc, cc)

  -- no command that remains leaves more operands than the expression has at any moment
  pub remains-deepest : (at : ℕ) (n : Counts) (cs : List Placed) (z : Counts) → Remains at n cs z → n.deepest ≤ z.deepest
  remains-deepest at n cs z (h, l, (k, x, p)) = from-keeps (λ m. n.deepest ≤ m.deepest) (λ m c f g. unfold counted in omega arith) K k s at n cs z (omega arith) p

  pub next-deepest : {at : ℕ} {n : Counts} {cs : List Placed} {z : Counts} (N : Next at n cs z) → depth_by (effect N.command) n.depth ≤ z.deepest
  next-deepest {at} {n} {cs} {z} N = let d = remains-deepest N.next (counted n N.command) N.rest z N.after in unfold counted in omega arith
