-- What a command makes of a triple, by the command's form. Assumes nothing.
use mathlib.Core.Path.{◌≡◌}
use mathlib.Core.Bool.{cond}
use Prim.Native.Nat.{ℕ, ◌+◌, ◌*◌, ◌%◌, ◌^◌, ◌<◌}
use Rattle.labels.proofs.Masks.{less, less-digit}
use Rattle.expression.specs.declared.Kind.{Kind}
use Rattle.expression.specs.declared.NewAtom.{NewAtom}
use Rattle.expression.specs.declared.Command.{Command}
use Rattle.expression.specs.declared.Command.TheVariants.{Atom, Rule, Union, Relabel, Connect, Name}
use Rattle.expression.specs.Commands.{Suits}
use Rattle.tables.specs.Triples.{settles, relabel_triple, connect_triple}
use Rattle.candidates.specs.Candidates.{map_triple}

module _ (K : ℕ) (c : Command) where
  pub relabel-labels : {i j : ℕ} → c ≡ Relabel i j → Suits K c → (i < K) × (j < K)
  unfolding Suits
  relabel-labels e h = rw e at h

  pub connect-labels : {k : Kind} {i j : ℕ} → c ≡ Connect k i j → Suits K c → (i < K) × (j < K)
  unfolding Suits
  connect-labels e h = rw e at h

  pub relabelled : (i j q r : ℕ) → c ≡ Relabel i j → relabel_triple K i j r ≡ map_triple K c q r
  unfolding map_triple
  relabelled i j q r e = rw e

  pub connected : (k : Kind) (i j q r d : ℕ) → c ≡ Connect k i j → d ≡ cond (settles K k i q r) 1 0 → 2 * K + j < 32
      → less r (d * 2 ^ (2 * K + j) % 2 ^ 32) ≡ map_triple K c q r
  unfolding map_triple connect_triple
  connected k i j q r d e s h = rw e (less-digit (2 * K + j) r d 32 (settles K k i q r) h s)

  pub atom-leaves : (a : NewAtom) (q r : ℕ) → c ≡ Atom a → r ≡ map_triple K c q r
  unfolding map_triple
  atom-leaves g q r e = rw e

  pub rule-leaves : (g q r : ℕ) → c ≡ Rule g → r ≡ map_triple K c q r
  unfolding map_triple
  rule-leaves g q r e = rw e

  pub union-leaves : (q r : ℕ) → c ≡ Union → r ≡ map_triple K c q r
  unfolding map_triple
  union-leaves q r e = rw e

  pub name-leaves : (at q r : ℕ) → c ≡ Name at → r ≡ map_triple K c q r
  unfolding map_triple
  name-leaves at q r e = rw e
