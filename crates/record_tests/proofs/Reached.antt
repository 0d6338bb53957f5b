-- A place that a walk over a checked expression comes to: which commands remain there. Over K labels. Assumes nothing.
use Rattle.std.specs.Prelude.{Some, None}
use mathlib.Core.Path.{◌≡◌, refl, subst}
use mathlib.Core.Bool.{Bool, true, false}
use mathlib.Core.List.{List}
use Prim.Native.Nat.{ℕ, zero, suc, ◌≤◌, ◌<◌}
use native.Mathlib.Omega.{arith}
use lib.Dec.{eqb}
use lib.ListN.{length}
use borrow.Author.Tests.{eqb-true}
use Rattle.expression.specs.declared.Command.{Command}
use Rattle.expression.specs.declared.Counts.{Counts}
use Rattle.expression.specs.Commands.{Read, Got, Fault, read_at}
use Rattle.expression.specs.Effects.{effect, depth_by}
use Rattle.expression.specs.Reading.{no_counts, counted, count_fault, Placed}
use Rattle.expression.specs.Places.{locate_from, locate}
use Rattle.expression.proofs.Commands.{read-ends}
use Rattle.expression.proofs.Checks.{Joined}
use Rattle.expression.proofs.Remaining.{Remains, remains-start, remains-next, remains-deepest, next-deepest}

module _ (K : ℕ) (s : List ℕ) (z : Counts) where
  abbrev pub Here : ℕ → Counts → Type 0
  Here at n = (cs : List Placed) × Remains K s at n cs z

  -- no more operands stand there than the expression has at any moment
  pub here-within : {at : ℕ} {n : Counts} → Here at n → {d : ℕ} → z.deepest ≡ d → n.depth ≤ d
  here-within {at} {n} h e = omega (arith, h.1.1.within, remains-deepest K s at n h.0 z h.1, e)

  -- over one command
  module _ {at : ℕ} {n : Counts} (h : Here at n) {c : Command} {next : ℕ} (e : read_at K s at ≡ Got c next) where
    within : at < length s
    within = let b = read-ends K s at c next e in omega (arith, b)

    pub here-passes : count_fault n c ≡ 0
    here-passes =
        let N = remains-next K s at n h.0 z within h.1 in
        let same : N.command ≡ c = cc (N.read, e) in subst (λ (x : Command). count_fault n x ≡ 0) same N.passes

    pub here-deepest : depth_by (effect c) n.depth ≤ z.deepest
    here-deepest =
        let N = remains-next K s at n h.0 z within h.1 in
        let same : N.command ≡ c = cc (N.read, e) in subst (λ (x : Command). depth_by (effect x) n.depth ≤ z.deepest) same (next-deepest K s N)

    pub here-next : Here next (counted n c)
    here-next =
        let N = remains-next K s at n h.0 z within h.1 in
        let same : N.command ≡ c = cc (N.read, e) in
        let there : N.next ≡ next = cc (N.read, e) in
        (N.rest, subst (λ (x : Command). Remains K s next (counted n x) N.rest z) same (subst (λ (i : ℕ). Remains K s i (counted n N.command) N.rest z) there N.after))

  go : (asked k at : ℕ) (m n : Counts) → Here at m → locate_from K k s asked at m ≡ Some n → Here asked n
  unfolding locate_from
  go asked zero at m n h e = let q : ◌≡◌ {A = ℕ} 0 1 = cc e in absurd (omega arith)
  go asked (suc k) at m n h e = by (λ next c l. go asked k next (counted m c) n l) (eqb at asked) refl (read_at K s at) refl
    where
      by : ((next : ℕ) (c : Command) → Here next (counted m c) → locate_from K k s asked next (counted m c) ≡ Some n → Here asked n)
          → (b : Bool) → eqb at asked ≡ b → (x : Read) → read_at K s at ≡ x → Here asked n
      by on true t x f = let v : Some m ≡ Some n = rw (t, locate_from) at e in let j : m ≡ n = cc v in subst (λ (i : ℕ). Here i n) (eqb-true at asked t) (subst (Here at) j h)
      by on false t (Fault v) f = let g : None ≡ Some n = rw (t, f, locate_from) at e in let q : ◌≡◌ {A = ℕ} 0 1 = cc g in absurd (omega arith)
      by on false t (Got c next) f = on next c (here-next h f) (rw (t, f, locate_from) at e)

  pub located_here : (asked : ℕ) (n : Counts) → Joined K s z → locate K s asked ≡ Some n → Here asked n
  unfolding locate
  located_here asked n j e = go asked (suc (length s)) 0 no_counts n (j.placed, remains-start K s z j) e
