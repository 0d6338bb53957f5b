-- AN EXPRESSION WITHOUT ITS NAMES is read as the other commands, with the same counts (02, Item 1). Assumes nothing.
use mathlib.Core.Path.{◌≡◌, refl, sym, ap, ◌∙◌}
use mathlib.Core.Logic.{◌⊎◌, inl, inr}
use mathlib.Core.Bool.{Bool, true, false}
use mathlib.Core.List.{List, [], ◌∷◌, ◌++◌, append_assoc}
use Prim.Native.Nat.{ℕ, zero, suc, ◌+◌, ◌-◌, ◌≤◌, ◌<◌, zero-le}
use native.Mathlib.Omega.{arith}
use lib.Dec.{ltb}
use lib.ListN.{length, take, drop, length-append, length-drop, drop_of_length-le}
use borrow.Author.Tests.{ltb-true, ltb-false}
use Rattle.expression.specs.declared.Command.{Command}
use Rattle.expression.specs.declared.Command.TheVariants.{Name}
use Rattle.expression.specs.declared.Counts.{Counts}
use Rattle.expression.specs.Commands.{Read, Got, Fault, read_at}
use Rattle.expression.specs.Effects.{effect}
use Rattle.expression.specs.Reading.{no_counts, counted, Placed, whole, behind, read_from, reading}
use Rattle.expression.proofs.Commands.{past_end, read-ends}
use Rattle.expression.proofs.Totals.{Limited, none-limited, pass-counted}
use Rattle.expression.proofs.Readings.{from_end, from_step}
use Rattle.expression.proofs.Remaining.{Remains, Next, remains-next, remains-end}
use Rattle.semantics.proofs.Readings.{commands_of}
use Rattle.naming.specs.Unnamed.{unless_name, without_names, unnamed_from, unnamed}
use Rattle.naming.proofs.Moved.{Other, name-or-other, other-stays, own-length, read-moved}

-- ---- the list of commands

pub without-name : (at : ℕ) (cs : List Command) → without_names (Name at ∷ cs) ≡ without_names cs
unfolding without_names unless_name
without-name at cs = refl

pub without_other : (c : Command) (cs : List Command) → Other c → without_names (c ∷ cs) ≡ c ∷ without_names cs
unfolding without_names
without_other c cs o = ap (λ xs. xs ++ without_names cs) (other-stays c (c ∷ []) o)

-- a name counts nothing
name-counts : (n : Counts) (at : ℕ) → Limited n → counted n (Name at) ≡ n
unfolding effect
name-counts n at l = pass-counted n (Name at) refl l

module _ (K : ℕ) (s : List ℕ) where
  -- ---- the bytes

  unnamed-end : (k at : ℕ) → length s ≤ at → unnamed_from K k s at ≡ []
  unfolding unnamed_from
  unnamed-end zero at h = drop_of_length-le s h
  unnamed-end (suc k) at h = rw (past_end K s at h, unnamed_from) (drop_of_length-le s h)

  unnamed-step : (k at : ℕ) (c : Command) (next : ℕ) → read_at K s at ≡ Got c next
      → unnamed_from K (suc k) s at ≡ unless_name c (take (next - at) (drop at s)) ++ unnamed_from K k s next
  unfolding unnamed_from
  unnamed-step k at c next e = rw (e, unnamed_from)

  -- ---- what is read of them

  -- from an offset of the bytes t on: the commands cs that are no names, and the same counts at the end
  abbrev ReadOthers : ℕ → List ℕ → ℕ → Counts → List Placed → Counts → Type 0
  ReadOthers k t at n cs z = (ds : List Placed) × (read_from K k t at n ≡ whole ds z) × (commands_of ds ≡ without_names (commands_of cs))

  -- behind bytes that are put out already
  abbrev After : ℕ → ℕ → Counts → List Placed → Counts → Type 0
  After k at n cs z = (out : List ℕ) (k' : ℕ) → length (unnamed_from K k s at) ≤ k' → ReadOthers k' (out ++ unnamed_from K k s at) (length out) n cs z

  after-end : (k at : ℕ) (n : Counts) (cs : List Placed) (z : Counts) → length s ≤ at → Remains K s at n cs z → After k at n cs z
  unfolding without_names
  after-end k at n cs z past r out k' l =
      let (e, f) = remains-end K s at n cs z past r in
      rw (unnamed-end k at past, e) ([], from_end K k' (out ++ []) (length out) n (omega (arith, length-append out [])) ∙ ap (whole []) f, refl)

  module _ (k at : ℕ) (n : Counts) (cs : List Placed) (z : Counts) (limited : Limited n) (N : Next K s at n cs z) (rest : After k N.next (counted n N.command) N.rest z) where
    after-name : (place : ℕ) → N.command ≡ Name place → After (suc k) at n cs z
    unfolding unless_name
    after-name place e out k' l =
        let (ds, read, same) = rest out k' (rw (unnamed-step k at _ _ N.read, e) at l) in
        rw (N.listed, unnamed-step k at _ _ N.read, e) (ds, rw (ap (counted n) e ∙ name-counts n place limited) at read, same ∙ sym (without-name place (commands_of N.rest)))

    abbrev own : List ℕ
    own = take (N.next - at) (drop at s)

    abbrev others : List ℕ
    others = unnamed_from K k s N.next

    own-here : length own ≡ N.next - at
    own-here = own-length K s at N.command N.next N.read [] []

    step_other : Other N.command → unnamed_from K (suc k) s at ≡ own ++ others
    step_other o = unnamed-step k at _ _ N.read ∙ ap (λ xs. xs ++ others) (other-stays N.command own o)

    -- its own bytes, put out, are read as it is
    put-out : Other N.command → (out : List ℕ) (j : ℕ) → ReadOthers j (out ++ own ++ others) (length (out ++ own)) (counted n N.command) N.rest z
        → ReadOthers (suc j) (out ++ (own ++ others)) (length out) n cs z
    unfolding behind
    put-out o out j (ds, read, same) =
        let b = read-ends K s at _ _ N.read in
        let p : Placed = record { place = length out; command = N.command } in
        let within : length out < length (out ++ (own ++ others)) = omega (arith, length-append out (own ++ others), length-append own others, own-here) in
        rw N.listed (
          p ∷ ds,
          from_step K j (out ++ (own ++ others)) (length out) n within N.command _ (read-moved K s at _ _ N.read out others o) N.passes
              ∙ ap (behind p) (rw (append_assoc out own others, length-append out own, own-here) at read),
          ap (λ xs. N.command ∷ xs) same ∙ sym (without_other N.command (commands_of N.rest) o),
        )

    after-other : Other N.command → After (suc k) at n cs z
    after-other o out zero l = let b = read-ends K s at _ _ N.read in absurd (omega (arith, ap length (step_other o), length-append own others, own-here))
    after-other o out (suc j) l =
        let b = read-ends K s at _ _ N.read in
        rw (step_other o) (put-out o out j (rest (out ++ own) j (omega (arith, ap length (step_other o), length-append own others, own-here))))

  after-all : (k at : ℕ) (n : Counts) (cs : List Placed) (z : Counts) → length s ≤ at + k → Remains K s at n cs z → After k at n cs z
  after-all zero at n cs z h r = after-end zero at n cs z (omega arith) r
  after-all (suc k) at n cs z h r = step (ltb at (length s)) refl (λ m y ds. after-all k m y ds z)
    where
      Rest : Type 0
      Rest = (m : ℕ) (y : Counts) (ds : List Placed) → length s ≤ m + k → Remains K s m y ds z → After k m y ds z

      named : (N : Next K s at n cs z) → After k N.next (counted n N.command) N.rest z → ((p : ℕ) × (N.command ≡ Name p)) ⊎ Other N.command → After (suc k) at n cs z
      named N rest (inl (p, e)) = after-name k at n cs z r.1 N rest p e
      named N rest (inr o) = after-other k at n cs z r.1 N rest o

      step : (b : Bool) → ltb at (length s) ≡ b → Rest → After (suc k) at n cs z
      step false e rest = after-end (suc k) at n cs z (ltb-false at (length s) e) r
      step true e rest =
          let N = remains-next K s at n cs z (ltb-true at (length s) e) r in
          let b = read-ends K s at _ _ N.read in
          named N (rest N.next (counted n N.command) N.rest (omega arith) N.after) (name-or-other N.command)

pub reading-unnamed : (K : ℕ) (s : List ℕ) (cs : List Placed) (z : Counts) → reading K s ≡ whole cs z
    → (ds : List Placed) × (reading K (unnamed K s) ≡ whole ds z) × (commands_of ds ≡ without_names (commands_of cs))
unfolding reading unnamed
reading-unnamed K s cs z h = after-all K s (length s) 0 no_counts cs z (omega arith) (omega arith, none-limited, (length s, omega arith, h)) [] (length (unnamed_from K (length s) s 0)) (omega arith)

-- ---- they are no longer

unless-shorter : {X : Type 0} (c : Command) (xs : List X) → length (unless_name c xs) ≤ length xs
unless-shorter c xs = step (name-or-other c)
  where
    step : ((at : ℕ) × (c ≡ Name at)) ⊎ Other c → length (unless_name c xs) ≤ length xs
    step (inl (at, e)) = unfold unless_name in rw e zero-le
    step (inr o) = rw (other-stays c xs o) (omega arith)

from-shorter : (K k : ℕ) (s : List ℕ) (at : ℕ) → length (unnamed_from K k s at) ≤ length s - at
unfolding unnamed_from
from-shorter K zero s at = omega (arith, length-drop at s)
from-shorter K (suc k) s at = step (read_at K s at) refl (from-shorter K k s)
  where
    step : (r : Read) → read_at K s at ≡ r → ((next : ℕ) → length (unnamed_from K k s next) ≤ length s - next) → length (unnamed_from K (suc k) s at) ≤ length s - at
    step (Fault f) e rest = rw (e, unnamed_from) (omega (arith, length-drop at s))
    step (Got c next) e rest =
        let b = read-ends K s at c next e in
        let own = take (next - at) (drop at s) in
        omega (arith, ap length (unnamed-step K s k at c next e), length-append (unless_name c own) (unnamed_from K k s next), unless-shorter c own, own-length K s at c next e [] [], rest next)

pub unnamed-shorter : (K : ℕ) (s : List ℕ) → length (unnamed K s) ≤ length s
unfolding unnamed
unnamed-shorter K s = let h = from-shorter K (length s) s 0 in omega arith
