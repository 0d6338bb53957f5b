-- Laws of a whole reading: one step, a fault, the end; what a reading without fault reads at an offset; the limits that it keeps. Assumes nothing.
use mathlib.Core.Path.{◌≡◌, refl, sym, ◌∙◌, subst}
use mathlib.Core.Bool.{Bool, true, false}
use mathlib.Core.List.{List, [], ◌∷◌}
use Prim.Native.Nat.{ℕ, zero, suc, ◌≤◌, ◌<◌}
use native.Mathlib.Omega.{arith}
use lib.Dec.{ltb}
use lib.ListN.{length}
use borrow.Author.Tests.{lt-ltb, le-ltb, ltb-true, ltb-false}
use Rattle.expression.specs.declared.Command.{Command}
use Rattle.expression.specs.declared.Counts.{Counts}
use Rattle.expression.specs.Commands.{Read, Got, Fault, read_at}
use Rattle.expression.specs.Reading.{no_counts, counted, count_fault, Placed, Reading, faulty, whole, behind, read_from, reading}
use Rattle.expression.proofs.Totals.{Limited, none-limited, counted-limited}

-- no command is left: the end, whatever the fuel is
pub from_end : (K k : ℕ) (s : List ℕ) (at : ℕ) (n : Counts) → length s ≤ at → read_from K k s at n ≡ whole [] n
unfolding read_from
from_end K zero s at n h = refl
from_end K (suc k) s at n h = rw (le-ltb _ _ h, read_from)

module _ (K k : ℕ) (s : List ℕ) (at : ℕ) (n : Counts) (within : at < length s) where
  -- 5 to 8
  pub from-fault : (f : ℕ) → read_at K s at ≡ Fault f → read_from K (suc k) s at n ≡ faulty f at
  unfolding read_from
  from-fault f e = rw (lt-ltb _ _ within, e, read_from)

  -- 9 to 11
  pub from-count-fault : (c : Command) (next f : ℕ) → read_at K s at ≡ Got c next → count_fault n c ≡ suc f → read_from K (suc k) s at n ≡ faulty (suc f) at
  unfolding read_from
  from-count-fault c next f e g = rw (lt-ltb _ _ within, e, g, read_from)

  pub from_step : (c : Command) (next : ℕ) → read_at K s at ≡ Got c next → count_fault n c ≡ 0
      → read_from K (suc k) s at n ≡ behind (record { place = at; command = c }) (read_from K k s next (counted n c))
  unfolding read_from
  from_step c next e g = rw (lt-ltb _ _ within, e, g, read_from)

-- ---- a reading without fault

-- the command at `at`, and the reading after it
pub record Taken (K k : ℕ) (s : List ℕ) (at : ℕ) (n : Counts) (cs : List Placed) (z : Counts) : Type 0 where
  pub command : Command
  pub next : ℕ
  pub rest : List Placed
  pub read : read_at K s at ≡ Got command next
  pub passes : count_fault n command ≡ 0
  pub after : read_from K k s next (counted n command) ≡ whole rest z
  pub listed : cs ≡ (record { place = at; command = command }) ∷ rest

pub whole-taken : (K k : ℕ) (s : List ℕ) (at : ℕ) (n : Counts) (cs : List Placed) (z : Counts) → at < length s → read_from K (suc k) s at n ≡ whole cs z → Taken K k s at n cs z
unfolding behind
whole-taken K k s at n cs z within h = reads (read_at K s at) refl
  where
    rests : (c : Command) (next : ℕ) → read_at K s at ≡ Got c next → count_fault n c ≡ 0
        → (r : Reading) → read_from K k s next (counted n c) ≡ r → behind (record { place = at; command = c }) r ≡ whole cs z → Taken K k s at n cs z
    rests c next e g (faulty f p) q b = let x : ◌≡◌ {A = ℕ} 0 1 = cc in absurd (omega arith)
    rests c next e g (whole rest y) q b = record { command = c; next = next; rest = rest; read = e; passes = g; after = q ∙ cc; listed = cc }

    counts : (c : Command) (next : ℕ) → read_at K s at ≡ Got c next → (f : ℕ) → count_fault n c ≡ f → Taken K k s at n cs z
    counts c next e zero g = rests c next e g (read_from K k s next (counted n c)) refl (sym (from_step K k s at n within c next e g) ∙ h)
    counts c next e (suc f) g = let y = from-count-fault K k s at n within c next f e g in let x : ◌≡◌ {A = ℕ} 0 1 = cc in absurd (omega arith)

    reads : (r : Read) → read_at K s at ≡ r → Taken K k s at n cs z
    reads (Fault f) e = let y = from-fault K k s at n within f e in let x : ◌≡◌ {A = ℕ} 0 1 = cc in absurd (omega arith)
    reads (Got c next) e = counts c next e (count_fault n c) refl

-- what every command that passes 9 to 11 keeps of the counts holds at the end
pub from-keeps : (P : Counts → Type 0) → ((n : Counts) (c : Command) → count_fault n c ≡ 0 → P n → P (counted n c))
    → (K k : ℕ) (s : List ℕ) (at : ℕ) (n : Counts) (cs : List Placed) (z : Counts) → P n → read_from K k s at n ≡ whole cs z → P z
unfolding read_from
from-keeps P keeps K zero s at n cs z l h = let e : n ≡ z = cc in subst P e l
from-keeps P keeps K (suc k) s at n cs z l h = step (ltb at (length s)) refl (λ next c. from-keeps P keeps K k s next (counted n c))
  where
    step : (b : Bool) → ltb at (length s) ≡ b
        → ((next : ℕ) (c : Command) (ds : List Placed) (y : Counts) → P (counted n c) → read_from K k s next (counted n c) ≡ whole ds y → P y)
        → P z
    step false e rest = let f = from_end K (suc k) s at n (ltb-false at (length s) e) in let g : n ≡ z = cc in subst P g l
    step true e rest =
        let t = whole-taken K k s at n cs z (ltb-true at (length s) e) h in
        rest t.next t.command t.rest z (keeps n t.command t.passes l) t.after

pub reading-limited : (K : ℕ) (s : List ℕ) (cs : List Placed) (z : Counts) → reading K s ≡ whole cs z → Limited z
unfolding reading
reading-limited K s cs z h = from-keeps Limited counted-limited K (length s) s 0 no_counts cs z none-limited h
