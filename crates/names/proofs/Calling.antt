-- What an atom is called, command by command; where its name ends. Assumes nothing.
use mathlib.Core.Path.{◌≡◌, refl, sym, ap, ◌∙◌, subst}
use mathlib.Core.Bool.{Bool, true, false}
use mathlib.Core.List.{List, [], ◌∷◌, map}
use Prim.Native.Nat.{ℕ, zero, suc, ◌+◌, ◌≤◌, ◌<◌}
use native.Mathlib.Omega.{arith}
use lib.Dec.{ltb}
use lib.ListN.{length}
use borrow.Author.Tests.{ltb-true, ltb-false}
use Rattle.expression.specs.declared.Command.{Command}
use Rattle.expression.specs.declared.Command.TheVariants.{Atom, Rule, Union, Relabel, Connect, Name}
use Rattle.expression.specs.declared.Counts.{Counts}
use Rattle.expression.specs.Checks as checked
use Rattle.expression.specs.Limits.{name_length}
use Rattle.expression.specs.Commands.{Got, Fault, read_at}
use Rattle.expression.specs.Effects.{effect}
use Rattle.expression.specs.Reading.{no_counts, counted, capped, Placed, Reading, faulty, whole, read_from, reading}
use Rattle.expression.specs.Checks.{Checked, Passed, check_sheet}
use Rattle.expression.specs.Names.{Naming, Named, Nameless, Refused, newest_by, called_by, called_from, called, called_in, unless_refused, name_of}
use Rattle.expression.proofs.Commands.{name-ends}
use Rattle.expression.proofs.Totals.{capped-limited}
use Rattle.expression.proofs.Readings.{from_end, whole-taken}
use Rattle.expression.proofs.Checks.{sheet-joined}
use Rattle.expression.proofs.Remaining.{Remains, remains-start, remains-next, remains-end}

abbrev commands_of : List Placed → List Command
commands_of cs = map (λ p. p.command) cs

module _ (K : ℕ) (s : List ℕ) (c : ℕ) where
  -- what atom c is called after n, if it is called r before and the commands left follow
  abbrev pub Left : ℕ → Counts → Bool → Naming → Type 0
  Left at n b r = (z : Counts) × (cs : List Placed) × Remains K s at n cs z × (called_from c n.atoms b r (commands_of cs) ≡ called_in c (reading K s))

  pub left-start : {z : Counts} → check_sheet K s ≡ Passed z → (n : Counts) → n ≡ no_counts → Left 0 n false Nameless
  unfolding called_in called no_counts
  left-start {z} h n e =
      let j = sheet-joined K s z h in
      subst (λ m. Left 0 m false Nameless) (sym e) (z, j.placed, remains-start K s z j, sym (ap (called_in c) j.read))

  module _ (at : ℕ) (n : Counts) (b : Bool) (r : Naming) (within : at < length s) where
    pub left-next : Left at n b r → (d : Command) (next : ℕ) → read_at K s at ≡ Got d next → (m : Counts) → m ≡ capped (counted n d)
        → (b' : Bool) → b' ≡ newest_by c n.atoms b (effect d) → (r' : Naming) → r' ≡ called_by b r d → Left next m b' r'
    unfolding called_from counted
    left-next (z, cs, h, e) d next got m em b' eb r' er =
        let t = remains-next K s at n cs z within h in
        let p : t.command ≡ d = cc in
        let q : t.next ≡ next = cc in
        let after = subst (λ x. Remains K s x (counted n t.command) t.rest z) q t.after in
        let em' = em ∙ ap (λ x. capped (counted n x)) (sym p) ∙ capped-limited _ t.after.1 in
        rw (em', eb, er, ← p) (z, t.rest, after, sym (ap (λ ds. called_from c n.atoms b r (commands_of ds)) t.listed) ∙ e)

    pub left-fault : Left at n b r → (f : ℕ) → read_at K s at ≡ Fault f → ⊥
    left-fault (z, cs, h, e) f got = let t = remains-next K s at n cs z within h in let x : ◌≡◌ {A = ℕ} 0 1 = cc in omega arith

  pub left_end : (at : ℕ) (n : Counts) (b : Bool) (r : Naming) → length s ≤ at → Left at n b r → r ≡ called_in c (reading K s)
  unfolding called_from
  left_end at n b r past (z, cs, h, e) = ap (λ ds. called_from c n.atoms b r (commands_of ds)) (sym (remains-end K s at n cs z past h).0) ∙ e

-- ---- where a name ends

-- a name is within the bytes
abbrev Within : ℕ → Naming → Type 0
Within n (Named at) = at + name_length ≤ n
Within n Nameless = Unit {0}
Within n (Refused m at) = Unit {0}

module _ (K : ℕ) (s : List ℕ) (c : ℕ) where
  by-within : (at : ℕ) (b : Bool) (r : Naming) (d : Command) (next : ℕ) → read_at K s at ≡ Got d next → Within (length s) r → Within (length s) (called_by b r d)
  unfolding called_by
  by-within at true r (Name n) next e h = name-ends K s at n next e
  by-within at false r (Name n) next e h = h
  by-within at b r (Atom g) next e h = h
  by-within at b r (Rule g) next e h = h
  by-within at b r Union next e h = h
  by-within at b r (Relabel i j) next e h = h
  by-within at b r (Connect k i j) next e h = h

  from-within : (k at : ℕ) (n : Counts) (b : Bool) (r : Naming) (cs : List Placed) (z : Counts) → read_from K k s at n ≡ whole cs z → Within (length s) r
      → Within (length s) (called_from c n.atoms b r (commands_of cs))
  unfolding called_from counted
  from-within zero at n b r cs z e h = unfold read_from in let f : [] ≡ cs = cc in subst (λ ds. Within (length s) (called_from c n.atoms b r (commands_of ds))) f h
  from-within (suc k) at n b r cs z e h = step (ltb at (length s)) refl (λ m next. from-within k next m)
    where
      step : (l : Bool) → ltb at (length s) ≡ l
          → ((m : Counts) (next : ℕ) (b : Bool) (r : Naming) (ds : List Placed) (y : Counts) → read_from K k s next m ≡ whole ds y → Within (length s) r → Within (length s) (called_from c m.atoms b r (commands_of ds)))
          → Within (length s) (called_from c n.atoms b r (commands_of cs))
      step false l rest =
          let g = from_end K (suc k) s at n (ltb-false at (length s) l) in
          let f : [] ≡ cs = cc in
          subst (λ ds. Within (length s) (called_from c n.atoms b r (commands_of ds))) f h
      step true l rest =
          let t = whole-taken K k s at n cs z (ltb-true at (length s) l) e in
          subst (λ ds. Within (length s) (called_from c n.atoms b r (commands_of ds))) (sym t.listed)
          (rest (counted n t.command) t.next (newest_by c n.atoms b (effect t.command)) (called_by b r t.command) t.rest z t.after (by-within at b r t.command t.next t.read h))

  in_within : (r : Reading) → reading K s ≡ r → Within (length s) (called_in c r)
  unfolding called_in called reading no_counts
  in_within (faulty n at) e = tt
  in_within (whole cs z) e = from-within (length s) 0 no_counts false Nameless cs z e tt

  unless-within : (x : Checked) (r : Naming) → Within (length s) r → Within (length s) (unless_refused x r)
  unless-within (Passed z) r h = h
  unless-within (checked.Refused n at) r h = tt

  pub named-within : (at : ℕ) → name_of K s c ≡ Named at → at + name_length ≤ length s
  unfolding name_of
  named-within at e = subst (Within (length s)) e (unless-within (check_sheet K s) _ (in_within (reading K s) refl))
