-- Where a walk stops: at the first command whose table has a fault, if one has. Assumes nothing.
use mathlib.Core.Path.{◌≡◌, refl, sym, ap, ◌∙◌}
use mathlib.Core.List.{List, [], ◌∷◌, map}
use Prim.Native.Nat.{ℕ, zero, suc, ◌+◌, ◌<◌}
use native.Mathlib.Nat.{not-suc-le-zero, le_of_suc-le-suc}
use native.Mathlib.Omega.{arith}
use lib.ListN.{length, take, get_or}
use Rattle.expression.specs.Reading.{new_atoms, Placed}
use Rattle.semantics.specs.Expressions.{Operations, act, act_all}
use Rattle.semantics.proofs.Readings.{commands_of}
use Rattle.decisions.specs.Decisions.{newest, Walked, stopped, walked, walk}

-- the newest table after k commands on the tables ts
abbrev pub newest_after : {X : Type 0} → Operations (List X) → ℕ → List Placed → List (List X) → ℕ → List X
newest_after B n cs ts k = newest (act_all B n (commands_of (take k cs)) ts)

module _ {X : Type 0} (B : Operations (List X)) (f : List X → ℕ) where
  -- command `command` is the first whose table has a fault; d is any number
  pub record FirstFault (d n : ℕ) (cs : List Placed) (ts : List (List X)) (m at : ℕ) : Type 0 where
    pub command : ℕ
    pub among : command < length cs
    pub before : (k : ℕ) → k < command → f (newest_after B n cs ts (suc k)) ≡ 0
    pub fault : f (newest_after B n cs ts (suc command)) ≡ m
    pub faulty : 0 < m
    pub place : at ≡ get_or (map (λ c. c.place) cs) command d

  -- what a walk does with its first command's fault
  abbrev next : ℕ → Placed → List Placed → List (List X) → ℕ → Walked X
  next n c cs us m = elim m as (λ x. Walked X) [ zero ↦ walk B f (n + new_atoms c.command) cs us | suc k ↦ stopped (suc k) c.place ]

  pub stopped-first : (d n : ℕ) (cs : List Placed) (ts : List (List X)) {m at : ℕ} → walk B f n cs ts ≡ stopped m at → FirstFault d n cs ts m at
  unfolding walk act_all
  stopped-first d n [] ts h = let z : ◌≡◌ {A = ℕ} 0 1 = cc in absurd (omega arith)
  stopped-first d n (c ∷ cs) ts {m} {at} h = step (f (newest us)) refl (λ k. stopped-first d (n + new_atoms c.command) cs us k) h
    where
      us : List (List X)
      us = act B n c.command ts

      behind : f (newest us) ≡ 0 → FirstFault d (n + new_atoms c.command) cs us m at → FirstFault d n (c ∷ cs) ts m at
      behind e r = record { command = suc r.command; among = omega (arith, r.among); before = earlier; fault = r.fault; faulty = r.faulty; place = r.place }
        where
          earlier : (k : ℕ) → k < suc r.command → f (newest_after B n (c ∷ cs) ts (suc k)) ≡ 0
          earlier zero l = e
          earlier (suc k) l = r.before k (le_of_suc-le-suc l)

      step : (k : ℕ) → f (newest us) ≡ k → (walk B f (n + new_atoms c.command) cs us ≡ stopped m at → FirstFault d (n + new_atoms c.command) cs us m at)
          → next n c cs us k ≡ stopped m at → FirstFault d n (c ∷ cs) ts m at
      step zero e g k = behind e (g k)
      step (suc j) e g k =
          let number : suc j ≡ m = cc in
          let here : c.place ≡ at = cc in
          record { command = 0; among = omega arith; before = λ i l. absurd (not-suc-le-zero l); fault = e ∙ number; faulty = omega arith; place = sym here }

  pub first-stopped : (d n : ℕ) (cs : List Placed) (ts : List (List X)) {m at : ℕ} → FirstFault d n cs ts m at → walk B f n cs ts ≡ stopped m at
  unfolding walk act_all
  first-stopped d n [] ts r = absurd (not-suc-le-zero r.among)
  first-stopped d n (c ∷ cs) ts {m} {at} r = step r.command r.among r.before r.fault r.place (λ h. first-stopped d (n + new_atoms c.command) cs us h)
    where
      us : List (List X)
      us = act B n c.command ts

      here : (k : ℕ) → 0 < k → next n c cs us k ≡ stopped k c.place
      here zero l = absurd (omega arith)
      here (suc k) l = refl

      step : (i : ℕ) → i < suc (length cs) → ((k : ℕ) → k < i → f (newest_after B n (c ∷ cs) ts (suc k)) ≡ 0) → f (newest_after B n (c ∷ cs) ts (suc i)) ≡ m
          → at ≡ get_or (map (λ p. p.place) (c ∷ cs)) i d → (FirstFault d (n + new_atoms c.command) cs us m at → walk B f (n + new_atoms c.command) cs us ≡ stopped m at)
          → next n c cs us (f (newest us)) ≡ stopped m at
      step zero l b e p g = ap (next n c cs us) e ∙ here m r.faulty ∙ ap (stopped m) (sym p)
      step (suc i) l b e p g =
          ap (next n c cs us) (b 0 (omega arith))
          ∙ g (record { command = i; among = le_of_suc-le-suc l; before = λ k h. b (suc k) (omega arith); fault = e; faulty = r.faulty; place = p })

  -- a walk that no fault stops
  pub none-walked : (n : ℕ) (cs : List Placed) (ts : List (List X)) → ((k : ℕ) → k < length cs → f (newest_after B n cs ts (suc k)) ≡ 0)
      → walk B f n cs ts ≡ walked (act_all B n (commands_of cs) ts)
  unfolding walk act_all
  none-walked n [] ts h = refl
  none-walked n (c ∷ cs) ts h =
      ap (next n c cs (act B n c.command ts)) (h 0 (omega arith))
      ∙ none-walked (n + new_atoms c.command) cs (act B n c.command ts) (λ k l. h (suc k) (omega arith))

  pub walked_none : (n : ℕ) (cs : List Placed) (ts us : List (List X)) → walk B f n cs ts ≡ walked us → (k : ℕ) → k < length cs → f (newest_after B n cs ts (suc k)) ≡ 0
  unfolding walk act_all
  walked_none n [] ts us h = λ k l. absurd (not-suc-le-zero l)
  walked_none n (c ∷ cs) ts us h = step (f (newest vs)) refl (λ g. walked_none (n + new_atoms c.command) cs vs us g) h
    where
      vs : List (List X)
      vs = act B n c.command ts

      on : f (newest vs) ≡ 0 → ((k : ℕ) → k < length cs → f (newest_after B (n + new_atoms c.command) cs vs (suc k)) ≡ 0) → (k : ℕ) → k < suc (length cs) → f (newest_after B n (c ∷ cs) ts (suc k)) ≡ 0
      on e g zero l = e
      on e g (suc k) l = g k (le_of_suc-le-suc l)

      step : (m : ℕ) → f (newest vs) ≡ m
          → (walk B f (n + new_atoms c.command) cs vs ≡ walked us → (k : ℕ) → k < length cs → f (newest_after B (n + new_atoms c.command) cs vs (suc k)) ≡ 0)
          → next n c cs vs m ≡ walked us → (k : ℕ) → k < suc (length cs) → f (newest_after B n (c ∷ cs) ts (suc k)) ≡ 0
      step zero e g w = on e (g w)
      step (suc m) e g w = let z : ◌≡◌ {A = ℕ} 0 1 = cc in absurd (omega arith)
