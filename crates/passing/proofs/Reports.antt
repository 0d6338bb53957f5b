-- A report asked at a name gives the table before it (02, Item 1), a refusal by 15 or 16 included. Over K labels. Assumes nothing.
use mathlib.Core.Path.{◌≡◌, refl, sym, ap, ◌∙◌, subst}
use mathlib.Core.Logic.{◌⊎◌, inl, inr}
use mathlib.Core.Bool.{Bool, true, false, false≢true}
use mathlib.Core.List.{List, [], ◌∷◌, ◌++◌}
use Prim.Native.Nat.{ℕ, zero, suc, ◌+◌, ◌≤◌, ◌<◌, zero-le}
use native.Mathlib.Decide.{dec_le}
use native.Mathlib.Omega.{arith}
use lib.Dec.{eqb, ltb}
use lib.ListN.{length}
use borrow.Author.Tests.{eq-eqb, eqb-true, lt-ltb, le-ltb}
use Rattle.lists.proofs.Members.{and_both}
use Rattle.expression.specs.declared.Command.{Command}
use Rattle.expression.specs.declared.Command.TheVariants.{Name}
use Rattle.expression.specs.declared.Counts.{Counts}
use Rattle.expression.specs.Commands.{Read, Got, Fault, read_at}
use Rattle.expression.specs.Effects.{effect}
use Rattle.expression.specs.Reading.{new_atoms, no_counts, counted, count_fault, Placed, reading}
use Rattle.expression.specs.Places.{locate_from, locate}
use Rattle.expression.specs.Checks.{Passed, Request, check}
use Rattle.expression.proofs.Commands.{read-ends}
use Rattle.expression.proofs.Totals.{passes-operands}
use Rattle.expression.proofs.Checks.{Joined}
use Rattle.expression.proofs.Accepted.{check-accepted}
use Rattle.expression.proofs.Remaining.{Remains, Next, remains-start, remains-next, remains-end}
use Rattle.semantics.specs.Expressions.{Operations, act}
use Rattle.tables.specs.Algebras.{Algebra, tables}
use Rattle.tables.specs.Definitions.{Pair, pairs, triples}
use Rattle.decisions.specs.Decisions.{assumed, commands_in, newest, Walked, stopped, walk, pairs_fault, plain_fault}
use Rattle.walks.specs.Walks.{before}
use Rattle.walks.proofs.Before.{before_more, before-none, before-nil}
use Rattle.reporting.specs.Reporting.{is_before, starts_at, Asked, newest_in, asked_table}
use Rattle.passing.proofs.Steps.{none-fault}

-- ---- a walk whose last command is a name

module _ {X : Type 0} (B : Operations (List X)) (f : List X → ℕ) (at x : ℕ) where
  abbrev name : List Placed
  name = record { place = at; command = Name x } ∷ []

  walk-name : (n : ℕ) (cs : List Placed) (ts : List (List X)) → f (newest ts) ≡ 0 → walk B f n (cs ++ name) ts ≡ walk B f n cs ts
  unfolding walk act
  walk-name n [] ts h = rw h
  walk-name n (c ∷ cs) ts h = step (f (newest us)) refl (walk-name (n + new_atoms c.command) cs us)
    where
      us : List (List X)
      us = act B n c.command ts

      goes : ℕ → Walked X → Walked X
      goes k w = elim k as (λ y. Walked X) [ zero ↦ w | suc m ↦ stopped (suc m) c.place ]

      step : (k : ℕ) → f (newest us) ≡ k → (f (newest us) ≡ 0 → walk B f (n + new_atoms c.command) (cs ++ name) us ≡ walk B f (n + new_atoms c.command) cs us)
          → goes k (walk B f (n + new_atoms c.command) (cs ++ name) us) ≡ goes k (walk B f (n + new_atoms c.command) cs us)
      step zero e rest = rest e
      step (suc m) e rest = refl

-- ---- the commands before an offset and one behind it

module _ (K : ℕ) (s : List ℕ) (z : Counts) where
  -- none starts before the first that remains
  none_before : (stop at : ℕ) (n : Counts) (cs : List Placed) → stop ≤ at → Remains K s at n cs z → before stop cs ≡ []
  none_before stop at n cs l r = step (dec_le (suc at) (length s))
    where
      step : Dec (at < length s) → before stop cs ≡ []
      step (yes g) = let N = remains-next K s at n cs z g r in ap (before stop) N.listed ∙ before-none stop at N.command N.rest l
      step (no g) = ap (before stop) (remains-end K s at n cs z (omega arith) r).0 ∙ before-nil stop

  -- the command c at `at`, the next of which is at `next`
  module _ (at next : ℕ) (c : Command) (read : read_at K s at ≡ Got c next) where
    abbrev here : Placed
    here = record { place = at; command = c }

    ends : (at < next) × (next ≤ length s)
    ends = read-ends K s at c next read

    -- those before any offset behind its start, as far as the next command's, are those before it, and it
    abbrev Parts : ℕ → List Placed → Type 0
    Parts from cs = (from ≤ at) × ((stop : ℕ) → at < stop → stop ≤ next → before stop cs ≡ before at cs ++ (here ∷ []))

    parts-here : (n : Counts) (cs : List Placed) → Remains K s at n cs z → Parts at cs
    parts-here n cs r =
        let N = remains-next K s at n cs z (omega (arith, ends)) r in
        let same : N.command ≡ c = cc (N.read, read) in
        let there : N.next ≡ next = cc (N.read, read) in (
          omega arith,
          λ stop l m.
              ap (before stop) N.listed ∙ before_more stop at N.command N.rest l
              ∙ ap (λ ds. record { place = at; command = N.command } ∷ ds) (none_before stop N.next _ N.rest (omega arith) N.after)
              ∙ ap (λ d. record { place = at; command = d } ∷ []) same
              ∙ sym (ap (λ ds. ds ++ (here ∷ [])) (none_before at at n cs (omega arith) r)),
        )

    parts_from : (k from : ℕ) (n : Counts) (cs : List Placed) → Remains K s from n cs z → is_before (locate_from K k s at from n) ≡ true → Parts from cs
    unfolding locate_from
    parts_from zero from n cs r h = absurd (false≢true h)
    parts_from (suc k) from n cs r h = step (eqb from at) refl (read_at K s from) refl (λ m ds i. parts_from k i m ds)
      where
        Rest : Type 0
        Rest = (m : Counts) (ds : List Placed) (i : ℕ) → Remains K s i m ds z → is_before (locate_from K k s at i m) ≡ true → Parts i ds

        behind : (N : Next K s from n cs z) → Parts N.next N.rest → Parts from cs
        behind N (l, e) =
            let first : Placed = record { place = from; command = N.command } in
            let b = read-ends K s from N.command N.next N.read in (
              omega (arith, b),
              λ stop i j.
                  ap (before stop) N.listed ∙ before_more stop from N.command N.rest (omega (arith, b)) ∙ ap (λ ds. first ∷ ds) (e stop i j)
                  ∙ sym (ap (λ ds. ds ++ (here ∷ [])) (ap (before at) N.listed ∙ before_more at from N.command N.rest (omega (arith, b)))),
            )

        step : (b : Bool) → eqb from at ≡ b → (x : Read) → read_at K s from ≡ x → Rest → Parts from cs
        step true e x q rest = let same : from ≡ at = eqb-true from at e in subst (λ (i : ℕ). Parts i cs) (sym same) (parts-here n cs (subst (λ (i : ℕ). Remains K s i n cs z) same r))
        step false e (Fault f) q rest = absurd (false≢true (rw (e, q, locate_from) at h))
        step false e (Got d i) q rest =
            let N = remains-next K s from n cs z (omega (arith, read-ends K s from d i q)) r in
            behind N (rest (counted n N.command) N.rest N.next N.after (rw (e, N.read, locate_from) at h))

    -- it is found
    parts : (j : Joined K s z) → starts_at K s at ≡ true → (stop : ℕ) → at < stop → stop ≤ next → before stop j.placed ≡ before at j.placed ++ (here ∷ [])
    unfolding starts_at locate
    parts j h = (parts_from (suc (length s)) 0 no_counts j.placed (remains-start K s z j) (and_both (ltb at (length s)) (is_before (locate K s at)) h).1).1

-- ---- the command before one

-- a command that starts there and ends at `at`
pub record Earlier (K : ℕ) (s : List ℕ) (at : ℕ) : Type 0 where
  pub place : ℕ
  pub command : Command
  pub starts : starts_at K s place ≡ true
  pub reads : read_at K s place ≡ Got command at

module _ (K : ℕ) (s : List ℕ) (at : ℕ) where
  -- the same on the way from an offset
  abbrev EarlierFrom : ℕ → ℕ → Counts → Type 0
  EarlierFrom k from n = (p : ℕ) × (c : Command) × (is_before (locate_from K k s p from n) ≡ true) × (read_at K s p ≡ Got c at)

  earlier-from : (k from : ℕ) (n : Counts) → is_before (locate_from K k s at from n) ≡ true → (from ≡ at) ⊎ EarlierFrom k from n
  unfolding locate_from
  earlier-from zero from n h = absurd (false≢true h)
  earlier-from (suc k) from n h = step (eqb from at) refl (read_at K s from) refl (earlier-from k)
    where
      found : (p : ℕ) (d : Command) (i : ℕ) → read_at K s from ≡ Got d i → is_before (locate_from K k s p i (counted n d)) ≡ true → (b : Bool) → eqb from p ≡ b → is_before (locate_from K (suc k) s p from n) ≡ true
      found p d i q h true e = rw (e, locate_from)
      found p d i q h false e = rw (e, q, locate_from) h

      more : (d : Command) (i : ℕ) → read_at K s from ≡ Got d i → (i ≡ at) ⊎ EarlierFrom k i (counted n d) → EarlierFrom (suc k) from n
      more d i q (inl e) = (from, d, rw (eq-eqb from from refl, locate_from), q ∙ ap (Got d) e)
      more d i q (inr (p, c, l, reads)) = (p, c, found p d i q l (eqb from p) refl, reads)

      step : (b : Bool) → eqb from at ≡ b → (x : Read) → read_at K s from ≡ x
          → ((i : ℕ) (m : Counts) → is_before (locate_from K k s at i m) ≡ true → (i ≡ at) ⊎ EarlierFrom k i m) → (from ≡ at) ⊎ EarlierFrom (suc k) from n
      step true e x q rest = inl (eqb-true from at e)
      step false e (Fault f) q rest = absurd (false≢true (rw (e, q, locate_from) at h))
      step false e (Got d i) q rest = inr (more d i q (rest i (counted n d) (rw (e, q, locate_from) at h)))

  -- a name is not the first command
  name-later : (z : Counts) → Joined K s z → (x next : ℕ) → read_at K s at ≡ Got (Name x) next → 0 ≡ at → ⊥
  unfolding no_counts effect
  name-later z j x next read e =
      let N = remains-next K s 0 no_counts j.placed z (omega (arith, e, read-ends K s at (Name x) next read)) (remains-start K s z j) in
      let same : N.command ≡ Name x = let r = ap (read_at K s) e ∙ read in cc (N.read, r) in
      omega (arith, passes-operands no_counts (Name x) (subst (λ (c : Command). count_fault no_counts c ≡ 0) same N.passes))

-- ---- a report

pub commands : (K : ℕ) (s : List ℕ) (z : Counts) (j : Joined K s z) → commands_in (reading K s) ≡ j.placed
unfolding commands_in
commands K s z j = ap commands_in j.read

pub asked-walk : {X : Type 0} (A : Algebra X) (f : List X → ℕ) (K : ℕ) (a : Request) {z : Counts} → check K a ≡ Passed z → (at : ℕ) → starts_at K a.bytes at ≡ true
    → asked_table A f K a at ≡ newest_in (walk (tables A (assumed a)) f 0 (before (at + 1) (commands_in (reading K a.bytes))) [])
unfolding asked_table
asked-walk A f K a passed at starts = rw (passed, asked_table, starts)

-- its table is that which the commands before the name leave, where the empty table exceeds no limit
pub report-passes : {X : Type 0} (A : Algebra X) (f : List X → ℕ) → f [] ≡ 0 → (K : ℕ) (a : Request) {z : Counts} → check K a ≡ Passed z → (at : ℕ) → starts_at K a.bytes at ≡ true
    → {x next : ℕ} → read_at K a.bytes at ≡ Got (Name x) next
    → asked_table A f K a at ≡ newest_in (walk (tables A (assumed a)) f 0 (before at (commands_in (reading K a.bytes))) [])
report-passes A f none K a {z} passed at starts {x} {next} read =
    let j = (check-accepted K a z passed).joined in
    let B = tables A (assumed a) in
    let l : at + 1 ≤ next = omega (arith, read-ends K a.bytes at (Name x) next read) in
    asked-walk A f K a passed at starts
    ∙ ap (λ cs. newest_in (walk B f 0 (before (at + 1) cs) [])) (commands K a.bytes z j)
    ∙ ap (λ cs. newest_in (walk B f 0 cs [])) (parts K a.bytes z at next (Name x) read j starts (at + 1) (omega arith) l)
    ∙ ap newest_in (walk-name B f at x 0 (before at j.placed) [] none)
    ∙ sym (ap (λ cs. newest_in (walk B f 0 (before at cs) [])) (commands K a.bytes z j))

-- so it is the report asked at the command before
pub report-earlier : {X : Type 0} (A : Algebra X) (f : List X → ℕ) → f [] ≡ 0 → (K : ℕ) (a : Request) {z : Counts} → check K a ≡ Passed z → (at : ℕ) → starts_at K a.bytes at ≡ true
    → {x next : ℕ} → read_at K a.bytes at ≡ Got (Name x) next
    → (e : Earlier K a.bytes at) → asked_table A f K a at ≡ asked_table A f K a e.place
report-earlier A f none K a {z} passed at starts {x} {next} read e =
    let j = (check-accepted K a z passed).joined in
    let B = tables A (assumed a) in
    let l = read-ends K a.bytes e.place e.command at e.reads in
    let up_to = parts K a.bytes z e.place at e.command e.reads j e.starts in
    report-passes A f none K a passed at starts read
    ∙ ap (λ cs. newest_in (walk B f 0 (before at cs) [])) (commands K a.bytes z j)
    ∙ ap (λ cs. newest_in (walk B f 0 cs [])) (up_to at l.0 (omega arith) ∙ sym (up_to (e.place + 1) (omega arith) (omega (arith, l))))
    ∙ sym (asked-walk A f K a passed e.place e.starts ∙ ap (λ cs. newest_in (walk B f 0 (before (e.place + 1) cs) [])) (commands K a.bytes z j))

pub plain-none : (P : ℕ) → plain_fault P [] ≡ 0
unfolding plain_fault
plain-none P = rw (le-ltb P 0 zero-le)

-- ---- a name in a request that passes its checks

module _ (K : ℕ) (a : Request) {z : Counts} (passed : check K a ≡ Passed z) (at : ℕ) (starts : starts_at K a.bytes at ≡ true) {x next : ℕ} (read : read_at K a.bytes at ≡ Got (Name x) next) where
  -- there is a command before it
  pub earlier : Earlier K a.bytes at
  unfolding starts_at locate
  earlier = step (earlier-from K a.bytes at (suc (length a.bytes)) 0 no_counts (and_both (ltb at (length a.bytes)) _ starts).1)
    where
      step : (0 ≡ at) ⊎ EarlierFrom K a.bytes at (suc (length a.bytes)) 0 no_counts → Earlier K a.bytes at
      step (inl e) = absurd (name-later K a.bytes at z (check-accepted K a z passed).joined x next read e)
      step (inr (p, c, l, reads)) =
          record { place = p; command = c; starts = rw (lt-ltb p (length a.bytes) (omega (arith, read-ends K a.bytes p c at reads))) l; reads = reads }

  -- reports
  abbrev pairs_asked : ℕ → Asked Pair
  pairs_asked p = asked_table (pairs K) (pairs_fault a.pair_limit a.subset_limit) K a p

  pub pairs-report-passes : pairs_asked at ≡ newest_in (walk (tables (pairs K) (assumed a)) (pairs_fault a.pair_limit a.subset_limit) 0 (before at (commands_in (reading K a.bytes))) [])
  pairs-report-passes = report-passes (pairs K) _ (none-fault a.pair_limit a.subset_limit) K a passed at starts read

  pub pairs-report-earlier : (e : Earlier K a.bytes at) → pairs_asked at ≡ pairs_asked e.place
  pairs-report-earlier = report-earlier (pairs K) _ (none-fault a.pair_limit a.subset_limit) K a passed at starts read

  -- plain reports
  abbrev plain_asked : ℕ → Asked ℕ
  plain_asked p = asked_table (triples K) (plain_fault a.pair_limit) K a p

  pub plain-report-passes : plain_asked at ≡ newest_in (walk (tables (triples K) (assumed a)) (plain_fault a.pair_limit) 0 (before at (commands_in (reading K a.bytes))) [])
  plain-report-passes = report-passes (triples K) _ (plain-none a.pair_limit) K a passed at starts read

  pub plain-report-earlier : (e : Earlier K a.bytes at) → plain_asked at ≡ plain_asked e.place
  plain-report-earlier = report-earlier (triples K) _ (plain-none a.pair_limit) K a passed at starts read
