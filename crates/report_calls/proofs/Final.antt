-- After a grounded decision that was not refused, the report after the last command is of the final table, and an area's words have room for it. Assumes nothing.
use Rattle.std.specs.Prelude.{Option, Some, None}
use mathlib.Core.Path.{◌≡◌, refl, sym, ap, ◌∙◌, subst}
use mathlib.Core.Bool.{Bool, true, false, cond, true≢false}
use mathlib.Core.List.{List, [], ◌∷◌}
use Prim.Native.Nat.{ℕ, zero, suc, ◌+◌, ◌*◌, ◌≤◌, ◌<◌}
use native.Mathlib.Nat.{le_trans, mul-le-mul, suc-mul}
use native.Mathlib.Decide.{dec_le}
use native.Mathlib.Omega.{arith}
use lib.Dec.{eqb, ltb}
use lib.ListN.{length, length-append}
use borrow.Author.Tests.{eqb-true, ltb-false}
use Rattle.lists.specs.Lists.{some}
use Rattle.lists.proofs.Members.{and_both, or-neither}
use Rattle.expression.specs.declared.Command.{Command}
use Rattle.expression.specs.declared.Counts.{Counts}
use Rattle.expression.specs.Limits.{area_words}
use Rattle.expression.specs.Refusals.{subsets_full, plans_full}
use Rattle.expression.specs.Commands.{Read, Got, Fault, read_at}
use Rattle.expression.specs.Reading.{new_atoms, Placed, no_counts, counted, reading}
use Rattle.expression.specs.Places.{locate_from, locate}
use Rattle.expression.specs.Checks.{Checked, Passed, Refused, Request, check}
use Rattle.expression.proofs.Commands.{read-ends}
use Rattle.expression.proofs.Checks.{Joined}
use Rattle.expression.proofs.Accepted.{check-accepted}
use Rattle.expression.proofs.Remaining.{Remains, Next, remains-start, remains-next, remains-end}
use Rattle.semantics.specs.Expressions.{Operations, act}
use Rattle.tables.specs.Algebras.{Algebra, tables}
use Rattle.tables.specs.Definitions.{Pair, subsets, pairs, grounded_accepts}
use Rattle.decisions.specs.Decisions.{Verdict, refused, assumed, commands_in, newest, Walked, stopped, walked, walk, conclude, decide, grounded, pairs_fault}
use Rattle.decisions.proofs.Walks.{Settled, check-readable, walked_one}
use Rattle.leaves.specs.declared.Tables.TheVariants.{Pairs}
use Rattle.walks.specs.Walks.{before}
use Rattle.walks.proofs.Before.{before_more, before-nil}
use Rattle.reports.specs.Reports.{entry_words, report_of}
use Rattle.reporting.specs.Reporting.{is_before, starts_at, table_at, asked_table}
use Rattle.report_calls.specs.Parts.{final_table}
use Rattle.report_calls.proofs.Asked.{starts-within}

-- ---- the last command

-- a command starts at the offset and ends with the bytes
pub record LastAt (K : ℕ) (s : List ℕ) (at : ℕ) : Type 0 where
  pub starts : starts_at K s at ≡ true
  pub command : Command
  pub reads : read_at K s at ≡ Got command (length s)

module _ (K : ℕ) (s : List ℕ) (at : ℕ) where
  -- a walk only comes to offsets ahead
  located-ahead : (k from : ℕ) (n m : Counts) → locate_from K k s at from n ≡ Some m → from ≤ at
  unfolding locate_from
  located-ahead zero from n m h = let x : ◌≡◌ {A = ℕ} 0 1 = cc in absurd (omega arith)
  located-ahead (suc k) from n m h = step (eqb from at) refl (read_at K s from) refl (λ c next g. located-ahead k next (counted n c) m g) h
    where
      step : (b : Bool) → eqb from at ≡ b → (r : Read) → read_at K s from ≡ r → ((c : Command) (next : ℕ) → locate_from K k s at next (counted n c) ≡ Some m → next ≤ at)
          → elim b as (λ x. Option Counts) [ true ↦ Some n | false ↦ elim r [ Fault f ↦ None | Got c next ↦ locate_from K k s at next (counted n c) ] ] ≡ Some m → from ≤ at
      step true e r q g h = omega (arith, eqb-true from at e)
      step false e (Fault f) q g h = let x : ◌≡◌ {A = ℕ} 0 1 = cc in absurd (omega arith)
      step false e (Got c next) q g h = omega (arith, g c next h, (read-ends K s from c next q).0)

  located : starts_at K s at ≡ true → (m : Counts) × (locate K s at ≡ Some m)
  unfolding starts_at
  located h = step (locate K s at) refl (and_both (ltb at (length s)) (is_before (locate K s at)) h).1
    where
      step : (x : Option Counts) → locate K s at ≡ x → is_before x ≡ true → (m : Counts) × (locate K s at ≡ Some m)
      step (Some m) e g = (m, e)
      step None e g = absurd (true≢false (sym g))

  -- no command starts behind the last
  module _ (l : LastAt K s at) (z : Counts) where
    all_from : (k from : ℕ) (n m : Counts) (cs : List Placed) → Remains K s from n cs z → locate_from K k s at from n ≡ Some m → before (at + 1) cs ≡ cs
    unfolding locate_from
    all_from zero from n m cs r h = let x : ◌≡◌ {A = ℕ} 0 1 = cc in absurd (omega arith)
    all_from (suc k) from n m cs r h = step (dec_le (suc from) (length s)) (λ next n' cs' r' h'. all_from k next n' m cs' r' h')
      where
        Rest : Type 0
        Rest = (next : ℕ) (n' : Counts) (cs' : List Placed) → Remains K s next n' cs' z → locate_from K k s at next n' ≡ Some m → before (at + 1) cs' ≡ cs'

        behind : (N : Next K s from n cs z) → Rest → (b : Bool) → eqb from at ≡ b → before (at + 1) N.rest ≡ N.rest
        behind N f true e =
            let same : from ≡ at = eqb-true from at e in
            let read : read_at K s from ≡ Got l.command (length s) = ap (read_at K s) same ∙ l.reads in
            let last : N.next ≡ length s = let x = N.read in cc in
            let none = (remains-end K s N.next (counted n N.command) N.rest z (omega arith) N.after).0 in
            ap (before (at + 1)) none ∙ before-nil (at + 1) ∙ sym none
        behind N f false e = f N.next (counted n N.command) N.rest N.after (rw (e, N.read, locate_from) at h)

        step : Dec (from < length s) → Rest → before (at + 1) cs ≡ cs
        step (no g) f = let e = (remains-end K s from n cs z (omega arith) r).0 in ap (before (at + 1)) e ∙ before-nil (at + 1) ∙ sym e
        step (yes g) f =
            let N = remains-next K s from n cs z g r in
            let ahead = located-ahead (suc k) from n m h in
            ap (before (at + 1)) N.listed ∙ before_more (at + 1) from N.command N.rest (omega arith)
            ∙ ap {B = List Placed} (λ x. record { place = from; command = N.command } ∷ x) (behind N f (eqb from at) refl) ∙ sym N.listed

    all-before : (j : Joined K s z) → before (at + 1) j.placed ≡ j.placed
    unfolding locate
    all-before j = let (m, e) = located l.starts in all_from (suc (length s)) 0 no_counts m j.placed (remains-start K s z j) e

-- ---- a decision that was not refused

-- where f is what exceeds the limits, the last table of a walk to the end does not
last_within : {X : Type 0} (B : Operations (List X)) (f : List X → ℕ) (n : ℕ) (c : Placed) (cs : List Placed) (ts us : List (List X)) → walk B f n (c ∷ cs) ts ≡ walked us → f (newest us) ≡ 0
unfolding walk
last_within {X} B f n c [] ts us h = step (f (newest (act B n c.command ts))) refl h
  where
    step : (k : ℕ) → f (newest (act B n c.command ts)) ≡ k → elim k as (λ x. Walked X) [ zero ↦ walked (act B n c.command ts) | suc m ↦ stopped (suc m) c.place ] ≡ walked us → f (newest us) ≡ 0
    step zero e h = let same : act B n c.command ts ≡ us = cc in ap (λ (ws : List (List X)). f (newest ws)) (sym same) ∙ e
    step (suc m) e h = let x : ◌≡◌ {A = ℕ} 0 1 = cc in absurd (omega arith)
last_within {X} B f n c (d ∷ ds) ts us h =
    step (f (newest (act B n c.command ts))) (λ g. last_within B f (n + new_atoms c.command) d ds (act B n c.command ts) us g) h
  where
    W : Walked X
    W = walk B f (n + new_atoms c.command) (d ∷ ds) (act B n c.command ts)

    step : (k : ℕ) → (W ≡ walked us → f (newest us) ≡ 0) → elim k as (λ x. Walked X) [ zero ↦ W | suc m ↦ stopped (suc m) c.place ] ≡ walked us → f (newest us) ≡ 0
    step zero g h = g h
    step (suc m) g h = let x : ◌≡◌ {A = ℕ} 0 1 = cc in absurd (omega arith)

-- the checks passed, and no limit stopped the walk
settled-walk : {X : Type 0} (A : Algebra X) (f : List X → ℕ) (y : List X → Bool) (K : ℕ) (a : Request) → Settled (decide A f y K a)
    → (z : Counts) × (check K a ≡ Passed z) × ((us : List (List X)) × (walk (tables A (assumed a)) f 0 (commands_in (reading K a.bytes)) [] ≡ walked us))
unfolding decide conclude
settled-walk {X} A f y K a h = checked (check K a) refl h
  where
    W : Walked X
    W = walk (tables A (assumed a)) f 0 (commands_in (reading K a.bytes)) []

    went : (w : Walked X) → W ≡ w → Settled (conclude y w) → (us : List (List X)) × (W ≡ walked us)
    went (stopped n at) e k = absurd k
    went (walked us) e k = (us, e)

    checked : (c : Checked) → check K a ≡ c → Settled (elim c as (λ x. Verdict) [ Passed z ↦ conclude y W | Refused n at ↦ refused n at ])
        → (z : Counts) × (check K a ≡ Passed z) × ((us : List (List X)) × (W ≡ walked us))
    checked (Passed z) e k = (z, e, went W refl k)
    checked (Refused n at) e k = absurd k

-- ---- the words of a table within the limits

small-rows : (G : ℕ) (t : List Pair) → some (λ x. ltb G (length (subsets x))) t ≡ false → length (report_of Pairs t) ≤ length t * (G + 2)
unfolding some report_of entry_words
small-rows G [] h = omega arith
small-rows G (x ∷ t) h =
    let k = or-neither (ltb G (length (subsets x))) (some (λ y. ltb G (length (subsets y))) t) h in
    let r = small-rows G t k.1 in
    omega (arith, ltb-false G (length (subsets x)) k.0, length-append (subsets x) (report_of Pairs t), suc-mul (length t) (G + 2))

report-small : (P G : ℕ) (t : List Pair) → pairs_fault P G t ≡ 0 → length (report_of Pairs t) ≤ area_words P G
unfolding pairs_fault
report-small P G t h = step (some (λ x. ltb G (length (subsets x))) t) refl (ltb P (length t)) refl h
  where
    step : (b : Bool) → some (λ x. ltb G (length (subsets x))) t ≡ b → (c : Bool) → ltb P (length t) ≡ c → cond b subsets_full (cond c plans_full 0) ≡ 0 → length (report_of Pairs t) ≤ area_words P G
    step true e c g k = absurd (omega arith)
    step false e true g k = absurd (omega arith)
    step false e false g k = le_trans (small-rows G t e) (mul-le-mul (ltb-false P (length t) g) (let x : G + 2 ≤ G + 2 = omega arith in x))

-- ---- the report after the last command

-- its table is the final one, and has at most an area's words
pub record FinalReport (K : ℕ) (a : Request) (at : ℕ) : Type 0 where
  pub asked : asked_table (pairs K) (pairs_fault a.pair_limit a.subset_limit) K a at ≡ table_at (final_table K a.bytes a.assumed_true a.assumed_false)
  pub small : length (report_of Pairs (final_table K a.bytes a.assumed_true a.assumed_false)) ≤ area_words a.pair_limit a.subset_limit

module _ (K : ℕ) (a : Request) (settled : Settled (grounded K a)) where
  abbrev P : ℕ
  P = a.pair_limit

  abbrev G : ℕ
  G = a.subset_limit

  went : (z : Counts) × (check K a ≡ Passed z) × ((us : List (List Pair)) × (walk (tables (pairs K) (assumed a)) (pairs_fault P G) 0 (commands_in (reading K a.bytes)) [] ≡ walked us))
  unfolding grounded
  went = settled-walk (pairs K) (pairs_fault P G) (grounded_accepts K) K a settled

  pub settled-joined : (z : Counts) × Joined K a.bytes z
  settled-joined = let (z, passed, w) = went in (z, (check-accepted K a z passed).joined)

  pub final-report : (at : ℕ) → LastAt K a.bytes at → FinalReport K a at
  unfolding asked_table assumed commands_in
  final-report at l =
      let (z, passed, (us, walks)) = went in
      let j = (check-accepted K a z passed).joined in
      let read : commands_in (reading K a.bytes) ≡ j.placed = ap commands_in j.read in
      let all : before (at + 1) (commands_in (reading K a.bytes)) ≡ commands_in (reading K a.bytes) = ap (before (at + 1)) read ∙ all-before K a.bytes at l z j ∙ sym read in
      let one = walked_one (pairs K) (assumed a) (pairs_fault P G) K a us (check-readable K a passed) walks in
      let N = remains-next K a.bytes 0 no_counts j.placed z (let w = starts-within K a.bytes at l.starts in omega arith) (remains-start K a.bytes z j) in
      let within = last_within (tables (pairs K) (assumed a)) (pairs_fault P G) 0 _ N.rest [] us (subst (λ (cs : List Placed). walk (tables (pairs K) (assumed a)) (pairs_fault P G) 0 cs [] ≡ walked us) (read ∙ N.listed) walks) in
      record {
        asked = rw (passed, asked_table, l.starts, all, walks) (ap (λ (ts : List (List Pair)). table_at (newest ts)) one);
        small = report-small P G _ (ap (λ (ts : List (List Pair)). pairs_fault P G (newest ts)) (sym one) ∙ within);
      }
