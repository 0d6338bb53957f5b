-- A report is of the table of the newest part (demand 2), for pairs and plainly. Assumes nothing.
use mathlib.Core.Path.{◌≡◌, refl, sym, ap, ◌∙◌, subst}
use mathlib.Core.Bool.{Bool, true, false, cond}
use mathlib.Core.List.{List, [], ◌∷◌, map}
use Prim.Native.Nat.{ℕ, ◌+◌, ◌≤◌, ◌<◌}
use native.Mathlib.Omega.{arith}
use lib.Dec.{ltb}
use lib.ListN.{length}
use Rattle.lists.specs.Lists.{All}
use Rattle.expression.specs.declared.Command.{Command}
use Rattle.expression.specs.declared.Counts.{Counts}
use Rattle.expression.specs.Commands.{Suits}
use Rattle.expression.specs.Refusals.{offset}
use Rattle.expression.specs.Effects.{effect}
use Rattle.expression.specs.Reading.{new_atoms, Placed, no_counts, count_fault, reading}
use Rattle.expression.specs.Checks.{Checked, Passed, Refused as Stopped, Request, check}
use Rattle.expression.proofs.Totals.{passes-operands, one_left}
use Rattle.expression.proofs.Checks.{Joined}
use Rattle.expression.proofs.Accepted.{check-accepted}
use Rattle.expression.proofs.Remaining.{remains-start, remains-next}
use Rattle.semantics.specs.Expressions.{Expr, act, act_all, trees}
use Rattle.semantics.proofs.Effects.{act-deep, act-some}
use Rattle.semantics.proofs.Readings.{commands_of}
use Rattle.tables.specs.Algebras.{Algebra, tables, table}
use Rattle.tables.specs.Exactness.{ExactTables}
use Rattle.tables.proofs.Exactness.{exact-all}
use Rattle.decisions.specs.Decisions.{assumed, commands_in, newest, Walked, stopped, walked, walk, first_tree}
use Rattle.decisions.proofs.Walks.{tables-after, walk-all, commands-suit}
use Rattle.walks.specs.Walks.{before}
use Rattle.walks.proofs.Before.{before_more}
use Rattle.reporting.specs.Reporting.{starts_at, Asked, refused_at, table_at, newest_in, asked_table}
use Rattle.report_calls.specs.Parts.{part_at, OfPart}
use Rattle.report_calls.proofs.Asked.{starts-within}

-- ---- some tree stands after any command

some-all : (n : ℕ) (cs : List Command) (es : List Expr) → 1 ≤ length es → 1 ≤ length (act_all trees n cs es)
unfolding act_all
some-all n [] es h = h
some-all n (c ∷ cs) es h = some-all (n + new_atoms c) cs (act trees n c es) (act-some trees n c es h)

-- the first command makes an operand: all others are bare
some_first : (c : Command) → count_fault no_counts c ≡ 0 → 1 ≤ length (act trees 0 c [])
unfolding no_counts
some_first c h = let k = passes-operands no_counts c h in subst (λ m. 1 ≤ m) (sym (act-deep trees 0 c [] k)) (one_left (effect c) 0 k)

-- a list that is not empty
filled-by : (es : List Expr) → 1 ≤ length es → (e : Expr) × (fs : List Expr) × (es ≡ e ∷ fs)
filled-by [] h = absurd (omega arith)
filled-by (e ∷ fs) h = (e, fs, refl)

suits-before : (K stop : ℕ) (cs : List Placed) → All (Suits K) (commands_of cs) → All (Suits K) (commands_of (before stop cs))
unfolding before
suits-before K stop [] h = tt
suits-before K stop (c ∷ cs) h = step (ltb c.place stop) (suits-before K stop cs h.1)
  where
    step : (b : Bool) → All (Suits K) (commands_of (before stop cs)) → All (Suits K) (commands_of (cond b (c ∷ before stop cs) []))
    step true k = (h.0, k)
    step false k = tt

module _ (K : ℕ) (a : Request) (at : ℕ) {z : Counts} (passed : check K a ≡ Passed z) where
  abbrev joined : Joined K a.bytes z
  joined = (check-accepted K a z passed).joined

  -- those up to the one asked
  abbrev placed : List Placed
  placed = before (at + 1) (commands_in (reading K a.bytes))

  abbrev cs : List Command
  cs = commands_of placed

  read : commands_in (reading K a.bytes) ≡ joined.placed
  unfolding commands_in
  read = ap commands_in joined.read

  suit : All (Suits K) cs
  suit = suits-before K (at + 1) (commands_in (reading K a.bytes)) (commands-suit K a passed)

  filled : 0 < length a.bytes → 1 ≤ length (act_all trees 0 cs [])
  unfolding act_all
  filled l =
      let x = remains-next K a.bytes 0 no_counts joined.placed z l (remains-start K a.bytes z joined) in
      let e : placed ≡ record { place = 0; command = x.command } ∷ before (at + 1) x.rest =
      ap (before (at + 1)) (read ∙ x.listed) ∙ before_more (at + 1) 0 x.command x.rest (omega arith) in
      subst (λ (ps : List Placed). 1 ≤ length (act_all trees 0 (commands_of ps) [])) (sym e)
      (some-all (0 + new_atoms x.command) (commands_of (before (at + 1) x.rest)) (act trees 0 x.command []) (some_first x.command x.passes))

  -- ---- the table asked for is that of the newest part

  module _ {X : Type 0} (A : Algebra X) (f : List X → ℕ) (starts : starts_at K a.bytes at ≡ true) where
    of_part : (us : List (List X)) → walk (tables A (assumed a)) f 0 placed [] ≡ walked us → OfPart A K a at (newest us)
    unfolding part_at
    of_part us h =
        let l = starts-within K a.bytes at starts in
        let (e, es, stack) = filled-by (act_all trees 0 cs []) (filled (omega arith)) in
        let all = subst (All (λ t. ExactTables K t (assumed a))) stack (exact-all K (assumed a) cs suit) in
        record {
          is = ap newest (walk-all (tables A (assumed a)) f 0 placed [] us h ∙ tables-after A (assumed a) placed ∙ ap (map (table A (assumed a))) stack)
              ∙ ap (λ (ts : List Expr). table A (assumed a) (first_tree ts)) (sym stack);
          exact = subst (λ (ts : List Expr). ExactTables K (first_tree ts) (assumed a)) (sym stack) all.0;
        }

-- DEMAND 2 of reports: `A` is `pairs K` for a report, `triples K` for a plain one, f what exceeds its limits
pub asked-part : {X : Type 0} (A : Algebra X) (f : List X → ℕ) (K : ℕ) (a : Request) (at : ℕ) (t : List X) → asked_table A f K a at ≡ table_at t → OfPart A K a at t
unfolding asked_table
asked-part {X} A f K a at t h = checked (check K a) refl h
  where
    W : Walked X
    W = walk (tables A (assumed a)) f 0 (before (at + 1) (commands_in (reading K a.bytes))) []

    went : {z : Counts} → check K a ≡ Passed z → starts_at K a.bytes at ≡ true → (w : Walked X) → W ≡ w → newest_in w ≡ table_at t → OfPart A K a at t
    went p s (stopped n q) e g = let x : ◌≡◌ {A = ℕ} 0 1 = cc in absurd (omega arith)
    went p s (walked us) e g = let x : newest us ≡ t = cc in subst (OfPart A K a at) x (of_part K a at p A f s us e)

    there : {z : Counts} → check K a ≡ Passed z → (b : Bool) → starts_at K a.bytes at ≡ b → cond b (newest_in W) (refused_at offset at) ≡ table_at t → OfPart A K a at t
    there p true s g = went p s W refl g
    there p false s g = let x : ◌≡◌ {A = ℕ} 0 1 = cc in absurd (omega arith)

    checked : (c : Checked) → check K a ≡ c → elim c as (λ x. Asked X) [ Passed z ↦ cond (starts_at K a.bytes at) (newest_in W) (refused_at offset at) | Stopped n p ↦ refused_at n p ] ≡ table_at t → OfPart A K a at t
    checked (Passed z) e g = there e (starts_at K a.bytes at) refl g
    checked (Stopped n p) e g = let x : ◌≡◌ {A = ℕ} 0 1 = cc in absurd (omega arith)
