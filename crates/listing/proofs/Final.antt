-- After both decisions settle the report after the last command is written: where that command starts, and what the report answers. Assumes nothing.
use Rattle.std.specs.Prelude.{Some}
use mathlib.Core.Path.{◌≡◌, refl, sym, ap, ◌∙◌, subst}
use mathlib.Core.Bool.{false, ◌||◌, true≢false}
use mathlib.Core.List.{List, ◌++◌}
use Prim.Native.Nat.{ℕ, zero, suc, ◌+◌, ◌≤◌, ◌<◌}
use native.Mathlib.Decide.{dec_le}
use native.Mathlib.Omega.{arith}
use lib.ListN.{length, drop}
use borrow.Author.Tests.{eq-eqb, ne_eqb, lt-ltb, le-ltb}
use Rattle.expression.specs.declared.Command.{Command}
use Rattle.expression.specs.declared.Counts.{Counts}
use Rattle.expression.specs.Limits.{area_words}
use Rattle.expression.specs.Commands.{Got, read_at}
use Rattle.expression.specs.Reading.{Placed, no_counts, counted}
use Rattle.expression.specs.Places.{locate_from, locate}
use Rattle.expression.specs.Checks.{Request}
use Rattle.expression.proofs.Commands.{past_end, read-ends}
use Rattle.expression.proofs.Checks.{Joined}
use Rattle.expression.proofs.Remaining.{Remains, Next, remains-start, remains-next, remains-end}
use Rattle.tables.specs.Definitions.{Pair, pairs}
use Rattle.decisions.specs.Decisions.{Verdict, affirmed, denied, refused, grounded, plain, pairs_fault}
use Rattle.decisions.proofs.Walks.{Settled}
use Rattle.leaves.specs.declared.Tables.TheVariants.{Pairs}
use Rattle.reports.specs.Reports.{report_of}
use Rattle.reporting.specs.declared.Report.{Report}
use Rattle.reporting.specs.declared.Report.TheVariants.{Written, Refused}
use Rattle.reporting.specs.Reporting.{starts_at, Asked, asked_table, report_answer, report_buffer}
use Rattle.report_calls.specs.Parts.{final_table}
use Rattle.report_calls.proofs.Final.{LastAt, settled-joined, FinalReport, final-report}
use Rattle.listing.specs.Listing.{is_refusal, either_refused, last_from, last_start}

-- ---- the last start is the last command's

module _ (K : ℕ) (s : List ℕ) (z : Counts) where
  -- from an offset on the command at l is found, and ends with the bytes
  record Found (k from : ℕ) (n : Counts) (l : ℕ) : Type 0 where
    counts : Counts
    located : locate_from K k s l from n ≡ Some counts
    command : Command
    reads : read_at K s l ≡ Got command (length s)
    ahead : from ≤ l
    within : l < length s

  found : (k from last : ℕ) (n : Counts) (cs : List Placed) → Remains K s from n cs z → from < length s → length s < from + k → Found k from n (last_from K k s last from)
  unfolding last_from locate_from
  found zero from last n cs r l f = absurd (omega arith)
  found (suc k) from last n cs r l f =
      step (remains-next K s from n cs z l r) (λ next n' cs' r' l' f'. found k next from n' cs' r' l' f')
    where
      Rest : Type 0
      Rest = (next : ℕ) (n' : Counts) (cs' : List Placed) → Remains K s next n' cs' z → next < length s → length s < next + k → Found k next n' (last_from K k s from next)

      -- nothing is read behind the end
      ends : (k next : ℕ) → length s ≤ next → last_from K k s from next ≡ from
      ends zero next p = refl
      ends (suc k) next p = rw (past_end K s next p, last_from)

      step : Next K s from n cs z → Rest → Found (suc k) from n (last_from K (suc k) s last from)
      step N g = rw (N.read, last_from) (by (dec_le (suc N.next) (length s)))
        where
          e : (from < N.next) × (N.next ≤ length s)
          e = read-ends K s from N.command N.next N.read

          by : Dec (N.next < length s) → Found (suc k) from n (last_from K k s from N.next)
          by (yes p) =
              let F = g N.next (counted n N.command) N.rest N.after p (omega (arith, e.0)) in
              record {
                counts = F.counts;
                located = rw (ne_eqb from (last_from K k s from N.next) (λ q. let b = F.ahead in omega (arith, e.0)), N.read, locate_from) F.located;
                command = F.command;
                reads = F.reads;
                ahead = let b = F.ahead in omega (arith, e.0);
                within = F.within;
              }
          by (no p) =
              let here = ends k N.next (omega arith) in
              let end : N.next ≡ length s = omega (arith, e.1) in
              rw here (record {
                counts = n;
                located = rw (eq-eqb from from refl, locate_from);
                command = N.command;
                reads = N.read ∙ ap (Got N.command) end;
                ahead = omega arith;
                within = l;
              })

  last-start : Joined K s z → LastAt K s (last_start K s)
  unfolding last_start starts_at locate no_counts
  last-start j = by (dec_le 1 (length s))
    where
      r : Remains K s 0 no_counts j.placed z
      r = remains-start K s z j

      by : Dec (1 ≤ length s) → LastAt K s (last_start K s)
      by (no p) =
          let none : no_counts ≡ z = (remains-end K s 0 no_counts j.placed z (omega arith) r).1 in
          let d : 0 ≡ z.depth = ap (λ (n : Counts). n.depth) none in
          absurd (omega (arith, d, j.joined))
      by (yes p) =
          let F = found (suc (length s)) 0 0 no_counts j.placed r p (omega arith) in
          record { starts = rw (lt-ltb (last_start K s) (length s) F.within, F.located); command = F.command; reads = F.reads }

-- ---- the report

module _ (K : ℕ) (a : Request) (settles : either_refused K a ≡ false) where
  settled : Settled (grounded K a)
  settled = by (grounded K a) settles
    where
      by : (v : Verdict) → (is_refusal v || is_refusal (plain K a)) ≡ false → Settled v
      by affirmed h = tt
      by denied h = tt
      by (refused n p) h = absurd (true≢false h)

  module _ (at : ℕ) (last : at ≡ last_start K a.bytes) where
    abbrev asked : Asked Pair
    asked = asked_table (pairs K) (pairs_fault a.pair_limit a.subset_limit) K a at

    abbrev final : List Pair
    final = final_table K a.bytes a.assumed_true a.assumed_false

    report : FinalReport K a at
    report = let (z, j) = settled-joined K a settled in final-report K a settled at (subst (LastAt K a.bytes) (sym last) (last-start K a.bytes z j))

    -- it is written, and never refused
    pub written : (room : ℕ) → area_words a.pair_limit a.subset_limit ≤ room → report_answer (report_of Pairs) room at asked ≡ Written (length final) (length (report_of Pairs final))
    written room h = rw (report.asked, le-ltb room (length (report_of Pairs final)) (let l = report.small in omega arith))

    pub in_buffer : (out : List ℕ) → area_words a.pair_limit a.subset_limit ≤ length out → report_buffer (report_of Pairs) out asked ≡ report_of Pairs final ++ drop (length (report_of Pairs final)) out
    in_buffer out h = rw (report.asked, le-ltb (length out) (length (report_of Pairs final)) (let l = report.small in omega arith))

pub not-both : {n k f p : ℕ} (r : Report) → r ≡ Written n k → r ≡ Refused f p → ⊥
not-both r h g = let x : ◌≡◌ {A = ℕ} 0 1 = cc in omega arith

pub same_count : {n k m l : ℕ} (r : Report) → r ≡ Written n k → r ≡ Written m l → n ≡ m
same_count r h g = cc
