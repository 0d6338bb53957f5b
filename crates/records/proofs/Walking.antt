-- A walk by calls under way: where it is, which tables stand there, and its next call, beside the decision's own walk. Assumes nothing.
use Rattle.std.specs.Prelude.{Some}
use mathlib.Core.Path.{◌≡◌, refl, sym, ap, ap₂, ◌∙◌}
use mathlib.Core.Bool.{Bool, true, false, cond}
use mathlib.Core.List.{List, [], ◌∷◌, map}
use Prim.Native.Nat.{ℕ, zero, suc, ◌+◌, ◌-◌, ◌≤◌, ◌<◌}
use native.Mathlib.Decide.{dec_le}
use native.Mathlib.Omega.{arith}
use lib.Dec.{ltb}
use lib.ListN.{length, take, drop, get_or, length-drop}
use borrow.Author.Tests.{ltb-true, ltb-false}
use Rattle.lists.specs.Lists.{All}
use Rattle.lists.proofs.Members.{map-drop}
use Rattle.expression.specs.declared.Counts.{Counts}
use Rattle.expression.specs.declared.Outcome.TheVariants as outcome
use Rattle.expression.specs.Refusals.{bad_record}
use Rattle.expression.specs.Reading.{no_counts, new_atoms, depth_after, counted, Placed}
use Rattle.expression.specs.Limits.{row_words, areas_for}
use Rattle.expression.specs.Checks.{Passed, Request, check, depth_of, need_of}
use Rattle.expression.specs.Places.{locate}
use Rattle.expression.proofs.Commands.{read-ends}
use Rattle.expression.proofs.Totals.{capped-limited, passes-operands}
use Rattle.expression.proofs.Accepted.{Accepted, check-accepted}
use Rattle.expression.proofs.Places.{Ahead, ahead-start, ahead_step, ahead-here}
use Rattle.expression.proofs.Remaining.{Remains, remains-start, remains-next, remains-end, remains-deepest, Next}
use Rattle.semantics.specs.Expressions.{Operations, act}
use Rattle.semantics.proofs.Effects.{act-deep}
use Rattle.semantics.proofs.Readings.{read-suits}
use Rattle.tables.specs.Algebras.{tables}
use Rattle.tables.specs.Definitions.{Pair, pairs, grounded_accepts}
use Rattle.decisions.specs.Decisions.{assumed, commands_in, pairs_fault, newest, Walked, stopped, walked, walk, answer}
use Rattle.stacks.proofs.Clearing.{workspace-none}
use Rattle.advances.proofs.Steps.{walk-nil, walk-on, walk-stops}
use Rattle.records.specs.declared.Record.{Record}
use Rattle.records.specs.Steps.{Step, stays, start_record, moves, step, start}
use Rattle.records.specs.declared.Answer.{Answer}
use Rattle.records.specs.declared.Answer.TheVariants.{Ended, Refused}
use Rattle.records.specs.Walks.{still, commands, place_of, tables_after, stepped, verdict_on, walking}
use Rattle.records.proofs.Formed.{Formed}
use Rattle.records.proofs.Preserved.{Consistent, masks-consistent, act-formed}
use Rattle.records.proofs.Held.{step-moves, step-refuses, step-ends, verdict-ends, verdict-early}

-- ---- lists

get_d_drop : {A : Type 0} (d : A) (k : ℕ) (xs : List A) → get_or xs k d ≡ get_or (drop k xs) 0 d
get_d_drop d zero xs = refl
get_d_drop d (suc k) [] = refl
get_d_drop d (suc k) (x ∷ xs) = get_d_drop d k xs

drop-next : {A : Type 0} (k : ℕ) (xs ys : List A) (x : A) → drop k xs ≡ x ∷ ys → drop (suc k) xs ≡ ys
drop-next zero [] ys x e = let q : ◌≡◌ {A = ℕ} 0 1 = cc in absurd (omega arith)
drop-next zero (y ∷ xs) ys x e = cc
drop-next (suc k) [] ys x e = let q : ◌≡◌ {A = ℕ} 0 1 = cc in absurd (omega arith)
drop-next (suc k) (y ∷ xs) ys x e = drop-next k xs ys x e

-- ---- the decision's walk: what stopped stays stopped

module _ {X : Type 0} (B : Operations (List X)) (f : List X → ℕ) (x y : ℕ) where
  pub stops-more : (i j n : ℕ) (cs : List Placed) (ts : List (List X)) → i ≤ j → walk B f n (take i cs) ts ≡ stopped x y → walk B f n (take j cs) ts ≡ stopped x y
  unfolding walk
  stops-more zero j n cs ts l h = let q : ◌≡◌ {A = ℕ} 0 1 = cc in absurd (omega arith)
  stops-more (suc i) zero n cs ts l h = absurd (omega arith)
  stops-more (suc i) (suc j) n [] ts l h = h
  stops-more (suc i) (suc j) n (c ∷ cs) ts l h = on (f (newest (act B n c.command ts))) refl (stops-more i j (n + new_atoms c.command) cs (act B n c.command ts) (omega arith))
    where
      more : List Placed → Walked X
      more ds = walk B f (n + new_atoms c.command) ds (act B n c.command ts)

      on : (k : ℕ) → f (newest (act B n c.command ts)) ≡ k → (more (take i cs) ≡ stopped x y → more (take j cs) ≡ stopped x y) → walk B f n (c ∷ take j cs) ts ≡ stopped x y
      on zero e g = walk-on B f n c.place c.command (take j cs) ts e ∙ g (sym (walk-on B f n c.place c.command (take i cs) ts e) ∙ h)
      on (suc k) e g =
          walk-stops B f n c.place c.command (take j cs) ts (suc k) (omega arith) e
          ∙ sym (walk-stops B f n c.place c.command (take i cs) ts (suc k) (omega arith) e) ∙ h

module _ (K : ℕ) (a : Request) where
  abbrev s : List ℕ
  s = a.bytes

  abbrev pub B : Operations (List (List ℕ))
  B = tables (pairs K) (assumed a)

  abbrev pub fault : List Pair → ℕ
  fault t = pairs_fault a.pair_limit a.subset_limit t

  -- ---- calls

  -- m calls after k
  pub calls-after : (n m k : ℕ) (x : Step) → n ≡ m + k → stepped K a n x ≡ stepped K a m (stepped K a k x)
  unfolding stepped
  calls-after n zero k x e = ap (λ (i : ℕ). stepped K a i x) (let q : n ≡ k = omega arith in q)
  calls-after zero (suc m) k x e = absurd (omega arith)
  calls-after (suc n) (suc m) k x e = ap (λ (y : Step). step K a y.state y.words) (calls-after n m k x (omega arith))

  -- a call that changes nothing, again and again
  pub calls-stay : (x : Step) (answer : Answer) → step K a x.state x.words ≡ still answer x → (n : ℕ) → stepped K a (suc n) x ≡ still answer x
  unfolding stepped stays
  calls-stay x answer e zero = e
  calls-stay x answer e (suc n) = ap (λ (y : Step). step K a y.state y.words) (calls-stay x answer e n) ∙ e

  module _ (z : Counts) (passed : check K a ≡ Passed z) (r : Record) (ws : List ℕ) where
    abbrev accepted : Accepted K a z
    accepted = check-accepted K a z passed

    -- ---- at command k, with the tables us

    pub record Reached (k : ℕ) (us : List (List Pair)) : Type 0 where
      pub at : ℕ
      pub counts : Counts
      pub rest : List Placed
      pub remains : Remains K s at counts rest z
      pub left : drop k (commands K a) ≡ rest
      pub ahead : (asked : ℕ) → at ≤ asked → Ahead K s asked at counts
      pub formed : All (Formed K (a.subset_limit + 2) a.pair_limit) us
      pub deep : length us ≡ counts.depth
      pub leads : (i j : ℕ) → j ≡ k + i → walk B fault counts.atoms (take i rest) us ≡ tables_after K a j
      pub calls : walking K a r ws k ≡ moves K a at us ws

    start-holds : start K a r ws ≡ moves K a 0 [] ws
    unfolding start moves start_record
    start-holds = rw (passed, start, workspace-none (areas_for (depth_of K s)) (row_words a.subset_limit) a.pair_limit (drop (need_of K a) ws))

    pub reached-start : Reached 0 []
    unfolding no_counts commands_in stepped
    reached-start =
        let j = accepted.joined in
        let all : commands K a ≡ j.placed = rw j.read in
        record {
          at = 0;
          counts = no_counts;
          rest = j.placed;
          remains = remains-start K s z j;
          left = all;
          ahead = λ asked l. ahead-start K s asked no_counts refl;
          formed = tt;
          deep = refl;
          leads = λ i k e. ap₂ (λ (cs : List Placed) (m : ℕ). walk B fault 0 (take m cs) []) (sym all) (let q : i ≡ k = omega arith in q);
          calls = start-holds;
        }

    module _ {k : ℕ} {us : List (List Pair)} (h : Reached k us) where
      limited : length us ≤ depth_of K s
      limited = omega (arith, h.deep, h.remains.1.within, remains-deepest K s h.at h.counts h.rest z h.remains, accepted.deepest)

      here : locate K s h.at ≡ Some h.counts
      here = sym (ahead-here K s h.at h.at h.counts refl (h.ahead h.at (omega arith)))

      abbrev pub held : Step
      held = moves K a h.at us ws

      -- the decision's walk so far
      pub so_far : tables_after K a k ≡ walked us
      so_far = sym (h.leads 0 k (omega arith)) ∙ walk-nil B fault h.counts.atoms us

      place-of : place_of K a k ≡ get_or (map (λ c. c.place) h.rest) 0 (length s)
      place-of =
          get_d_drop (length s) k (map (λ c. c.place) (commands K a))
          ∙ ap (λ (ps : List ℕ). get_or ps 0 (length s)) (sym (map-drop (λ c. c.place) k (commands K a)) ∙ ap (map (λ c. c.place)) h.left)

      -- ---- all commands are done

      module _ (done : length (commands K a) ≤ k) where
        none_left : h.rest ≡ []
        none_left = sym h.left ∙ none (commands K a) k done
          where
            none : (cs : List Placed) (k : ℕ) → length cs ≤ k → drop k cs ≡ []
            none [] zero l = refl
            none [] (suc k) l = refl
            none (c ∷ cs) zero l = absurd (omega arith)
            none (c ∷ cs) (suc k) l = none cs k (omega arith)

        at-end : h.at ≡ length s
        at-end = ends (ltb h.at (length s)) refl
          where
            ends : (b : Bool) → ltb h.at (length s) ≡ b → h.at ≡ length s
            ends true e =
                let N = remains-next K s h.at h.counts h.rest z (ltb-true h.at (length s) e) h.remains in
                let x = N.listed in
                let y = none_left in
                let q : ◌≡◌ {A = ℕ} 0 1 = cc in absurd (omega arith)
            ends false e = omega (arith, ltb-false h.at (length s) e, h.remains.0)

        pub last-call : step K a held.state held.words ≡ still Ended held
        last-call = step-ends K a us h.formed limited h.at ws z passed h.counts here h.deep at-end

        pub last-verdict : verdict_on K a held ≡ cond (grounded_accepts K (newest us)) (outcome.Yes 0) outcome.No
        last-verdict = verdict-ends K a us h.formed limited h.at ws z passed h.counts here h.deep at-end

      -- ---- a command is left

      module _ (more : k < length (commands K a)) where
        pub within : h.at < length s
        within = inside (ltb h.at (length s)) refl
          where
            inside : (b : Bool) → ltb h.at (length s) ≡ b → h.at < length s
            inside true e = ltb-true h.at (length s) e
            inside false e =
                let x = (remains-end K s h.at h.counts h.rest z (ltb-false h.at (length s) e) h.remains).0 in
                let y : length (drop k (commands K a)) ≡ 0 = ap length (h.left ∙ x) in
                absurd (omega (arith, y, length-drop k (commands K a)))

        pub early-verdict : verdict_on K a held ≡ outcome.Refused bad_record h.at
        early-verdict = verdict-early K a us h.formed limited h.at ws z passed h.counts here h.deep (λ q. omega (arith, q, within))

        abbrev N : Next K s h.at h.counts h.rest z
        N = remains-next K s h.at h.counts h.rest z within h.remains

        at-command : place_of K a k ≡ h.at
        at-command = place-of ∙ ap (λ (cs : List Placed). get_or (map (λ c. c.place) cs) 0 (length s)) N.listed

        abbrev pub vs : List (List Pair)
        vs = act B h.counts.atoms N.command us

        -- the decision's walk from here
        from-here : (i j : ℕ) → j ≡ k + suc i → walk B fault h.counts.atoms (record { place = h.at; command = N.command } ∷ take i N.rest) us ≡ tables_after K a j
        from-here i j e = sym (ap (λ (cs : List Placed). walk B fault h.counts.atoms (take (suc i) cs) us) N.listed) ∙ h.leads (suc i) j e

        next-holds : fault (newest vs) ≡ 0 → step K a held.state held.words ≡ moves K a N.next vs ws
        next-holds e = step-moves K a us h.formed limited h.at ws z passed h.counts here h.deep N.command N.next N.read e

        -- it exceeds neither limit
        pub reached-next : fault (newest vs) ≡ 0 → Reached (suc k) vs
        unfolding counted stepped
        reached-next e =
            let n : Counts = counted h.counts N.command in
            let far = read-ends K s h.at N.command N.next N.read in
            let same = sym (capped-limited n N.after.1) in
            let suits = read-suits K s h.at N.command N.next N.read in
            let apart : Consistent (assumed a) = unfold assumed in masks-consistent a.assumed_true a.assumed_false accepted.apart in
            record {
              at = N.next;
              counts = n;
              rest = N.rest;
              remains = N.after;
              left = drop-next k (commands K a) N.rest _ (h.left ∙ N.listed);
              ahead = λ asked l.
                  ahead_step K s asked h.at h.counts (λ q. omega (arith, q, far)) N.command N.next n N.read same (omega (arith, accepted.short))
                  (h.ahead asked (omega (arith, far)));
              formed = act-formed K (assumed a) apart a.pair_limit a.subset_limit h.counts.atoms N.command us suits h.formed e;
              deep = act-deep B h.counts.atoms N.command us (rw h.deep (passes-operands h.counts N.command N.passes)) ∙ ap (λ (m : ℕ). depth_after m N.command) h.deep;
              leads = λ i j q. sym (walk-on B fault h.counts.atoms h.at N.command (take i N.rest) us e) ∙ from-here i j (omega arith);
              calls = ap (λ (x : Step). step K a x.state x.words) h.calls ∙ next-holds e;
            }

        -- it exceeds one
        module _ (f : ℕ) (l : 0 < f) (e : fault (newest vs) ≡ f) where
          pub next-stops : tables_after K a (suc k) ≡ stopped f h.at
          next-stops = sym (from-here 0 (suc k) (omega arith)) ∙ walk-stops B fault h.counts.atoms h.at N.command (take 0 N.rest) us f l e

          pub next-refuses : step K a held.state held.words ≡ still (Refused f h.at) held
          next-refuses = step-refuses K a us h.formed limited h.at ws z passed h.counts here h.deep N.command N.next N.read f l e

      -- command k or the end
      pub at_place : place_of K a k ≡ h.at
      at_place = on (dec_le (suc k) (length (commands K a)))
        where
          on : Dec (suc k ≤ length (commands K a)) → place_of K a k ≡ h.at
          on (yes l) = at-command l
          on (no l) =
              let done : length (commands K a) ≤ k = omega arith in
              place-of ∙ ap (λ (cs : List Placed). get_or (map (λ c. c.place) cs) 0 (length s)) (none_left done) ∙ sym (at-end done)
