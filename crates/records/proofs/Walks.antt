-- THE THEOREM OF WALKS (01, "One command a call"): a walk by calls goes as the decision's own walk does. Assumes nothing.
use mathlib.Core.Path.{◌≡◌, refl, sym, ap, ◌∙◌, subst}
use mathlib.Core.Logic.{◌⊎◌, inl, inr}
use mathlib.Core.Bool.{Bool, true, false, cond}
use mathlib.Core.List.{List, [], ◌∷◌}
use Prim.Native.Nat.{ℕ, zero, suc, ◌-◌, ◌≤◌, ◌<◌}
use native.Mathlib.Decide.{dec_le}
use native.Mathlib.Omega.{arith}
use lib.ListN.{length, take}
use lib.Seq.{take_all}
use Rattle.lists.specs.Lists.{All}
use Rattle.expression.specs.declared.Counts.{Counts}
use Rattle.expression.specs.declared.Outcome.TheVariants as outcome
use Rattle.expression.specs.Refusals.{bad_record}
use Rattle.expression.specs.Commands.{Suits}
use Rattle.expression.specs.Reading.{Placed}
use Rattle.expression.specs.Checks.{Passed, Request, check}
use Rattle.semantics.proofs.Readings.{commands_of}
use Rattle.tables.specs.Definitions.{Pair, pairs, grounded_accepts}
use Rattle.tables.proofs.Exactness.{exact-all}
use Rattle.decisions.specs.Decisions.{refused, assumed, newest, Walked, stopped, walked, walk, answer, conclude, decide, grounded}
use Rattle.decisions.specs.Outcomes.{without_mask}
use Rattle.decisions.proofs.Walks.{tables-after, walk-all, commands-suit}
use Rattle.records.specs.declared.Record.{Record}
use Rattle.records.specs.Steps.{Step, stays, moves, step, start}
use Rattle.records.specs.declared.Answer.TheVariants.{Ended, Refused}
use Rattle.records.specs.Walks.{last_answer, still, commands, place_of, tables_after, stepped, verdict_on, walking, Walks}
use Rattle.records.proofs.Walking.{stops-more, calls-after, calls-stay, B, fault, Reached, reached-start, so_far, last-call, last-verdict, early-verdict, at_place, vs, reached-next, next-stops, next-refuses}

-- a walk that goes on and one that stops are two
two-walks : {X : Type 0} {us : List (List X)} {f at : ℕ} (w : Walked X) → w ≡ walked us → w ≡ stopped f at → ⊥
two-walks w e g = let q : ◌≡◌ {A = ℕ} 0 1 = cc in omega arith

module _ (K : ℕ) (a : Request) (z : Counts) (passed : check K a ≡ Passed z) (r : Record) (ws : List ℕ) where
  abbrev At : ℕ → List (List Pair) → Type 0
  At = Reached K a z passed r ws

  abbrev L : ℕ
  L = length (commands K a)

  -- a command that exceeds a limit, after those that are done
  record Halted : Type 0 where
    done : ℕ
    tables : List (List Pair)
    number : ℕ
    place : ℕ
    reached : At done tables
    stops : tables_after K a (suc done) ≡ stopped number place

  -- k commands are done, or one of them exceeds a limit
  abbrev Gone : ℕ → Type 0
  Gone k = ((us : List (List Pair)) × At k us) ⊎ ((h : Halted) × (h.done < k))

  goes : (k : ℕ) → k ≤ L → Gone k
  goes zero l = inl ([], reached-start K a z passed r ws)
  goes (suc k) l = on (goes k (omega arith))
    where
      next : (us : List (List Pair)) (h : At k us) (f : ℕ) → fault K a (newest (vs K a z passed r ws h l)) ≡ f → Gone (suc k)
      next us h zero e = inl (vs K a z passed r ws h l, reached-next K a z passed r ws h l e)
      next us h (suc f) e =
          let x = next-stops K a z passed r ws h l (suc f) (omega arith) e in
          inr (record { done = k; tables = us; number = suc f; place = h.at; reached = h; stops = x }, omega arith)

      on : Gone k → Gone (suc k)
      on (inl (us, h)) = next us h (fault K a (newest (vs K a z passed r ws h l))) refl
      on (inr (h, m)) = inr (h, omega arith)

  -- a stop among the first k commands is where the walk over them stops
  stopped-at : {k f at : ℕ} (i : ℕ) → i ≤ k → tables_after K a i ≡ stopped f at → tables_after K a k ≡ stopped f at
  stopped-at {k} {f} {at} i l e = stops-more (B K a) (fault K a) f at i k 0 (commands K a) [] l e

  -- the tables that the first k commands leave stand there
  reached-at : (k : ℕ) (us : List (List Pair)) → k ≤ L → tables_after K a k ≡ walked us → At k us
  reached-at k us l e = on (goes k l)
    where
      on : Gone k → At k us
      on (inl (vs, h)) = let x = so_far K a z passed r ws h in let q : vs ≡ us = cc in subst (At k) q h
      on (inr (h, m)) = absurd (two-walks (tables_after K a k) e (stopped-at (suc h.done) m h.stops))

  -- ---- the decision

  -- more commands than there are
  tables-all : (i j : ℕ) → L ≤ i → L ≤ j → tables_after K a i ≡ tables_after K a j
  tables-all i j l m = ap (λ (cs : List Placed). walk (B K a) (fault K a) 0 cs []) (take_all i (commands K a) l ∙ sym (take_all j (commands K a) m))

  grounded-is : grounded K a ≡ conclude (grounded_accepts K) (tables_after K a L)
  unfolding grounded decide
  grounded-is =
      rw (passed, decide) (ap (λ (cs : List Placed). conclude (grounded_accepts K) (walk (B K a) (fault K a) 0 cs [])) (sym (take_all L (commands K a) (omega arith))))

  grounded-stops : {f at : ℕ} → tables_after K a L ≡ stopped f at → grounded K a ≡ refused f at
  unfolding conclude
  grounded-stops e = grounded-is ∙ ap (conclude (grounded_accepts K)) e

  grounded-walks : (us : List (List Pair)) → tables_after K a L ≡ walked us → grounded K a ≡ answer (grounded_accepts K (newest us))
  unfolding conclude
  grounded-walks us e = grounded-is ∙ ap (conclude (grounded_accepts K)) e

  -- ---- the walk by calls

  holding : (k : ℕ) (us : List (List Pair)) → k ≤ L → tables_after K a k ≡ walked us → walking K a r ws k ≡ moves K a (place_of K a k) us ws
  holding k us l e = let h = reached-at k us l e in h.calls ∙ ap (λ (p : ℕ). moves K a p us ws) (sym (at_place K a z passed r ws h))

  abbrev Refusing : ℕ → ℕ → ℕ → Type 0
  Refusing k f at = (at ≡ place_of K a k) × (grounded K a ≡ refused f at) × ((n : ℕ) → stepped K a (suc n) (walking K a r ws k) ≡ still (Refused f at) (walking K a r ws k))

  refusing : (k : ℕ) (us : List (List Pair)) (f at : ℕ) → tables_after K a k ≡ walked us → tables_after K a (suc k) ≡ stopped f at → Refusing k f at
  refusing k us f at e g = left (dec_le (suc k) L)
    where
      by-fault : (l : k < L) (h : At k us) (m : ℕ) → fault K a (newest (vs K a z passed r ws h l)) ≡ m → Refusing k f at
      by-fault l h zero q = absurd (two-walks (tables_after K a (suc k)) (so_far K a z passed r ws (reached-next K a z passed r ws h l q)) g)
      by-fault l h (suc m) q =
          let x = next-stops K a z passed r ws h l (suc m) (omega arith) q in
          let number : suc m ≡ f = cc in
          let place : h.at ≡ at = cc in
          let still-here : step K a (walking K a r ws k).state (walking K a r ws k).words ≡ still (Refused f at) (walking K a r ws k) =
          rw (h.calls, ← number, ← place) (next-refuses K a z passed r ws h l (suc m) (omega arith) q) in
          (sym place ∙ sym (at_place K a z passed r ws h), grounded-stops (stopped-at (suc k) l g), calls-stay K a (walking K a r ws k) (Refused f at) still-here)

      left : Dec (suc k ≤ L) → Refusing k f at
      left (yes l) = let h = reached-at k us (omega arith) e in by-fault l h (fault K a (newest (vs K a z passed r ws h l))) refl
      left (no l) = absurd (two-walks (tables_after K a (suc k)) (tables-all (suc k) k (omega arith) (omega arith) ∙ e) g)

  module _ (us : List (List Pair)) (e : tables_after K a L ≡ walked us) where
    abbrev last : At L us
    last = reached-at L us (omega arith) e

    ending : (n : ℕ) → stepped K a (suc n) (walking K a r ws L) ≡ still Ended (walking K a r ws L)
    ending = calls-stay K a (walking K a r ws L) Ended (rw last.calls (last-call K a z passed r ws last (omega arith)))

    deciding : verdict_on K a (walking K a r ws L) ≡ without_mask (grounded K a)
    unfolding answer
    deciding =
        rw last.calls (last-verdict K a z passed r ws last (omega arith))
        ∙ told (grounded_accepts K (newest us)) ∙ ap without_mask (sym (grounded-walks us e))
      where
        told : (b : Bool) → cond b (outcome.Yes 0) outcome.No ≡ without_mask (answer b)
        told true = refl
        told false = refl

    -- yes and no end alike
    last-ended : last_answer (grounded K a) ≡ Ended
    unfolding answer
    last-ended = ap last_answer (grounded-walks us e) ∙ told (grounded_accepts K (newest us))
      where
        told : (b : Bool) → last_answer (answer b) ≡ Ended
        told true = refl
        told false = refl

  before-end : (k : ℕ) (us : List (List Pair)) → k < L → tables_after K a k ≡ walked us → verdict_on K a (walking K a r ws k) ≡ outcome.Refused bad_record (place_of K a k)
  before-end k us l e =
      let h = reached-at k us (omega arith) e in
      rw h.calls (early-verdict K a z passed r ws h l)
      ∙ ap (outcome.Refused bad_record) (sym (at_place K a z passed r ws h))

  answering : (n : ℕ) → L < n → (walking K a r ws n).answer ≡ last_answer (grounded K a)
  unfolding stays
  answering n l = on (goes L (omega arith))
    where
      since : (k : ℕ) → k < n → walking K a r ws n ≡ stepped K a (suc (n - suc k)) (walking K a r ws k)
      since k m = calls-after K a n (suc (n - suc k)) k (start K a r ws) (omega arith)

      on : Gone L → (walking K a r ws n).answer ≡ last_answer (grounded K a)
      on (inl (us, h)) =
          let e = so_far K a z passed r ws h in
          ap (λ (x : Step). x.answer) (since L l ∙ ending us e (n - suc L)) ∙ sym (last-ended us e)
      on (inr (h, m)) =
          let e = so_far K a z passed r ws h.reached in
          let x = refusing h.done h.tables h.number h.place e h.stops in
          ap (λ (y : Step). y.answer) (since h.done (omega arith) ∙ x.2 (n - suc h.done)) ∙ ap last_answer (sym x.1)

suits-taken : (K k : ℕ) (cs : List Placed) → All (Suits K) (commands_of cs) → All (Suits K) (commands_of (take k cs))
suits-taken K zero cs h = tt
suits-taken K (suc k) [] h = tt
suits-taken K (suc k) (c ∷ cs) h = (h.0, suits-taken K k cs h.1)

-- for every request that passes 1 to 13, whatever record and words the walk starts with
pub walks : (K : ℕ) (a : Request) (z : Counts) → check K a ≡ Passed z → (r : Record) (ws : List ℕ) → Walks K a r ws
walks K a z passed r ws = record {
  demand2 = λ k us e. walk-all (B K a) (fault K a) 0 (take k (commands K a)) [] us e ∙ tables-after (pairs K) (assumed a) (take k (commands K a));
  exact = λ k. exact-all K (assumed a) (commands_of (take k (commands K a))) (suits-taken K k (commands K a) (commands-suit K a passed));
  holds = holding K a z passed r ws;
  refuses = refusing K a z passed r ws;
  ends = ending K a z passed r ws;
  decides = deciding K a z passed r ws;
  early = before-end K a z passed r ws;
  answers = answering K a z passed r ws;
}
