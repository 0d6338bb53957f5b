-- 15 and 16 never stand at a name (02, Item 1): neither a decision's refusal nor a report's has its offset. Over K labels. Assumes nothing.
use mathlib.Core.Path.{◌≡◌, refl, sym, ap, ◌∙◌, subst}
use mathlib.Core.Bool.{Bool, true, false, cond}
use mathlib.Core.List.{List, [], ◌∷◌, cons-ne-nil, head-eq_of_cons-eq, tail-eq_of_cons-eq}
use Prim.Native.Nat.{ℕ, zero, suc, ◌+◌, ◌<◌}
use native.Mathlib.Decide.{dec_le}
use native.Mathlib.Omega.{arith}
use lib.Dec.{ltb}
use lib.ListN.{length}
use Rattle.lists.specs.Lists.{All}
use Rattle.expression.specs.declared.Command.TheVariants.{Name}
use Rattle.expression.specs.declared.Counts.{Counts}
use Rattle.expression.specs.Commands.{Got, read_at}
use Rattle.expression.specs.Reading.{new_atoms, no_counts, counted, Placed, reading}
use Rattle.expression.specs.Checks.{Passed, Request, check}
use Rattle.expression.proofs.Accepted.{check-accepted}
use Rattle.expression.proofs.Remaining.{Remains, remains-start, remains-next, remains-end}
use Rattle.semantics.specs.Expressions.{Operations, act}
use Rattle.tables.specs.Algebras.{Algebra, tables}
use Rattle.tables.specs.Definitions.{pairs, triples}
use Rattle.decisions.specs.Decisions.{refused, assumed, commands_in, newest, Walked, stopped, walked, walk, answer, conclude, decide, grounded, plain, pairs_fault, plain_fault}
use Rattle.decisions.proofs.Carried.{decide-passed}
use Rattle.walks.specs.Walks.{before}
use Rattle.reporting.specs.Reporting.{starts_at, refused_at, newest_in, asked_table}
use Rattle.passing.proofs.Steps.{none-fault}
use Rattle.passing.proofs.Reports.{commands, asked-walk, plain-none}

-- ---- commands that are read at their places

module _ (K : ℕ) (s : List ℕ) where
  abbrev ReadThere : Placed → Type 0
  ReadThere c = (next : ℕ) × (read_at K s c.place ≡ Got c.command next)

  all_read : (z : Counts) (cs : List Placed) (at : ℕ) (n : Counts) → Remains K s at n cs z → All ReadThere cs
  all_read z [] at n r = tt
  all_read z (c ∷ cs) at n r = step (dec_le (suc at) (length s)) (all_read z cs)
    where
      step : Dec (at < length s) → ((i : ℕ) (m : Counts) → Remains K s i m cs z → All ReadThere cs) → All ReadThere (c ∷ cs)
      step (yes l) rest =
          let N = remains-next K s at n (c ∷ cs) z l r in (
            (N.next, subst (λ (d : Placed). read_at K s d.place ≡ Got d.command N.next) (sym (head-eq_of_cons-eq N.listed)) N.read),
            rest N.next (counted n N.command) (subst (λ (ds : List Placed). Remains K s N.next (counted n N.command) ds z) (sym (tail-eq_of_cons-eq N.listed)) N.after),
          )
      step (no l) rest = absurd (cons-ne-nil c cs (remains-end K s at n (c ∷ cs) z (omega arith) r).0)

  before-read : (stop : ℕ) (cs : List Placed) → All ReadThere cs → All ReadThere (before stop cs)
  unfolding before
  before-read stop [] h = tt
  before-read stop (c ∷ cs) h = step (ltb c.place stop) (before-read stop cs h.1)
    where
      step : (b : Bool) → All ReadThere (before stop cs) → All ReadThere (cond b (c ∷ before stop cs) [])
      step true k = (h.0, k)
      step false k = tt

  -- a walk from a table within the limits stops at no name
  walk-elsewhere : {X : Type 0} (B : Operations (List X)) (f : List X → ℕ) (p : ℕ) {m x next : ℕ} → read_at K s p ≡ Got (Name x) next
      → (n : ℕ) (cs : List Placed) (ts : List (List X)) → All ReadThere cs → f (newest ts) ≡ 0 → walk B f n cs ts ≡ stopped m p → ⊥
  unfolding walk act
  walk-elsewhere B f p read n [] ts h k e = let q : ◌≡◌ {A = ℕ} 0 1 = cc e in omega arith
  walk-elsewhere {X} B f p {m} {x} read n (c ∷ cs) ts h k e = step (f (newest us)) refl e (walk-elsewhere B f p read (n + new_atoms c.command) cs us h.1)
    where
      us : List (List X)
      us = act B n c.command ts

      W : Walked X
      W = walk B f (n + new_atoms c.command) cs us

      goes : ℕ → Walked X
      goes v = elim v as (λ y. Walked X) [ zero ↦ W | suc i ↦ stopped (suc i) c.place ]

      here : p ≡ c.place → us ≡ ts
      here q = let reads = h.0.1 in let same : c.command ≡ Name x = let r = ap (read_at K s) (sym q) ∙ read in cc (reads, r) in ap (λ d. act B n d ts) same

      step : (v : ℕ) → f (newest us) ≡ v → goes v ≡ stopped m p → (f (newest us) ≡ 0 → W ≡ stopped m p → ⊥) → ⊥
      step zero g e rest = rest g e
      step (suc i) g e rest = let q : p ≡ c.place = cc e in omega (arith, g, ap (λ vs. f (newest vs)) (here q), k)

-- ---- a request that passes its checks

module _ (K : ℕ) (a : Request) {z : Counts} (passed : check K a ≡ Passed z) where
  abbrev cs : List Placed
  cs = commands_in (reading K a.bytes)

  there : All (ReadThere K a.bytes) cs
  there =
      let j = (check-accepted K a z passed).joined in
      subst (All (ReadThere K a.bytes)) (sym (commands K a.bytes z j)) (all_read K a.bytes z j.placed 0 no_counts (remains-start K a.bytes z j))

  -- a name in it
  module _ (p : ℕ) {x next : ℕ} (read : read_at K a.bytes p ≡ Got (Name x) next) where
    module _ {X : Type 0} (A : Algebra X) (f : List X → ℕ) (none : f [] ≡ 0) (n : ℕ) where
      abbrev B : Operations (List X)
      B = tables A (assumed a)

      decided-elsewhere : (y : List X → Bool) → decide A f y K a ≡ refused n p → ⊥
      unfolding conclude answer
      decided-elsewhere y e = step (walk B f 0 cs []) refl (sym (decide-passed A f y K a passed) ∙ e)
        where
          said : (b : Bool) → answer b ≡ refused n p → ⊥
          said true e = let q : ◌≡◌ {A = ℕ} 0 1 = cc e in omega arith
          said false e = let q : ◌≡◌ {A = ℕ} 0 1 = cc e in omega arith

          step : (w : Walked X) → walk B f 0 cs [] ≡ w → conclude y w ≡ refused n p → ⊥
          step (stopped m at) h e = walk-elsewhere K a.bytes B f p read 0 cs [] there none (h ∙ ap (stopped m) (let q : at ≡ p = cc e in q))
          step (walked us) h e = said (y (newest us)) e

      reported-elsewhere : (at : ℕ) → starts_at K a.bytes at ≡ true → asked_table A f K a at ≡ refused_at n p → ⊥
      reported-elsewhere at starts e = step (walk B f 0 (before (at + 1) cs) []) refl (sym (asked-walk A f K a passed at starts) ∙ e)
        where
          step : (w : Walked X) → walk B f 0 (before (at + 1) cs) [] ≡ w → newest_in w ≡ refused_at n p → ⊥
          step (stopped m i) h e =
              walk-elsewhere K a.bytes B f p read 0 (before (at + 1) cs) [] (before-read K a.bytes (at + 1) cs there) none (h ∙ ap (stopped m) (let q : i ≡ p = cc e in q))
          step (walked us) h e = let q : ◌≡◌ {A = ℕ} 0 1 = cc e in omega arith

    -- a decision's refusal
    pub verdict-elsewhere : (n : ℕ) → grounded K a ≡ refused n p → ⊥
    unfolding grounded
    verdict-elsewhere n = decided-elsewhere (pairs K) _ (none-fault a.pair_limit a.subset_limit) n _

    pub plain-elsewhere : (n : ℕ) → plain K a ≡ refused n p → ⊥
    unfolding plain
    plain-elsewhere n = decided-elsewhere (triples K) _ (plain-none a.pair_limit) n _

    -- that of a report asked at any command
    pub report-elsewhere : (n at : ℕ) → starts_at K a.bytes at ≡ true → asked_table (pairs K) (pairs_fault a.pair_limit a.subset_limit) K a at ≡ refused_at n p → ⊥
    report-elsewhere = reported-elsewhere (pairs K) _ (none-fault a.pair_limit a.subset_limit)

    pub plain-report-elsewhere : (n at : ℕ) → starts_at K a.bytes at ≡ true → asked_table (triples K) (plain_fault a.pair_limit) K a at ≡ refused_at n p → ⊥
    plain-report-elsewhere = reported-elsewhere (triples K) _ (plain-none a.pair_limit)
