-- What words make of a triple, by their size, and of a row one after the other; a rule judged at once, by its tests. Assumes nothing.
use mathlib.Core.Path.{◌≡◌, refl, sym, ap, ap₂, ◌∙◌}
use mathlib.Core.Bool.{Bool, true, false, cond, not, ◌&&◌, ◌||◌, or-true}
use mathlib.Core.List.{List, ◌∷◌, map}
use Prim.Native.Nat.{ℕ, zero, suc, ◌+◌, ◌-◌, ◌*◌, ◌%◌, ◌^◌, ◌≤◌, ◌<◌}
use native.Mathlib.Nat.{zero-mul, zero-mod}
use native.Mathlib.Omega.{arith}
use native.Mathlib.Numerals.{add-one}
use lib.Bits.{bit_or, and_le_r, or_add_and, or_zero_r}
use lib.Dec.{eqb, eqb-suc-zero}
use mir.Val.{bool_byte}
use borrow.Author.Tests.{eq-eqb, ne_eqb, lt-ltb, le-ltb}
use lib.ListN.{length, drop, get_or, drop_of_length-le}
use lib.Seq.{drop-cons}
use Rattle.lists.proofs.Members.{map_same}
use Rattle.labels.specs.Sets.{has, without}
use Rattle.labels.proofs.Sets.{has-le, has-or, has-pow, has-without, set-ext}
use Rattle.expression.specs.declared.Command.{Command}
use Rattle.expression.specs.declared.Command.TheVariants.{Relabel}
use Rattle.expression.specs.Commands.{Suits}
use Rattle.tables.specs.Triples.{mark_u, relabel_triple}
use Rattle.candidates.specs.Candidates.{map_triple}
use Rattle.batches.specs.declared.Judge.{Judge}
use Rattle.batches.specs.Batches.{command_of, step_triple, is_met, judges_from, settled, judge_of, judge_triple, word_triple, word_step, word_steps}
use Rattle.batches.proofs.Steps.{marked}

-- ---- a rule, by its tests

-- one number more, and a set without it
pub without-or : (u r : ℕ) → without u (bit_or r (2 ^ u)) ≡ without u r
without-or u r = set-ext (without u (bit_or r (2 ^ u))) (without u r) (λ m. has-without u m (bit_or r (2 ^ u)) ∙ ap (λ b. b && not (eqb m u)) (has-or m r (2 ^ u) ∙ ap (λ b. has m r || b) (has-pow m u)) ∙ step (has m r) (eqb m u) ∙ sym (has-without u m r))
  where
    step : (a b : Bool) → ((a || b) && not b) ≡ (a && not b)
    step true b = refl
    step false true = refl
    step false false = refl

pub with-has : (u r : ℕ) → has u (bit_or r (2 ^ u)) ≡ true
with-has u r = has-or u r (2 ^ u) ∙ ap (λ b. has u r || b) (has-pow u u ∙ eq-eqb u u refl) ∙ or-true (has u r)

-- taken out of the set that surely has it
pub taken_out : (u r : ℕ) → bit_or r (2 ^ u) - 2 ^ u ≡ without u r
unfolding without
taken_out u r = go (with-has u r) ∙ without-or u r
  where
    go : has u (bit_or r (2 ^ u)) ≡ true → bit_or r (2 ^ u) - 2 ^ u ≡ without u (bit_or r (2 ^ u))
    go e = rw e

pub mark-within : (u r : ℕ) → 2 ^ u ≤ bit_or r (2 ^ u)
mark-within u r = has-le u (bit_or r (2 ^ u)) (with-has u r)

-- put in, whether it was there or not
or-without : (u r : ℕ) → bit_or (without u r) (2 ^ u) ≡ bit_or r (2 ^ u)
or-without u r = set-ext (bit_or (without u r) (2 ^ u)) (bit_or r (2 ^ u)) (λ m. has-or m (without u r) (2 ^ u) ∙ ap₂ ◌||◌ (has-without u m r) (has-pow m u) ∙ step (has m r) (eqb m u) ∙ sym (has-or m r (2 ^ u) ∙ ap (λ b. has m r || b) (has-pow m u)))
  where
    step : (a b : Bool) → ((a && not b) || b) ≡ (a || b)
    step true true = refl
    step true false = refl
    step false true = refl
    step false false = refl

-- one test of two sets: a union has a number where one of them has
pub or-none : (a b : ℕ) → not (eqb (bit_or a b) 0) ≡ (not (eqb a 0) || not (eqb b 0))
or-none zero b = refl
or-none (suc a) b = rw (ne_eqb (bit_or (suc a) b) 0 (λ e. omega (arith, or_add_and (suc a) b, and_le_r (suc a) b, e)), eqb-suc-zero a)

-- the mark of a rule in a word of w digits, unless it is met
pub unmet-marked : (K w r g : ℕ) (b : Bool) → 3 * K ≤ w → g < K → bit_or r ((bool_byte (not b) * 2 ^ (2 * K + g)) % 2 ^ w) ≡ cond b r (bit_or r (mark_u K g))
unmet-marked K w r g true h l = ap (bit_or r) (ap (λ (x : ℕ). x % 2 ^ w) (zero-mul (2 ^ (2 * K + g))) ∙ zero-mod (2 ^ w)) ∙ or_zero_r r
unmet-marked K w r g false h l = marked K w r g h l

-- taken out, then put in unless the rule is met
pub mark-settled : (K g h q r : ℕ) (b : Bool) (x y z : ℕ) → x ≡ without (2 * K + g) r → y ≡ cond b x (bit_or x (mark_u K g)) → z ≡ map_triple K (Relabel g h) q y → z ≡ settled K g h b r
unfolding map_triple settled mark_u
mark-settled K g h q r b x y z e f k = k ∙ ap (relabel_triple K g h) (f ∙ ap (λ x. cond b x (bit_or x (2 ^ (2 * K + g)))) e ∙ go b)
  where
    go : (d : Bool) → cond d (without (2 * K + g) r) (bit_or (without (2 * K + g) r) (2 ^ (2 * K + g))) ≡ cond d (without (2 * K + g) r) (bit_or r (2 ^ (2 * K + g)))
    go true = refl
    go false = or-without (2 * K + g) r

module _ (K : ℕ) (j : Judge) (q r : ℕ) (b : Bool) (e : b ≡ is_met j q r) where
  pub label-settled : (z : ℕ) → j.leaves ≡ 0 → z ≡ settled K j.label j.after b r → z ≡ judge_triple K j q r
  unfolding judge_triple
  label-settled z l f = f ∙ ap (λ (d : Bool). settled K j.label j.after d r) e ∙ rw (eq-eqb j.leaves 0 l)

  pub label-left : (z : ℕ) → (j.leaves ≡ 0 → ⊥) → z ≡ cond b r (bit_or r (mark_u K j.after)) → z ≡ judge_triple K j q r
  unfolding judge_triple
  label-left z l f = f ∙ ap (λ (d : Bool). cond d r (bit_or r (mark_u K j.after))) e ∙ rw (ne_eqb j.leaves 0 l)

pub suits-relabel : (K i j : ℕ) → i < K → j < K → Suits K (Relabel i j)
unfolding Suits
suits-relabel K i j a b = (a, b)

-- ---- words

-- what a word makes of a triple, by its size
module _ (K w q r : ℕ) where
  pub by-command : w < judges_from K → word_triple K w q r ≡ step_triple K (command_of K w) q r
  unfolding word_triple
  by-command l = rw (lt-ltb w (judges_from K) l)

  pub by-judge : judges_from K ≤ w → word_triple K w q r ≡ judge_triple K (judge_of K w) q r
  unfolding word_triple
  by-judge l = rw (le-ltb w (judges_from K) l)

-- each triple as a word makes it, by what it stands for
module _ (K w q : ℕ) (l : List ℕ) where
  each-made : (f : ℕ → ℕ) → ((r : ℕ) → f r ≡ word_triple K w q r) → f q ∷ map f l ≡ word_triple K w q q ∷ map (word_triple K w q) l
  each-made f e = ap₂ {C = List ℕ} (λ y m. y ∷ m) (e q) (map_same f (word_triple K w q) e l)

  pub command-made : (c : Command) → c ≡ command_of K w → w < judges_from K → step_triple K c q q ∷ map (step_triple K c q) l ≡ word_step K w (q ∷ l)
  unfolding word_step
  command-made c e k = each-made (step_triple K c q) (λ r. ap (λ (d : Command). step_triple K d q r) e ∙ sym (by-command K w q r k))

  pub judge-made : (j : Judge) → j ≡ judge_of K w → judges_from K ≤ w → judge_triple K j q q ∷ map (judge_triple K j q) l ≡ word_step K w (q ∷ l)
  unfolding word_step
  judge-made j e k = each-made (judge_triple K j q) (λ r. ap (λ (d : Judge). judge_triple K d q r) e ∙ sym (by-judge K w q r k))

-- the next word of those left
pub next_word : (K : ℕ) (goal code : List ℕ) (k : ℕ) → k < length code → (x y : List ℕ) → word_steps K (drop k code) x ≡ goal → y ≡ word_step K (get_or code k 0) x
    → word_steps K (drop (k + 1) code) y ≡ goal
unfolding word_steps
next_word K goal code k l x y h e = rw (e, add-one k) (rw (drop-cons code k 0 l) at h)

-- none is left
pub no_words : (K : ℕ) (code : List ℕ) (k : ℕ) → length code ≤ k → (x goal : List ℕ) → word_steps K (drop k code) x ≡ goal → x ≡ goal
unfolding word_steps
no_words K code k l x goal h = rw (drop_of_length-le code {i = k} l) at h
