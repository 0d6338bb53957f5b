-- The counts of a stack: one of them, and those after a command. Assumes nothing.
use mathlib.Core.Path.{◌≡◌, refl, sym, ap, ◌∙◌}
use mathlib.Core.List.{List, [], ◌∷◌, ◌++◌, append_assoc}
use Prim.Native.Nat.{ℕ, zero, suc, ◌-◌, ◌≤◌, ◌<◌}
use native.Mathlib.Nat.{le_of_suc-le-suc, not-suc-le-zero}
use native.Mathlib.Decide.{dec_le}
use native.Mathlib.Omega.{arith}
use lib.ListN.{length, drop, get_or, set, length-append, get_or-eq_default}
use lib.Seq.{set_comm, set_at, get_or_at}
use borrow.Author.Tests.{lt-ltb, le-ltb}
use Rattle.expression.specs.declared.Effect.{Effect}
use Rattle.expression.specs.declared.Effect.TheVariants.{Push, Unite, Change, Pass}
use Rattle.semantics.specs.Expressions.{unite_newest, change_newest}
use Rattle.semantics.proofs.Effects.{Does}
use Rattle.decisions.specs.Decisions.{newest}
use Rattle.rows.specs.Parts.{zeros}
use Rattle.workspace.specs.Workspace.{stack_counts, counts_of}
use Rattle.stacks.specs.Stacks.{count_below, Applies, tallied}

module _ {X : Type 0} where
  pub counts-long : (ts : List (List X)) → length (stack_counts ts) ≡ length ts
  unfolding stack_counts
  counts-long [] = refl
  counts-long (t ∷ ts) = length-append (stack_counts ts) (length t ∷ []) ∙ omega (arith, counts-long ts)

  -- there is a count for each table
  pub counts-within : (n : ℕ) (ts : List (List X)) → length ts ≤ length (counts_of n ts)
  unfolding counts_of
  counts-within n ts = let e = length-append (stack_counts ts) (zeros (n - length ts)) in omega (arith, counts-long ts)

  -- ---- one count

  at_place : (ts : List (List X)) (rest : List ℕ) (j : ℕ) → j < length ts → get_or (stack_counts ts ++ rest) (length ts - suc j) 0 ≡ length (get_or ts j [])
  unfolding stack_counts
  at_place [] rest j l = absurd (not-suc-le-zero l)
  at_place (t ∷ ts) rest zero l =
      ap (λ (u : List ℕ). get_or u (suc (length ts) - 1) 0) (append_assoc (stack_counts ts) (length t ∷ []) rest)
      ∙ get_or_at (stack_counts ts) (length t) rest 0 (suc (length ts) - 1) (counts-long ts ∙ omega arith)
  at_place (t ∷ ts) rest (suc j) l =
      ap (λ (u : List ℕ). get_or u (suc (length ts) - suc (suc j)) 0) (append_assoc (stack_counts ts) (length t ∷ []) rest)
      ∙ ap (λ (i : ℕ). get_or (stack_counts ts ++ (length t ∷ rest)) i 0) (let z : suc (length ts) - suc (suc j) ≡ length ts - suc j = omega arith in z)
      ∙ at_place ts (length t ∷ rest) j (le_of_suc-le-suc l)

  -- the count of the table that j newer ones stand on
  pub count_at : (n : ℕ) (ts : List (List X)) (j : ℕ) → j < length ts → get_or (counts_of n ts) (length ts - suc j) 0 ≡ length (get_or ts j [])
  unfolding counts_of
  count_at n ts j l = at_place ts (zeros (n - length ts)) j l

  -- the same by how many tables there are and how many are counted off
  pub count-below : (n t j : ℕ) (ts : List (List X)) → length ts ≡ t → count_below t (suc j) (counts_of n ts) ≡ length (get_or ts j [])
  count-below n t j ts e = step (dec_le (suc j) t)
    where
      step : Dec (suc j ≤ t) → count_below t (suc j) (counts_of n ts) ≡ length (get_or ts j [])
      step (yes l) = rw (le-ltb t (suc j) l) (ap (λ (m : ℕ). get_or (counts_of n ts) (m - suc j) 0) (sym e) ∙ count_at n ts j (omega arith))
      step (no l) = rw (lt-ltb t (suc j) (omega arith)) (sym (ap length (get_or-eq_default ts [] {n = j} (omega arith))))

  -- of the newest table, and of the one below it
  pub count-newest : (n t : ℕ) (ts : List (List X)) → length ts ≡ t → count_below t 1 (counts_of n ts) ≡ length (newest ts)
  count-newest n t [] e = count-below n t 0 [] e
  count-newest n t (x ∷ ts) e = count-below n t 0 (x ∷ ts) e

  pub count-second : (n t : ℕ) (ts : List (List X)) → length ts ≡ t → count_below t 2 (counts_of n ts) ≡ length (newest (drop 1 ts))
  count-second n t [] e = count-below n t 1 [] e
  count-second n t (x ∷ []) e = count-below n t 1 (x ∷ []) e
  count-second n t (x ∷ y ∷ ts) e = count-below n t 1 (x ∷ y ∷ ts) e

  -- ---- the counts after a command

  -- the counts of a table and of those below it
  counts-cons : (n : ℕ) (t : List X) (ts : List (List X)) → counts_of n (t ∷ ts) ≡ stack_counts ts ++ length t ∷ zeros (n - suc (length ts))
  unfolding counts_of stack_counts
  counts-cons n t ts = append_assoc (stack_counts ts) (length t ∷ []) (zeros (n - suc (length ts)))

  -- a count behind theirs is free
  counts-free : (n : ℕ) (ts : List (List X)) → length ts < n → counts_of n ts ≡ stack_counts ts ++ 0 ∷ zeros (n - suc (length ts))
  unfolding counts_of
  counts-free n ts l = ap (λ (u : List ℕ). stack_counts ts ++ u) (ap zeros (let z : n - length ts ≡ suc (n - suc (length ts)) = omega arith in z))

  pushed : (n t : ℕ) (x : List X) (ts : List (List X)) → length ts ≡ t → t < n → set (counts_of n ts) t (length x) ≡ counts_of n (x ∷ ts)
  pushed n t x ts e l =
      ap (λ (u : List ℕ). set u t (length x)) (counts-free n ts (omega arith))
      ∙ set_at (stack_counts ts) 0 (zeros (n - suc (length ts))) (length x) t (counts-long ts ∙ e) ∙ sym (counts-cons n x ts)

  changed : (n t : ℕ) (x y : List X) (ts : List (List X)) → suc (length ts) ≡ t → set (counts_of n (x ∷ ts)) (t - 1) (length y) ≡ counts_of n (y ∷ ts)
  changed n t x y ts e =
      ap (λ (u : List ℕ). set u (t - 1) (length y)) (counts-cons n x ts)
      ∙ set_at (stack_counts ts) (length x) (zeros (n - suc (length ts))) (length y) (t - 1) (counts-long ts ∙ omega arith) ∙ sym (counts-cons n y ts)

  -- the newest table taken away
  popped : (n t : ℕ) (x : List X) (ts : List (List X)) → suc (length ts) ≡ t → t ≤ n → set (counts_of n (x ∷ ts)) (t - 1) 0 ≡ counts_of n ts
  popped n t x ts e l =
      ap (λ (u : List ℕ). set u (t - 1) 0) (counts-cons n x ts)
      ∙ set_at (stack_counts ts) (length x) (zeros (n - suc (length ts))) 0 (t - 1) (counts-long ts ∙ omega arith) ∙ sym (counts-free n ts (omega arith))

  united : (n t : ℕ) (a b y : List X) (ts : List (List X)) → suc (suc (length ts)) ≡ t → t ≤ n
      → set (set (counts_of n (b ∷ a ∷ ts)) (t - 2) (length y)) (t - 1) 0 ≡ counts_of n (y ∷ ts)
  united n t a b y ts e l =
      set_comm (counts_of n (b ∷ a ∷ ts)) (t - 2) (t - 1) (length y) 0 (λ q. omega (arith, q))
      ∙ ap (λ (u : List ℕ). set u (t - 2) (length y)) (popped n t b (a ∷ ts) e l)
      ∙ ap (λ (i : ℕ). set (counts_of n (a ∷ ts)) i (length y)) (let z : t - 2 ≡ t - 1 - 1 = omega arith in z) ∙ changed n (t - 1) a y ts (omega arith)

  module _ (n t : ℕ) where
    tally-united : (g : List X → List X → List X) (ts : List (List X)) → length ts ≡ t → 2 ≤ t → t ≤ n
        → set (set (counts_of n ts) (t - 2) (length (newest (unite_newest g ts)))) (t - 1) 0 ≡ counts_of n (unite_newest g ts)
    unfolding unite_newest
    tally-united g [] e h l = absurd (omega arith)
    tally-united g (y ∷ []) e h l = absurd (omega arith)
    tally-united g (y ∷ x ∷ ts) e h l = united n t x y (g x y) ts e l

    tally-changed : (g : List X → List X) (ts : List (List X)) → length ts ≡ t → 1 ≤ t → set (counts_of n ts) (t - 1) (length (newest (change_newest g ts))) ≡ counts_of n (change_newest g ts)
    unfolding change_newest
    tally-changed g [] e h = absurd (omega arith)
    tally-changed g (x ∷ ts) e h = changed n t x (g x) ts e

    -- the counts follow what an effect does to the tables
    pub tally-does : (e : Effect) (f : List (List X) → List (List X)) → Does e f → (ts : List (List X)) → length ts ≡ t → Applies e t n
        → tallied e t (length (newest (f ts))) (counts_of n ts) ≡ counts_of n (f ts)
    unfolding tallied
    tally-does (Push l) f d ts e h = rw (d.1 ts) (pushed n t d.0 ts e (omega (arith, h.2)))
    tally-does Unite f d ts e h = rw (d.1 ts) (tally-united d.0 ts e h.0 h.1)
    tally-does Change f d ts e h = rw (d.1 ts) (tally-changed d.0 ts e h.0)
    tally-does Pass f d ts e h = rw (d ts)
