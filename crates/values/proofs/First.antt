-- The least value over the entries that pass a test is that of a passing interpretation, and no passing one has less; by the weights 2 ^ (62 - c) the
-- value tells the interpretation, and the least is the first. Assumes nothing.
use mathlib.Core.Path.{◌≡◌, refl, sym, ap, ap₂, ◌∙◌}
use mathlib.Core.Logic.{◌⊎◌, inl, inr}
use mathlib.Core.Bool.{Bool, true, false, cond, true≢false}
use mathlib.Core.List.Memᴰ
use mathlib.Core.List.{List, [], ◌∷◌, Memᴰ}
use Prim.Native.Nat.{ℕ, zero, suc, ◌+◌, ◌-◌, ◌*◌, ◌^◌, ◌≤◌, ◌<◌, min}
use native.Mathlib.Nat.{min_comm, add-zero, zero-add, add_assoc, pow-suc}
use native.Mathlib.Decide.{dec_le, ℕ_discrete}
use native.Mathlib.Omega.{arith}
use lib.Pow.{pow_pos}
use Rattle.lists.specs.Lists.{run}
use Rattle.lists.proofs.Comparisons.{Lawful}
use Rattle.lists.proofs.Runs.{run-bounds}
use Rattle.labels.specs.Sets.{has}
use Rattle.labels.proofs.Sets.{has-top, has-below}
use Rattle.expression.specs.Limits.{atom_limit}
use Rattle.semantics.specs.Expressions.{Expr}
use Rattle.semantics.specs.Programs.{numbers}
use Rattle.semantics.specs.AnswerSets.{Interpretation, Assumptions, of_mask, all_obeying, of_list}
use Rattle.semantics.proofs.Interpretations.{Agree, Distinct}
use Rattle.semantics.proofs.Masks.{mask-agrees}
use Rattle.tables.specs.Algebras.{Algebra, entry, table}
use Rattle.values.specs.Values.{Valued, valued, value_of, Total, none, worth, add, multiply, sum_by, sum_over}
use Rattle.values.specs.First.{least_by, first_weight, firsts, passing, shown_by, NotBefore}
use Rattle.values.proofs.Semirings.{Semiring}
use Rattle.values.proofs.Sums.{table-sum}

pub least-semiring : (w : ℕ → ℕ) → Semiring (least_by w)
unfolding least_by
least-semiring w = record {
  either-assoc = λ a b c. omega arith;
  either-comm = min_comm;
  together-assoc = add_assoc;
  either-together = λ a b c. omega arith;
  together-either = λ a b c. omega arith;
  unit-together = zero-add;
  together-unit = add-zero;
}

-- ---- the least over entries and over interpretations that pass a test

passing-part : (w : ℕ → ℕ) (v : ℕ) (b : Bool) → multiply (least_by w) (worth v) (cond b (worth 0) none) ≡ cond b (worth v) none
unfolding multiply least_by
passing-part w v true = ap worth (add-zero v)
passing-part w v false = refl

pub sum-passing : {X : Type 0} (w : ℕ → ℕ) (f : X → Bool) (x : Valued X ℕ) (t : List (Valued X ℕ))
    → sum_by (least_by w) (passing f) (x ∷ t) ≡ add (least_by w) (cond (f x.item) (worth x.value) none) (sum_by (least_by w) (passing f) t)
unfolding sum_by passing
sum-passing w f x t = ap (λ z. add (least_by w) z (sum_by (least_by w) (passing f) t)) (passing-part w x.value (f x.item))

module _ {X : Type 0} (A : Algebra X) (w : ℕ → ℕ) (f : X → Bool) (e : Expr) where
  abbrev value : List ℕ → ℕ
  value l = value_of (least_by w) (numbers e) (of_list l)

  abbrev passes : List ℕ → Bool
  passes l = f (entry A e (of_list l))

  abbrev pub least : List (List ℕ) → Total ℕ
  least ls = sum_over (least_by w) A (passing f) e ls

  -- one interpretation's part
  one : List ℕ → Total ℕ
  one l = cond (passes l) (worth (value l)) none

  least-cons : (l : List ℕ) (ls : List (List ℕ)) → least (l ∷ ls) ≡ add (least_by w) (one l) (least ls)
  unfolding sum_over passing one
  least-cons l ls = ap (λ t. add (least_by w) t (least ls)) (passing-part w (value l) (passes l))

  pub record Least (ls : List (List ℕ)) (v : ℕ) : Type 0 where
    pub by : List ℕ
    pub listed : Memᴰ by ls
    pub passed : passes by ≡ true
    pub is : value by ≡ v

  later : (l : List ℕ) {ls : List (List ℕ)} {v : ℕ} → Least ls v → Least (l ∷ ls) v
  later l r = record { by = r.by; listed = Memᴰ.tail r.listed; passed = r.passed; is = r.is }

  pub least-is : (ls : List (List ℕ)) (v : ℕ) → least ls ≡ worth v → Least ls v
  unfolding one add least_by
  least-is [] v h = unfold sum_over in (let z : ◌≡◌ {A = ℕ} 0 1 = cc in absurd (omega arith))
  least-is (l ∷ ls) v h = step (passes l) refl (least ls) refl (λ u k. least-is ls u k) (sym (least-cons l ls) ∙ h)
    where
      step : (b : Bool) → passes l ≡ b → (t : Total ℕ) → least ls ≡ t → ((u : ℕ) → least ls ≡ worth u → Least ls u) → add (least_by w) (cond b (worth (value l)) none) t ≡ worth v → Least (l ∷ ls) v
      step true p none q k h = record { by = l; listed = Memᴰ.head refl; passed = p; is = cc }
      step true p (worth u) q k h =
          let m : min (value l) u ≡ v = cc in
          choose (dec_le (value l) u) m
        where
          choose : Dec (value l ≤ u) → min (value l) u ≡ v → Least (l ∷ ls) v
          choose (yes g) m = record { by = l; listed = Memᴰ.head refl; passed = p; is = omega arith }
          choose (no g) m = later l (k v (q ∙ ap worth (omega arith)))
      step false p t q k h = later l (k v (q ∙ h))

  pub least-least : (ls : List (List ℕ)) {l : List ℕ} → Memᴰ l ls → passes l ≡ true → (v : ℕ) × (least ls ≡ worth v) × (v ≤ value l)
  unfolding one add least_by
  least-least [] m h = absurd (Memᴰ.not-nil m)
  least-least (k ∷ ls) {l} m h = step (Memᴰ.cases_cons m) (λ n. least-least ls n h) (passes k) refl (least ls) refl
    where
      Got : Total ℕ → Type 0
      Got t = (v : ℕ) × (t ≡ worth v) × (v ≤ value l)

      told : {t : Total ℕ} → least (k ∷ ls) ≡ t → Got t → Got (least (k ∷ ls))
      told q (v, r, g) = (v, q ∙ r, g)

      step : (l ≡ k) ⊎ Memᴰ l ls → (Memᴰ l ls → Got (least ls)) → (b : Bool) → passes k ≡ b → (t : Total ℕ) → least ls ≡ t → Got (least (k ∷ ls))
      step c r b p t q = told (least-cons k ls ∙ ap₂ (λ x y. add (least_by w) (cond x (worth (value k)) none) y) p q) (pick c b p t q)
        where
          pick : (l ≡ k) ⊎ Memᴰ l ls → (b : Bool) → passes k ≡ b → (t : Total ℕ) → least ls ≡ t → Got (add (least_by w) (cond b (worth (value k)) none) t)
          pick (inl x) true p none q = (value k, refl, omega (arith, ap value x))
          pick (inl x) true p (worth u) q = (min (value k) u, refl, omega (arith, ap value x))
          pick (inl x) false p t q = absurd (true≢false (sym h ∙ ap passes x ∙ p))
          pick (inr n) true p none q = let g = r n in let z : ◌≡◌ {A = ℕ} 0 1 = cc g.1 in absurd (omega arith)
          pick (inr n) true p (worth u) q = let g = r n in let z : u ≡ g.0 = cc g.1 in (min (value k) u, refl, omega (arith, g.2))
          pick (inr n) false p t q = let g = r n in (g.0, sym q ∙ g.1, g.2)

  -- the least value among the passing entries of the table with values
  pub table-least : Lawful A.order A.merge → (o : Assumptions) → Distinct e
      → sum_by (least_by w) (passing f) (table (valued A (least_by w)) o e) ≡ least (all_obeying o (numbers e))
  table-least O o d = table-sum A O (least_by w) (least-semiring w) o e d (passing f)

-- ---- the value tells the interpretation

abbrev top : ℕ → ℕ
top lo = atom_limit - lo

run_value : (lo n : ℕ) (p : Interpretation) → value_of firsts (run lo (suc n)) p ≡ cond (p lo) (2 ^ (atom_limit - (lo + 1))) 0 + value_of firsts (run (suc lo) n) p
unfolding run value_of firsts least_by first_weight
run_value lo n p = refl

pub value-lt : (lo n : ℕ) (p : Interpretation) → lo + n ≤ atom_limit → value_of firsts (run lo n) p < 2 ^ (atom_limit - lo)
value-lt lo zero p h = unfold run value_of firsts least_by in (pow_pos (atom_limit - lo))
value-lt lo (suc n) p h =
    rw (run_value lo n p) (step (p lo) (value-lt (suc lo) n p (omega arith)) (ap (λ k. 2 ^ k) (let z : atom_limit - lo ≡ suc (atom_limit - (lo + 1)) = omega arith in z) ∙ pow-suc 2 (atom_limit - (lo + 1)))
    (ap (λ k. 2 ^ k) (let z : atom_limit - suc lo ≡ atom_limit - (lo + 1) = omega arith in z)))
  where
    step : (b : Bool) → value_of firsts (run (suc lo) n) p < 2 ^ (atom_limit - suc lo) → 2 ^ (atom_limit - lo) ≡ 2 ^ (atom_limit - (lo + 1)) * 2 → 2 ^ (atom_limit - suc lo) ≡ 2 ^ (atom_limit - (lo + 1))
        → cond b (2 ^ (atom_limit - (lo + 1))) 0 + value_of firsts (run (suc lo) n) p < 2 ^ (atom_limit - lo)
    step true k q r = omega arith
    step false k q r = omega arith

rest_lt : (lo n : ℕ) (p : Interpretation) → lo + suc n ≤ atom_limit → value_of firsts (run (suc lo) n) p < 2 ^ (atom_limit - (lo + 1))
rest_lt lo n p h = rw (let z : lo + 1 ≡ suc lo = omega arith in z) (value-lt (suc lo) n p (omega arith))

pub value-has : (lo n : ℕ) (p : Interpretation) (c : ℕ) → lo + n ≤ atom_limit → lo ≤ c → c < lo + n → has (atom_limit - (c + 1)) (value_of firsts (run lo n) p) ≡ p c
value-has lo zero p c h l g = absurd (omega arith)
value-has lo (suc n) p c h l g = ap (has (atom_limit - (c + 1))) (run_value lo n p) ∙ step (ℕ_discrete c lo) (λ k. value-has (suc lo) n p c (omega arith) k (omega arith))
  where
    step : Dec (c ≡ lo) → (suc lo ≤ c → has (atom_limit - (c + 1)) (value_of firsts (run (suc lo) n) p) ≡ p c)
        → has (atom_limit - (c + 1)) (cond (p lo) (2 ^ (atom_limit - (lo + 1))) 0 + value_of firsts (run (suc lo) n) p) ≡ p c
    step (yes e) k = rw e (has-top (atom_limit - (lo + 1)) (value_of firsts (run (suc lo) n) p) (rest_lt lo n p h) (p lo))
    step (no e) k =
        has-below (atom_limit - (lo + 1)) (value_of firsts (run (suc lo) n) p) (rest_lt lo n p h) (p lo) (atom_limit - (c + 1)) (omega arith) ∙ k (omega arith)

-- the mask made of an interpretation's value is that interpretation
pub shown-agrees : (n : ℕ) (p : Interpretation) → n ≤ atom_limit → Agree (run 0 n) (of_mask (shown_by n (value_of firsts (run 0 n) p))) p
unfolding shown_by
shown-agrees n p h c m =
    let b = run-bounds 0 n m in
    mask-agrees (λ d. has (atom_limit - (d + 1)) (value_of firsts (run 0 n) p)) (run 0 n) c m ∙ value-has 0 n p c (omega arith) b.0 b.1

-- ---- the least is the first

pub value-first : (lo n : ℕ) (p q : Interpretation) → lo + n ≤ atom_limit → value_of firsts (run lo n) p ≤ value_of firsts (run lo n) q → NotBefore (run lo n) q p
value-first lo zero p q h l = unfold run NotBefore in tt
value-first lo (suc n) p q h l =
    step (p lo) (q lo) refl refl (rw (run_value lo n p, run_value lo n q) at l) (rest_lt lo n p h) (rest_lt lo n q h) (λ k. value-first (suc lo) n p q (omega arith) k)
  where
    P : ℕ
    P = value_of firsts (run (suc lo) n) p

    Q : ℕ
    Q = value_of firsts (run (suc lo) n) q

    T : ℕ
    T = 2 ^ (atom_limit - (lo + 1))

    step : (a b : Bool) → p lo ≡ a → q lo ≡ b → cond a T 0 + P ≤ cond b T 0 + Q → P < T → Q < T → (P ≤ Q → NotBefore (run (suc lo) n) q p) → NotBefore (run lo (suc n)) q p
    step true true e f l x y k = unfold run NotBefore in (λ z. absurd (true≢false (sym f ∙ z)), λ z. k (omega arith))
    step true false e f l x y k = absurd (omega arith)
    step false true e f l x y k = unfold run NotBefore in (λ z. e, λ z. absurd (true≢false (sym f ∙ z ∙ e)))
    step false false e f l x y k = unfold run NotBefore in (λ z. e, λ z. k (omega arith))
