-- Models and answer sets of an expression's rules (01, "Trade and terms": plans that meet every rule, grounded plans), and assumptions (01: pins). Assumes nothing.
use Rattle.std.specs.Prelude.{◌≡◌, Bool, true, false, cond, not, ◌||◌, ℕ, ◌^◌, eqb}
use mathlib.Core.List.{List, [], ◌∷◌, ◌++◌, map, Memᴰ}
use Rattle.std.specs.Int.Bits.{bit_or}
use Rattle.lists.specs.Lists.{some, every}
use Rattle.labels.specs.Sets.{has}
use Rattle.semantics.specs.Expressions.{Expr}
use Rattle.semantics.specs.Programs.{Rule, rules, numbers, externals}

-- 01: a plan. It says of each atom, by its number, whether it is in.
abbrev pub Interpretation : Type 0
Interpretation = ℕ → Bool

-- the interpretation that a mask gives: bit c is atom c
abbrev pub of_mask : ℕ → Interpretation
of_mask m c = has c m

-- 01: meets a rule: some needed atom is missing, or some barring atom is in, or some head atom is in
unfoldable pub satisfies : Interpretation → Rule → Bool
satisfies p r = some (λ c. not (p c)) r.positive || some p r.negative || some p r.head

unfoldable pub strip : Rule → Rule
strip r = record { label = r.label; head = r.head; positive = r.positive; negative = [] }

-- 01: the reduced rules: those with no barring atom in the plan, their barring sets emptied
unfoldable pub reduct : Interpretation → List Rule → List Rule
reduct p [] = []
reduct p (r ∷ rs) = cond (some p r.negative) (reduct p rs) (strip r ∷ reduct p rs)

-- 01: among the atoms xs, q is a proper subset of p
pub record ProperSubset (xs : List ℕ) (q p : Interpretation) : Type 0 where
  pub within : (c : ℕ) → Memᴰ c xs → q c ≡ true → p c ≡ true
  pub lost : ℕ
  pub lost-in : Memᴰ lost xs
  pub lost-had : p lost ≡ true
  pub lost-gone : q lost ≡ false

-- 02, Item 9: strictly smaller: a proper subset that agrees with p on every external atom; these are ys
pub record Smaller (xs ys : List ℕ) (q p : Interpretation) : Type 0 where
  pub subset : ProperSubset xs q p
  pub agrees : (c : ℕ) → Memᴰ c ys → q c ≡ p c

pub record Model (e : Expr) (p : Interpretation) : Type 0 where
  pub model : every (satisfies p) (rules e) ≡ true

-- 01: a grounded plan: it meets every rule, and no strictly smaller plan meets every reduced rule
pub record AnswerSet (e : Expr) (p : Interpretation) : Type 0 where
  pub model : every (satisfies p) (rules e) ≡ true
  pub minimal : (q : Interpretation) → Smaller (numbers e) (externals e) q p → every (satisfies q) (reduct p (rules e)) ≡ false

-- which atoms are assumed true and which false (01: pinned in, pinned out)
pub record Assumptions : Type 0 where
  pub trues : Interpretation
  pub falses : Interpretation

pub record Obeys (o : Assumptions) (xs : List ℕ) (p : Interpretation) : Type 0 where
  pub has-trues : (c : ℕ) → Memᴰ c xs → o.trues c ≡ true → p c ≡ true
  pub lacks-falses : (c : ℕ) → Memᴰ c xs → o.falses c ≡ true → p c ≡ false

-- assumptions as two masks
unfoldable pub by_masks : ℕ → ℕ → Assumptions
by_masks i o = record { trues = of_mask i; falses = of_mask o }

-- every interpretation of the atoms xs that obeys the assumptions, each as the list of its atoms
unfoldable pub all_obeying : Assumptions → List ℕ → List (List ℕ)
all_obeying o [] = [] ∷ []
all_obeying o (c ∷ cs) = cond (o.falses c) [] (map (λ l. c ∷ l) (all_obeying o cs)) ++ cond (o.trues c) [] (all_obeying o cs)

unfoldable pub of_list : List ℕ → Interpretation
of_list l c = some (eqb c) l

-- the mask of an interpretation's atoms among xs
unfoldable pub mask_of : Interpretation → List ℕ → ℕ
mask_of p [] = 0
mask_of p (c ∷ cs) = cond (p c) (bit_or (2 ^ c) (mask_of p cs)) (mask_of p cs)
