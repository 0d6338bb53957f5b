-- Interpretations that agree on some atoms, combined, or one inside the other; interpretations that obey assumptions. Assumes nothing.
use mathlib.Core.Path.{◌≡◌, refl, sym, ap, ◌∙◌, subst}
use mathlib.Core.Logic.{◌⊎◌, inl, inr, ⊎_elim}
use mathlib.Core.Bool.{Bool, true, false, cond, ◌||◌, true≢false}
use mathlib.Core.List.Memᴰ
use mathlib.Core.List.{List, [], ◌∷◌, ◌++◌, map, Memᴰ, append_assoc}
use Prim.Native.Nat.{ℕ}
use lib.Dec.{eqb}
use Rattle.lists.specs.Lists.{some, keep}
use Rattle.lists.proofs.Members.{listed, listed-is, not_listed, keep-of, keep-is}
use Rattle.expression.specs.declared.Role.{Role}
use Rattle.expression.specs.declared.Role.TheVariants.{Derived, External}
use Rattle.semantics.specs.Expressions.{Expr, atom, rule, union, relabel, connect}
use Rattle.semantics.specs.Programs.{numbers, if_external, externals}
use Rattle.semantics.specs.AnswerSets.{Interpretation, ProperSubset, Assumptions, Obeys, all_obeying, of_list}

-- ---- interpretations that agree, and two combined

abbrev pub Agree : List ℕ → Interpretation → Interpretation → Type 0
Agree xs p q = (c : ℕ) → Memᴰ c xs → p c ≡ q c

abbrev pub Apart : List ℕ → List ℕ → Type 0
Apart xs ys = (c : ℕ) → Memᴰ c xs → Memᴰ c ys → ⊥

-- no two atoms of a part have one number
unfoldable pub Distinct : Expr → Type 0
Distinct (atom c g) = Unit {0}
Distinct (rule g) = Unit {0}
Distinct (union a b) = Distinct a × Distinct b × Apart (numbers a) (numbers b)
Distinct (relabel i j e) = Distinct e
Distinct (connect k i j e) = Distinct e

-- p on the atoms xs, q elsewhere
pub combine : List ℕ → Interpretation → Interpretation → Interpretation
combine xs p q c = cond (some (eqb c) xs) (p c) (q c)

pub combine-left : (xs : List ℕ) (p q : Interpretation) → Agree xs (combine xs p q) p
unfolding combine
combine-left xs p q c m = ap (λ b. cond b (p c) (q c)) (listed xs m)

pub combine-right : (xs : List ℕ) (p q : Interpretation) {ys : List ℕ} → Apart xs ys → Agree ys (combine xs p q) q
unfolding combine
combine-right xs p q a c m = step (some (eqb c) xs) refl
  where
    step : (b : Bool) → some (eqb c) xs ≡ b → cond b (p c) (q c) ≡ q c
    step true e = absurd (a c (listed-is c xs e) m)
    step false e = refl

pub agree-sym : {xs : List ℕ} {p q : Interpretation} → Agree xs p q → Agree xs q p
agree-sym a c m = sym (a c m)

-- ---- assumptions

pub obeys-agree : (o : Assumptions) {xs : List ℕ} {p q : Interpretation} → Agree xs p q → Obeys o xs q → Obeys o xs p
obeys-agree o a h = record { has-trues = λ c m k. a c m ∙ h.has-trues c m k; lacks-falses = λ c m k. a c m ∙ h.lacks-falses c m k }

pub obeys-left : (o : Assumptions) {xs : List ℕ} (ys : List ℕ) {p : Interpretation} → Obeys o (xs ++ ys) p → Obeys o xs p
obeys-left o ys h = record { has-trues = λ c m. h.has-trues c (Memᴰ.append_left ys m); lacks-falses = λ c m. h.lacks-falses c (Memᴰ.append_left ys m) }

pub obeys-right : (o : Assumptions) (xs : List ℕ) {ys : List ℕ} {p : Interpretation} → Obeys o (xs ++ ys) p → Obeys o ys p
obeys-right o xs h = record { has-trues = λ c m. h.has-trues c (Memᴰ.append_right xs m); lacks-falses = λ c m. h.lacks-falses c (Memᴰ.append_right xs m) }

pub obeys-both : (o : Assumptions) (xs : List ℕ) {ys : List ℕ} {p : Interpretation} → Obeys o xs p → Obeys o ys p → Obeys o (xs ++ ys) p
obeys-both o xs h k = record {
  has-trues = λ c m. ⊎_elim (h.has-trues c) (k.has-trues c) (Memᴰ.append_cases xs m);
  lacks-falses = λ c m. ⊎_elim (h.lacks-falses c) (k.lacks-falses c) (Memᴰ.append_cases xs m);
}

pub obeys-none : (o : Assumptions) (p : Interpretation) → Obeys o [] p
obeys-none o p = record { has-trues = λ c m. absurd (Memᴰ.not-nil m); lacks-falses = λ c m. absurd (Memᴰ.not-nil m) }

pub obeys-one : (o : Assumptions) (c : ℕ) (b : Bool) → (o.trues c ≡ true → b ≡ true) → (o.falses c ≡ true → b ≡ false) → Obeys o (c ∷ []) (λ d. b)
obeys-one o c b h k = record {
  has-trues = λ d m q. h (ap o.trues (sym (Memᴰ.eq_of_singleton m)) ∙ q);
  lacks-falses = λ d m q. k (ap o.falses (sym (Memᴰ.eq_of_singleton m)) ∙ q);
}

-- the atoms that no assumption holds
unfoldable pub free : Assumptions → List ℕ → List ℕ
free o [] = []
free o (c ∷ cs) = cond (o.trues c || o.falses c) [] (c ∷ []) ++ free o cs

pub free-append : (o : Assumptions) (xs ys : List ℕ) → free o (xs ++ ys) ≡ free o xs ++ free o ys
unfolding free
free-append o [] ys = refl
free-append o (x ∷ xs) ys =
    ap (λ l. cond (o.trues x || o.falses x) [] (x ∷ []) ++ l) (free-append o xs ys)
    ∙ sym (append_assoc (cond (o.trues x || o.falses x) [] (x ∷ [])) (free o xs) (free o ys))

-- ---- all interpretations that obey

module _ (o : Assumptions) where
  -- the first atom is taken, or left out
  abbrev First : ℕ → List ℕ → List ℕ → Type 0
  First c cs l = ((m : List ℕ) × Memᴰ m (all_obeying o cs) × (l ≡ c ∷ m) × (o.falses c ≡ false)) ⊎ (Memᴰ l (all_obeying o cs) × (o.trues c ≡ false))

  first : (c : ℕ) (cs : List ℕ) {l : List ℕ} → Memᴰ l (all_obeying o (c ∷ cs)) → First c cs l
  unfolding all_obeying
  first c cs {l} m = ⊎_elim (λ n. inl (taken (o.falses c) refl n)) (λ n. inr (left (o.trues c) refl n)) (Memᴰ.append_cases (cond (o.falses c) [] (map (λ k. c ∷ k) (all_obeying o cs))) m)
    where
      taken : (b : Bool) → o.falses c ≡ b → Memᴰ l (cond b [] (map (λ k. c ∷ k) (all_obeying o cs)))
          → (k : List ℕ) × Memᴰ k (all_obeying o cs) × (l ≡ c ∷ k) × (o.falses c ≡ false)
      taken true e n = absurd (Memᴰ.not-nil n)
      taken false e n = let r = Memᴰ.of_map (λ k. c ∷ k) (all_obeying o cs) n in (r.0, r.1, sym r.2, e)

      left : (b : Bool) → o.trues c ≡ b → Memᴰ l (cond b [] (all_obeying o cs)) → Memᴰ l (all_obeying o cs) × (o.trues c ≡ false)
      left true e n = absurd (Memᴰ.not-nil n)
      left false e n = (n, e)

  -- its atoms are among xs, and none is assumed false
  pub obeying-in : (xs l : List ℕ) {c : ℕ} → Memᴰ l (all_obeying o xs) → Memᴰ c l → Memᴰ c xs × (o.falses c ≡ false)
  unfolding all_obeying
  obeying-in [] l {c} m k = absurd (Memᴰ.not-nil (subst (Memᴰ c) (Memᴰ.eq_of_singleton m) k))
  obeying-in (x ∷ xs) l {c} m k = step (λ l' n t. obeying-in xs l' n t) (first x xs m)
    where
      step : ((l' : List ℕ) → Memᴰ l' (all_obeying o xs) → Memᴰ c l' → Memᴰ c xs × (o.falses c ≡ false)) → First x xs l
          → Memᴰ c (x ∷ xs) × (o.falses c ≡ false)
      step f (inl r) =
          ⊎_elim (λ e. (Memᴰ.head e, ap o.falses e ∙ r.3)) (λ n. let z = f r.0 r.1 n in (Memᴰ.tail z.0, z.1)) (Memᴰ.cases_cons (subst (Memᴰ c) r.2 k))
      step f (inr r) = let z = f l r.0 k in (Memᴰ.tail z.0, z.1)

  -- those assumed true are among its atoms
  obeying-has : (xs l : List ℕ) → Memᴰ l (all_obeying o xs) → (c : ℕ) → Memᴰ c xs → o.trues c ≡ true → Memᴰ c l
  obeying-has [] l m c h e = absurd (Memᴰ.not-nil h)
  obeying-has (x ∷ xs) l m c h e = step (λ l' n t. obeying-has xs l' n c t e) (first x xs m) (Memᴰ.cases_cons h)
    where
      step : ((l' : List ℕ) → Memᴰ l' (all_obeying o xs) → Memᴰ c xs → Memᴰ c l') → First x xs l → (c ≡ x) ⊎ Memᴰ c xs → Memᴰ c l
      step f (inl r) (inl q) = subst (Memᴰ c) (sym r.2) (Memᴰ.head q)
      step f (inl r) (inr t) = subst (Memᴰ c) (sym r.2) (Memᴰ.tail (f r.0 r.1 t))
      step f (inr r) (inl q) = absurd (true≢false (sym e ∙ ap o.trues q ∙ r.1))
      step f (inr r) (inr t) = f l r.0 t

  -- each obeys
  pub obeying-obeys : (xs l : List ℕ) → Memᴰ l (all_obeying o xs) → Obeys o xs (of_list l)
  unfolding of_list
  obeying-obeys xs l m = record {
    has-trues = λ c k h. listed l (obeying-has xs l m c k h);
    lacks-falses = λ c k h. not_listed c l (λ n. true≢false (sym h ∙ (obeying-in xs l m n).1));
  }

  -- and each that obeys agrees with one of them
  pub obeying-of : (xs : List ℕ) {p : Interpretation} → Obeys o xs p → Memᴰ (keep p xs) (all_obeying o xs)
  unfolding all_obeying keep
  obeying-of [] h = Memᴰ.head refl
  obeying-of (x ∷ xs) {p} h = step (p x) refl (obeying-of xs (record { has-trues = λ c m. h.has-trues c (Memᴰ.tail m); lacks-falses = λ c m. h.lacks-falses c (Memᴰ.tail m) }))
    where
      out : (b : Bool) → (b ≡ true → ⊥) → {k : List ℕ} (ks : List (List ℕ)) → Memᴰ k ks → Memᴰ k (cond b [] ks)
      out true e ks m = absurd (e refl)
      out false e ks m = m

      step : (b : Bool) → p x ≡ b → Memᴰ (keep p xs) (all_obeying o xs)
          → Memᴰ (cond b (x ∷ keep p xs) (keep p xs)) (cond (o.falses x) [] (map (λ l. x ∷ l) (all_obeying o xs)) ++ cond (o.trues x) [] (all_obeying o xs))
      step true e m =
          Memᴰ.append_left (cond (o.trues x) [] (all_obeying o xs))
          (out (o.falses x) (λ q. true≢false (sym e ∙ h.lacks-falses x (Memᴰ.head refl) q)) (map (λ l. x ∷ l) (all_obeying o xs)) (Memᴰ.map (λ l. x ∷ l) m))
      step false e m =
          Memᴰ.append_right (cond (o.falses x) [] (map (λ l. x ∷ l) (all_obeying o xs)))
          (out (o.trues x) (λ q. true≢false (sym (h.has-trues x (Memᴰ.head refl) q) ∙ e)) (all_obeying o xs) m)

pub keep-agrees : (p : Interpretation) (xs : List ℕ) → Agree xs (of_list (keep p xs)) p
unfolding of_list
keep-agrees p xs c m = step (p c) refl
  where
    step : (b : Bool) → p c ≡ b → some (eqb c) (keep p xs) ≡ b
    step true e = listed (keep p xs) (keep-of p xs m e)
    step false e = not_listed c (keep p xs) (λ k. true≢false (sym (keep-is p xs k).1 ∙ e))

-- ---- subsets

abbrev pub Within : List ℕ → Interpretation → Interpretation → Type 0
Within xs q p = (c : ℕ) → Memᴰ c xs → q c ≡ true → p c ≡ true

module _ {q p : Interpretation} where
  -- a subset is the whole or a proper one
  pub whole-or-smaller : (xs : List ℕ) → Within xs q p → Agree xs q p ⊎ ProperSubset xs q p
  whole-or-smaller [] w = inl (λ c m. absurd (Memᴰ.not-nil m))
  whole-or-smaller (x ∷ xs) w = step (q x) (p x) refl refl (whole-or-smaller xs (λ c m. w c (Memᴰ.tail m)))
    where
      rest : q x ≡ p x → Agree xs q p ⊎ ProperSubset xs q p → Agree (x ∷ xs) q p ⊎ ProperSubset (x ∷ xs) q p
      rest e (inl a) = inl (λ c m. ⊎_elim (λ k. ap q k ∙ e ∙ ap p (sym k)) (λ n. a c n) (Memᴰ.cases_cons m))
      rest e (inr s) = inr (record { within = w; lost = s.lost; lost-in = Memᴰ.tail s.lost-in; lost-had = s.lost-had; lost-gone = s.lost-gone })

      step : (b d : Bool) → q x ≡ b → p x ≡ d → Agree xs q p ⊎ ProperSubset xs q p → Agree (x ∷ xs) q p ⊎ ProperSubset (x ∷ xs) q p
      step true d eq ep r = rest (eq ∙ sym (w x (Memᴰ.head refl) eq)) r
      step false false eq ep r = rest (eq ∙ sym ep) r
      step false true eq ep r = inr (record { within = w; lost = x; lost-in = Memᴰ.head refl; lost-had = ep; lost-gone = eq })

  pub agree-within : {xs : List ℕ} → Agree xs q p → Within xs q p
  agree-within a c m h = sym (a c m) ∙ h

  pub within_both : (xs : List ℕ) {ys : List ℕ} → Within xs q p → Within ys q p → Within (xs ++ ys) q p
  within_both xs v w c m = ⊎_elim (v c) (w c) (Memᴰ.append_cases xs m)

  pub smaller-left : (xs : List ℕ) {ys : List ℕ} → ProperSubset xs q p → Within ys q p → ProperSubset (xs ++ ys) q p
  smaller-left xs {ys} s w = record {
    within = within_both xs s.within w;
    lost = s.lost;
    lost-in = Memᴰ.append_left ys s.lost-in;
    lost-had = s.lost-had;
    lost-gone = s.lost-gone;
  }

  pub smaller-right : (xs : List ℕ) {ys : List ℕ} → Within xs q p → ProperSubset ys q p → ProperSubset (xs ++ ys) q p
  smaller-right xs w s = record {
    within = within_both xs w s.within;
    lost = s.lost;
    lost-in = Memᴰ.append_right xs s.lost-in;
    lost-had = s.lost-had;
    lost-gone = s.lost-gone;
  }

  -- a proper subset of the whole is proper on one side at minimal
  pub not-whole : (xs : List ℕ) → Agree xs q p → ProperSubset xs q p → ⊥
  not-whole xs a s = true≢false (sym s.lost-had ∙ sym (a s.lost s.lost-in) ∙ s.lost-gone)

pub agree-both : {p q : Interpretation} (xs : List ℕ) {ys : List ℕ} → Agree xs p q → Agree ys p q → Agree (xs ++ ys) p q
agree-both xs a b c m = ⊎_elim (a c) (b c) (Memᴰ.append_cases xs m)

pub smaller-agree : {xs : List ℕ} {q q' p : Interpretation} → Agree xs q' q → ProperSubset xs q p → ProperSubset xs q' p
smaller-agree a s = record {
  within = λ c m h. s.within c m (sym (a c m) ∙ h);
  lost = s.lost;
  lost-in = s.lost-in;
  lost-had = s.lost-had;
  lost-gone = a s.lost s.lost-in ∙ s.lost-gone;
}

-- external atoms are atoms
pub externals-in : (e : Expr) {c : ℕ} → Memᴰ c (externals e) → Memᴰ c (numbers e)
unfolding externals numbers
externals-in (atom x a) {c} m = step a.role m
  where
    step : (r : Role) → Memᴰ c (if_external r x) → Memᴰ c (x ∷ [])
    step Derived n = absurd (Memᴰ.not-nil n)
    step External n = n
externals-in (rule g) m = m
externals-in (union e f) m =
    ⊎_elim (λ n. Memᴰ.append_left (numbers f) (externals-in e n)) (λ n. Memᴰ.append_right (numbers e) (externals-in f n)) (Memᴰ.append_cases (externals e) m)
externals-in (relabel i j e) m = externals-in e m
externals-in (connect k i j e) m = externals-in e m
