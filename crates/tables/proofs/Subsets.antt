-- The pair of an interpretation: its triple, and the triples, in its reduct, of the strictly smaller interpretations. How triples are united, relabelled and connected is
-- not used. Assumes nothing.
use mathlib.Core.Path.{◌≡◌, refl, sym, ap, ap₂, ◌∙◌}
use mathlib.Core.Logic.{◌⊎◌, inl, inr, ⊎_elim}
use mathlib.Core.Bool.{Bool, true, false, cond, false≢true}
use mathlib.Core.List.Memᴰ
use mathlib.Core.List.{List, [], ◌∷◌, ◌++◌, map, Memᴰ}
use Prim.Native.Nat.{ℕ, suc, ◌*◌, ◌^◌, ◌≤◌}
use native.Mathlib.Nat.{le_trans, le_of_eq, mul-le-mul, suc-mul, mul-suc}
use native.Mathlib.Omega.{arith}
use lib.Bits.{bit_or}
use lib.Pow.{pow-add}
use lib.ListN.{length, length-append, length-map}
use Rattle.lists.specs.Lists.{products}
use Rattle.lists.specs.Sorted.{Rising, compare_numbers, second, set_of}
use Rattle.lists.proofs.Members.{products-of, products-is, length-products}
use Rattle.lists.proofs.Comparisons.{numbers-lawful}
use Rattle.lists.proofs.Canon.{canon-of, canon-is, length-canon, length-canon-map}
use Rattle.expression.specs.declared.Role.{Role}
use Rattle.expression.specs.declared.Role.TheVariants.{Derived, External}
use Rattle.expression.specs.declared.NewAtom.{NewAtom}
use Rattle.semantics.specs.Expressions.{Expr, atom, rule, union, relabel, connect, fold}
use Rattle.semantics.specs.Programs.{numbers, externals}
use Rattle.semantics.specs.AnswerSets.{Interpretation, ProperSubset, Smaller}
use Rattle.semantics.proofs.Interpretations.{Agree, Distinct, combine, combine-left, combine-right, Within, whole-or-smaller, agree-within, smaller-left, smaller-right, smaller-agree, not-whole, agree-both, externals-in}
use Rattle.tables.specs.Algebras.{entries, entry}
use Rattle.tables.specs.Triples.{mark_t, mark_f, mark_u, relabel_triple, connect_triple}
use Rattle.tables.specs.Definitions.{Pair, own_triple, subsets, unite_pairs, map_pair, left_out, pairs}

set_of-is : {z : ℕ} (xs : List ℕ) → Memᴰ z (set_of xs) → Memᴰ z xs
unfolding set_of
set_of-is xs m = canon-is numbers-lawful xs m

set_of-of : {z : ℕ} (xs : List ℕ) → Memᴰ z xs → Memᴰ z (set_of xs)
unfolding set_of
set_of-of xs m = canon-of numbers-lawful xs m

length-set_of-map : (f : ℕ → ℕ) (xs : List ℕ) → length (set_of (map f xs)) ≤ length xs
unfolding set_of
length-set_of-map f xs = length-canon-map compare_numbers second f xs

length-united : (q r : ℕ) (xs ys : List ℕ) → suc (length (set_of (products bit_or xs ys ++ map (bit_or q) ys ++ map (λ s. bit_or s r) xs))) ≤ suc (length xs) * suc (length ys)
unfolding set_of
length-united q r xs ys =
    let l = length-canon compare_numbers second (products bit_or xs ys ++ map (bit_or q) ys ++ map (λ s. bit_or s r) xs) in
    omega (
      arith,
      length-append (products bit_or xs ys ++ map (bit_or q) ys) (map (λ s. bit_or s r) xs),
      length-append (products bit_or xs ys) (map (bit_or q) ys),
      length-products bit_or xs ys,
      length-map ys (bit_or q),
      length-map xs (λ s. bit_or s r),
      suc-mul (length xs) (suc (length ys)),
      mul-suc (length xs) (length ys),
    )

-- ---- the subsets of an atom that is in

pub left-out-rising : (r : Role) (s : ℕ) → Rising compare_numbers (left_out r s)
unfolding Rising
left-out-rising Derived s = (tt, tt)
left-out-rising External s = tt

few-left-out : (r : Role) (s : ℕ) → length (left_out r s) ≤ 1
few-left-out Derived s = omega arith
few-left-out External s = omega arith

-- an atom's label, and a role
abbrev with_role : NewAtom → Role → NewAtom
with_role a o = record { label = a.label; role = o }

module _ (K : ℕ) where
  -- the triple of q in the reduct of p
  unfoldable pub triple_of : Expr → Interpretation → Interpretation → ℕ
  triple_of (atom c a) p q = cond (q c) (mark_t K a.label) (mark_f K a.label)
  triple_of (rule g) p q = mark_u K g
  triple_of (union a b) p q = bit_or (triple_of a p q) (triple_of b p q)
  triple_of (relabel i j e) p q = relabel_triple K i j (triple_of e p q)
  triple_of (connect k i j e) p q = connect_triple K k i j (triple_of e p p) (triple_of e p q)

  pub triple-agree : (e : Expr) (p : Interpretation) {q q' : Interpretation} → Agree (numbers e) q q' → triple_of e p q ≡ triple_of e p q'
  unfolding triple_of numbers
  triple-agree (atom c g) p a = ap (λ b. cond b (mark_t K g.label) (mark_f K g.label)) (a c (Memᴰ.head refl))
  triple-agree (rule g) p a = refl
  triple-agree (union e f) p a =
      ap₂ bit_or (triple-agree e p (λ c m. a c (Memᴰ.append_left (numbers f) m))) (triple-agree f p (λ c m. a c (Memᴰ.append_right (numbers e) m)))
  triple-agree (relabel i j e) p a = ap (relabel_triple K i j) (triple-agree e p a)
  triple-agree (connect k i j e) p a = ap (connect_triple K k i j (triple_of e p p)) (triple-agree e p a)

  abbrev pub pair : Expr → Interpretation → Pair
  pair e p = entry (pairs K) e p

  pub pair-own : (e : Expr) (p : Interpretation) → own_triple (pair e p) ≡ triple_of e p p
  unfolding entry pairs triple_of unite_pairs map_pair entries fold
  pair-own (atom c g) p = step (p c)
    where
      step : (b : Bool) → own_triple (cond b ((pairs K).present c g) ((pairs K).absent c g)) ≡ cond b (mark_t K g.label) (mark_f K g.label)
      step true = refl
      step false = refl
  pair-own (rule g) p = refl
  pair-own (union e f) p = ap₂ bit_or (pair-own e p) (pair-own f p)
  pair-own (relabel i j e) p = ap (relabel_triple K i j) (pair-own e p)
  pair-own (connect k i j e) p = ap (λ t. connect_triple K k i j t t) (pair-own e p)

  -- each subset of the pair is a smaller one's triple
  pub record Shown (e : Expr) (p : Interpretation) (r : ℕ) : Type 0 where
    pub by : Interpretation
    pub smaller : Smaller (numbers e) (externals e) by p
    pub is : triple_of e p by ≡ r

  pub subsets-is : (e : Expr) → Distinct e → (p : Interpretation) {r : ℕ} → Memᴰ r (subsets (pair e p)) → Shown e p r
  unfolding entry pairs triple_of unite_pairs map_pair numbers externals Distinct entries fold
  subsets-is (atom c a) d p {r} m = step a.role (p c) refl m
    where
      step : (o : Role) (b : Bool) → p c ≡ b → Memᴰ r (subsets (cond b ((pairs K).present c (with_role a o)) ((pairs K).absent c a)))
          → Shown (atom c (with_role a o)) p r
      step Derived true h n = record {
        by = λ x. false;
        smaller = record {
          subset = record { within = λ x l k. absurd (false≢true k); lost = c; lost-in = Memᴰ.head refl; lost-had = h; lost-gone = refl };
          agrees = λ x l. absurd (Memᴰ.not-nil l);
        };
        is = sym (Memᴰ.eq_of_singleton n);
      }
      step External true h n = absurd (Memᴰ.not-nil n)
      step o false h n = absurd (Memᴰ.not-nil n)
  subsets-is (rule g) d p m = absurd (Memᴰ.not-nil m)
  subsets-is (union e f) d p {r} m =
      step (λ x n. subsets-is e d.0 p n) (λ x n. subsets-is f d.1 p n)
      (Memᴰ.append_cases (products bit_or Γ Δ ++ map (bit_or s) Δ) (set_of-is _ m))
    where
      Γ : List ℕ
      Γ = subsets (pair e p)

      Δ : List ℕ
      Δ = subsets (pair f p)

      s : ℕ
      s = own_triple (pair e p)

      t : ℕ
      t = own_triple (pair f p)

      -- an interpretation for each operand makes one for both
      together : (q q' : Interpretation) → ((x : Interpretation) → Agree (numbers e) x q → Agree (numbers f) x q' → ProperSubset (numbers e ++ numbers f) x p)
          → Agree (externals e) q p → Agree (externals f) q' p → bit_or (triple_of e p q) (triple_of f p q') ≡ r → Shown (union e f) p r
      together q q' h le lf k =
          let al : Agree (numbers e) (combine (numbers e) q q') q = combine-left (numbers e) q q' in
          let ar : Agree (numbers f) (combine (numbers e) q q') q' = combine-right (numbers e) q q' d.2 in
          record {
            by = combine (numbers e) q q';
            smaller = record {
              subset = h (combine (numbers e) q q') al ar;
              agrees = agree-both (externals e) (λ c m. al c (externals-in e m) ∙ le c m) (λ c m. ar c (externals-in f m) ∙ lf c m);
            };
            is = ap₂ bit_or (triple-agree e p al) (triple-agree f p ar) ∙ k;
          }

      step : ((x : ℕ) → Memᴰ x Γ → Shown e p x) → ((x : ℕ) → Memᴰ x Δ → Shown f p x)
          → Memᴰ r (products bit_or Γ Δ ++ map (bit_or s) Δ) ⊎ Memᴰ r (map (λ x. bit_or x t) Γ) → Shown (union e f) p r
      step F G (inl n) = ⊎_elim
          (λ n'. let z = products-is bit_or Γ Δ n' in
          let a = F z.0 z.2 in let b = G z.1 z.3 in
          together a.by b.by (λ x al ar. smaller-left (numbers e) (smaller-agree al a.smaller.subset) (smaller-agree ar b.smaller.subset).within) a.smaller.agrees b.smaller.agrees
          (ap₂ bit_or a.is b.is ∙ z.4))
          (λ n'. let z = Memᴰ.of_map (bit_or s) Δ n' in
          let b = G z.0 z.1 in
          together p b.by (λ x al ar. smaller-right (numbers e) (agree-within al) (smaller-agree ar b.smaller.subset)) (λ c m. refl) b.smaller.agrees
          (ap₂ bit_or (sym (pair-own e p)) b.is ∙ z.2))
          (Memᴰ.append_cases (products bit_or Γ Δ) n)
      step F G (inr n) =
          let z = Memᴰ.of_map (λ x. bit_or x t) Γ n in
          let a = F z.0 z.1 in
          together a.by p (λ x al ar. smaller-left (numbers e) (smaller-agree al a.smaller.subset) (agree-within ar)) a.smaller.agrees (λ c m. refl)
          (ap₂ bit_or a.is (sym (pair-own f p)) ∙ z.2)
  subsets-is (relabel i j e) d p m =
      let z = Memᴰ.of_map (relabel_triple K i j) (subsets (pair e p)) (set_of-is _ m) in
      let a = subsets-is e d p z.1 in
      record { by = a.by; smaller = a.smaller; is = ap (relabel_triple K i j) a.is ∙ z.2 }
  subsets-is (connect k i j e) d p m =
      let z = Memᴰ.of_map (connect_triple K k i j (own_triple (pair e p))) (subsets (pair e p)) (set_of-is _ m) in
      let a = subsets-is e d p z.1 in
      record { by = a.by; smaller = a.smaller; is = ap₂ (connect_triple K k i j) (sym (pair-own e p)) a.is ∙ z.2 }

  -- and each smaller one's triple is among them
  pub subsets-of : (e : Expr) {p q : Interpretation} → Smaller (numbers e) (externals e) q p → Memᴰ (triple_of e p q) (subsets (pair e p))
  unfolding entry pairs triple_of unite_pairs map_pair numbers externals entries fold
  subsets-of (atom c a) {p} {q} s = step a.role s
    where
      step : (o : Role) → Smaller (c ∷ []) (externals (atom c (with_role a o))) q p
          → Memᴰ (cond (q c) (mark_t K a.label) (mark_f K a.label)) (subsets (cond (p c) ((pairs K).present c (with_role a o)) ((pairs K).absent c a)))
      step Derived s =
          let h = ap p (sym (Memᴰ.eq_of_singleton s.subset.lost-in)) ∙ s.subset.lost-had in
          let k = ap q (sym (Memᴰ.eq_of_singleton s.subset.lost-in)) ∙ s.subset.lost-gone in
          rw (h, k) (Memᴰ.head refl)
      step External s = absurd (not-whole (c ∷ []) s.agrees s.subset)
  subsets-of (rule g) s = absurd (Memᴰ.not-nil s.subset.lost-in)
  subsets-of (union e f) {p} {q} s =
      set_of-of _ (step (whole-or-smaller (numbers e) wl) (whole-or-smaller (numbers f) wr)
      (λ h. subsets-of e (record { subset = h; agrees = λ c m. s.agrees c (Memᴰ.append_left (externals f) m) }))
      (λ h. subsets-of f (record { subset = h; agrees = λ c m. s.agrees c (Memᴰ.append_right (externals e) m) })))
    where
      wl : Within (numbers e) q p
      wl c m = s.subset.within c (Memᴰ.append_left (numbers f) m)

      wr : Within (numbers f) q p
      wr c m = s.subset.within c (Memᴰ.append_right (numbers e) m)

      Γ : List ℕ
      Γ = subsets (pair e p)

      Δ : List ℕ
      Δ = subsets (pair f p)

      u : ℕ
      u = own_triple (pair e p)

      v : ℕ
      v = own_triple (pair f p)

      step : Agree (numbers e) q p ⊎ ProperSubset (numbers e) q p → Agree (numbers f) q p ⊎ ProperSubset (numbers f) q p
          → (ProperSubset (numbers e) q p → Memᴰ (triple_of e p q) Γ) → (ProperSubset (numbers f) q p → Memᴰ (triple_of f p q) Δ)
          → Memᴰ (bit_or (triple_of e p q) (triple_of f p q)) (products bit_or Γ Δ ++ map (bit_or u) Δ ++ map (λ x. bit_or x v) Γ)
      step (inl a) (inl b) F G = absurd (not-whole (numbers e ++ numbers f) (agree-both (numbers e) a b) s.subset)
      step (inl a) (inr b) F G =
          Memᴰ.append_left _ (Memᴰ.append_right (products bit_or Γ Δ)
          (Memᴰ.cast (ap (λ t. bit_or t (triple_of f p q)) (triple-agree e p a ∙ sym (pair-own e p))) (Memᴰ.map (bit_or u) (G b))))
      step (inr a) (inl b) F G =
          Memᴰ.append_right (products bit_or Γ Δ ++ map (bit_or u) Δ)
          (Memᴰ.cast (ap (bit_or (triple_of e p q)) (triple-agree f p b ∙ sym (pair-own f p))) (Memᴰ.map (λ x. bit_or x v) (F a)))
      step (inr a) (inr b) F G = Memᴰ.append_left _ (Memᴰ.append_left _ (products-of bit_or Γ Δ (F a) (G b)))
  subsets-of (relabel i j e) {p} s = set_of-of (map (relabel_triple K i j) (subsets (pair e p))) (Memᴰ.map (relabel_triple K i j) (subsets-of e s))
  subsets-of (connect k i j e) {p} {q} s =
      set_of-of (map (connect_triple K k i j (own_triple (pair e p))) (subsets (pair e p)))
      (Memᴰ.cast (ap (λ t. connect_triple K k i j t (triple_of e p q)) (sym (pair-own e p))) (Memᴰ.map (connect_triple K k i j (own_triple (pair e p))) (subsets-of e s)))

  -- one less than 2 to the power of the atoms, at most
  pub subsets-small : (e : Expr) (p : Interpretation) → suc (length (subsets (pair e p))) ≤ 2 ^ length (numbers e)
  unfolding entry pairs unite_pairs map_pair numbers entries fold
  subsets-small (atom c g) p = step (p c)
    where
      step : (b : Bool) → suc (length (subsets (cond b ((pairs K).present c g) ((pairs K).absent c g)))) ≤ 2 ^ 1
      step true = omega (arith, few-left-out g.role (mark_f K g.label))
      step false = omega arith
  subsets-small (rule g) p = omega arith
  subsets-small (union e f) p =
      le_trans (length-united (own_triple (pair e p)) (own_triple (pair f p)) (subsets (pair e p)) (subsets (pair f p)))
      (le_trans (mul-le-mul (subsets-small e p) (subsets-small f p))
      (le_of_eq (sym (pow-add 2 (length (numbers e)) (length (numbers f))) ∙ ap (λ n. 2 ^ n) (sym (length-append (numbers e) (numbers f))))))
  subsets-small (relabel i j e) p = let h = subsets-small e p in omega (arith, length-set_of-map (relabel_triple K i j) (subsets (pair e p)))
  subsets-small (connect k i j e) p = let h = subsets-small e p in omega (arith, length-set_of-map (connect_triple K k i j (own_triple (pair e p))) (subsets (pair e p)))
