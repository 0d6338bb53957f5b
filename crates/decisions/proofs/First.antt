-- THE FIRST PLAN (02, Item 5): what is chosen atom by atom is an answer set that obeys the assumptions, of all of those the first, and the only mask that
-- is both. Assumes nothing.
use mathlib.Core.Path.{◌≡◌, refl, sym, ap, ap₂, ◌∙◌, subst}
use mathlib.Core.Logic.{⊎_elim}
use mathlib.Core.Bool.{Bool, true, false, ◌||◌, or-true, true≢false}
use mathlib.Core.List.Memᴰ
use mathlib.Core.List.{List, [], ◌∷◌, Memᴰ}
use Prim.Native.Nat.{ℕ, ◌^◌, ◌≤◌, ◌<◌}
use native.Mathlib.Omega.{arith}
use lib.Bits.{bit_or}
use lib.Dec.{eqb, ltb}
use lib.ListN.{length}
use borrow.Author.Tests.{eq-eqb, ne_eqb, eqb-true, ltb-false}
use Rattle.lists.proofs.Runs.{run-bounds}
use Rattle.labels.specs.Sets.{has}
use Rattle.labels.proofs.Sets.{has-or, has-pow, has-lt, has-ge, set-ext}
use Rattle.expression.specs.Refusals.{absent}
use Rattle.expression.specs.Checks.{Request}
use Rattle.semantics.specs.Expressions.{Expr}
use Rattle.semantics.specs.Programs.{numbers}
use Rattle.semantics.specs.AnswerSets.{Interpretation, Obeys, AnswerSet, of_mask, mask_of, by_masks}
use Rattle.semantics.proofs.Interpretations.{Agree}
use Rattle.semantics.proofs.Masks.{mask-agrees}
use Rattle.tables.proofs.Answers.{FoundAnswerSet}
use Rattle.values.specs.First.{NotBefore}
use Rattle.decisions.specs.Decisions.{Verdict, affirmed, denied, refused, assumed, grounded, expression_of}
use Rattle.decisions.specs.First.{assuming, leaving, keeping, says_yes, chosen, first_mask, FirstShown}
use Rattle.decisions.proofs.Walks.{Settled}
use Rattle.decisions.proofs.Demands.{shows-of, grounded-affirmed}
use Rattle.decisions.proofs.Shown.{not-before-agree}
use Rattle.decisions.proofs.Assuming.{More, obeys-less, affirmed-numbers, affirmed-there, affirmed-assumed, assuming-number, assuming-affirmed}

-- ---- two of which neither comes before the other are one

not-before-both : (xs : List ℕ) (p q : Interpretation) → NotBefore xs q p → NotBefore xs p q → Agree xs p q
unfolding NotBefore
not-before-both [] p q f g = λ c m. absurd (Memᴰ.not-nil m)
not-before-both (x ∷ xs) p q f g =
    let e = same (p x) (q x) f.0 g.0 in
    λ c m. ⊎_elim (λ k. ap p k ∙ e ∙ ap q (sym k)) (λ n. not-before-both xs p q (f.1 (sym e)) (g.1 e) c n) (Memᴰ.cases_cons m)
  where
    same : (b d : Bool) → (d ≡ false → b ≡ false) → (b ≡ false → d ≡ false) → b ≡ d
    same true true f g = refl
    same true false f g = f refl
    same false d f g = sym (g refl)

-- ---- one assumption more

added : (c x d : ℕ) → has d (bit_or (2 ^ c) x) ≡ (eqb d c || has d x)
added c x d = has-or d (2 ^ c) x ∙ ap (λ b. b || has d x) (has-pow d c)

added-itself : (c x : ℕ) → has c (bit_or (2 ^ c) x) ≡ true
added-itself c x = added c x c ∙ ap (λ b. b || has c x) (eq-eqb c c refl)

added-keeps : (c x d : ℕ) → has d x ≡ true → has d (bit_or (2 ^ c) x) ≡ true
added-keeps c x d h = added c x d ∙ ap (λ b. eqb d c || b) h ∙ or-true (eqb d c)

-- what is so of c, and wherever x has a bit, is so wherever both have one
added_is : (c x : ℕ) (q : Interpretation) (v : Bool) → q c ≡ v → (d : ℕ) → (has d x ≡ true → q d ≡ v) → has d (bit_or (2 ^ c) x) ≡ true → q d ≡ v
added_is c x q v h d k m = step (eqb d c) refl (sym (added c x d) ∙ m)
  where
    step : (b : Bool) → eqb d c ≡ b → (b || has d x) ≡ true → q d ≡ v
    step true e n = ap q (eqb-true d c e) ∙ h
    step false e n = k n

added-lt : (c x n : ℕ) → c < n → x < 2 ^ n → bit_or (2 ^ c) x < 2 ^ n
added-lt c x n l h = has-lt n (bit_or (2 ^ c) x) (λ d g. added c x d ∙ ap₂ ◌||◌ (ne_eqb d c (λ e. omega arith)) (has-ge d n x h g))

module _ (c i o : ℕ) where
  more-out : More (by_masks i o) (by_masks i (bit_or (2 ^ c) o))
  unfolding by_masks
  more-out = record { trues = λ d h. h; falses = added-keeps c o }

  more-in : More (by_masks i o) (by_masks (bit_or (2 ^ c) i) o)
  unfolding by_masks
  more-in = record { trues = added-keeps c i; falses = λ d h. h }

  module _ (xs : List ℕ) (q : Interpretation) (k : Obeys (by_masks i o) xs q) where
    obeys-out : q c ≡ false → Obeys (by_masks i (bit_or (2 ^ c) o)) xs q
    unfolding by_masks
    obeys-out h = record { has-trues = k.has-trues; lacks-falses = λ d m. added_is c o q false h d (k.lacks-falses d m) }

    obeys-in : q c ≡ true → Obeys (by_masks (bit_or (2 ^ c) i) o) xs q
    unfolding by_masks
    obeys-in h = record { has-trues = λ d m. added_is c i q true h d (k.has-trues d m); lacks-falses = k.lacks-falses }

-- ---- one atom left out or kept

not-false-true : (b : Bool) → (b ≡ false → ⊥) → b ≡ true
not-false-true true h = refl
not-false-true false h = absurd (h refl)

says_yes-is : (v : Verdict) → says_yes v ≡ true → v ≡ affirmed
unfolding says_yes
says_yes-is affirmed h = refl
says_yes-is denied h = absurd (true≢false (sym h))
says_yes-is (refused n at) h = absurd (true≢false (sym h))

module _ (K : ℕ) (a : Request) where
  abbrev e : Expr
  e = expression_of K a.bytes

  -- 02: finding the plan never raises 15 or 16: where the test of an atom is refused, a check refuses (an atom that is assumed true clashes)
  pub leaving-number : grounded K a ≡ affirmed → (c : ℕ) {n at : ℕ} → grounded K (leaving c a) ≡ refused n at → n ≤ absent
  unfolding assumed
  leaving-number h c g = assuming-number K a (subst Settled (sym h) tt) a.assumed_true (bit_or (2 ^ c) a.assumed_false) (more-out c _ _) g

  module _ (c : ℕ) (here : Memᴰ c (numbers e)) (h : grounded K a ≡ affirmed) (q : Interpretation) (k : Obeys (assumed a) (numbers e) q) (s : AnswerSet e q) where
    abbrev n : ℕ
    n = length (numbers e)

    below : c < n
    below = let b = run-bounds 0 n (subst (Memᴰ c) (affirmed-numbers K a h) here) in omega (arith, b.1)

    -- with it assumed as some answer set has it the answer is still yes
    leaving-yes : q c ≡ false → grounded K (leaving c a) ≡ affirmed
    unfolding assumed
    leaving-yes z =
        let there = affirmed-assumed K a h in
        assuming-affirmed K a h a.assumed_true (bit_or (2 ^ c) a.assumed_false) there.0 (added-lt c a.assumed_false n below there.1) (more-out c _ _) q (obeys-out c _ _ (numbers e) q k z) s

    keeping-yes : q c ≡ true → grounded K (keeping c a) ≡ affirmed
    unfolding assumed
    keeping-yes z =
        let there = affirmed-assumed K a h in
        assuming-affirmed K a h (bit_or (2 ^ c) a.assumed_true) a.assumed_false (added-lt c a.assumed_true n below there.0) there.1 (more-in c _ _) q (obeys-in c _ _ (numbers e) q k z) s

    -- so where the decision does not say yes with it left out, every answer set keeps it
    kept : says_yes (grounded K (leaving c a)) ≡ false → q c ≡ true
    unfolding says_yes
    kept y = not-false-true (q c) (λ z. true≢false (sym (ap says_yes (leaving-yes z)) ∙ y))

  -- what is chosen is the mask of an interpretation that is so on the first atom, and on the others
  module _ (c : ℕ) (cs : List ℕ) (p : Interpretation) where
    chosen-out : says_yes (grounded K (leaving c a)) ≡ true → p c ≡ false → chosen K (leaving c a) cs ≡ mask_of p cs → chosen K a (c ∷ cs) ≡ mask_of p (c ∷ cs)
    unfolding chosen mask_of
    chosen-out y z r = rw (y, z) r

    chosen-in : says_yes (grounded K (leaving c a)) ≡ false → p c ≡ true → chosen K (keeping c a) cs ≡ mask_of p cs → chosen K a (c ∷ cs) ≡ mask_of p (c ∷ cs)
    unfolding chosen mask_of
    chosen-in y z r = rw (y, z) (ap (bit_or (2 ^ c)) r)

-- ---- all atoms

module _ (K : ℕ) (a : Request) where
  -- of the answer sets that obey the assumptions this one comes first by the atoms cs, and what is chosen is its mask
  record Chosen (i o : ℕ) (cs : List ℕ) : Type 0 where
    found : FoundAnswerSet (by_masks i o) (e K a)
    is : chosen K (assuming i o a) cs ≡ mask_of found.by cs
    first : (q : Interpretation) → Obeys (by_masks i o) (numbers (e K a)) q → AnswerSet (e K a) q → NotBefore cs q found.by

  found-affirmed : (i o : ℕ) → grounded K (assuming i o a) ≡ affirmed → FoundAnswerSet (by_masks i o) (e K a)
  unfolding assumed
  found-affirmed i o h = let (m, s) = (grounded-affirmed K (assuming i o a) (subst Settled (sym h) tt)).0 h in record { by = of_mask m; obeys = s.obeys; answer_set = s.answer_set }

  choose : (cs : List ℕ) → ((c : ℕ) → Memᴰ c cs → Memᴰ c (numbers (e K a))) → (i o : ℕ) → grounded K (assuming i o a) ≡ affirmed → Chosen i o cs
  unfolding NotBefore chosen mask_of assumed by_masks
  choose [] w i o h = record { found = found-affirmed i o h; is = refl; first = λ q k s. tt }
  choose (c ∷ cs) w i o h = step (says_yes (grounded K (leaving c b))) refl (choose cs (λ d m. w d (Memᴰ.tail m)))
    where
      b : Request
      b = assuming i o a

      here : Memᴰ c (numbers (e K a))
      here = w c (Memᴰ.head refl)

      step : (x : Bool) → says_yes (grounded K (leaving c b)) ≡ x → ((i' o' : ℕ) → grounded K (assuming i' o' a) ≡ affirmed → Chosen i' o' cs) → Chosen i o (c ∷ cs)
      step true y rest =
          let r = rest i (bit_or (2 ^ c) o) (says_yes-is _ y) in
          let p = r.found in
          let z : p.by c ≡ false = p.obeys.lacks-falses c here (added-itself c o) in
          record {
            found = record { by = p.by; obeys = obeys-less (more-out c i o) (numbers (e K a)) p.by p.obeys; answer_set = p.answer_set };
            is = chosen-out K b c cs p.by y z r.is;
            first = λ q k s. (λ x. z, λ x. r.first q (obeys-out c i o (numbers (e K a)) q k (x ∙ z)) s);
          }
      step false y rest =
          let f = found-affirmed i o h in
          let r = rest (bit_or (2 ^ c) i) o (keeping-yes K b c here h f.by f.obeys f.answer_set (kept K b c here h f.by f.obeys f.answer_set y)) in
          let p = r.found in
          let z : p.by c ≡ true = p.obeys.has-trues c here (added-itself c i) in
          record {
            found = record { by = p.by; obeys = obeys-less (more-in c i o) (numbers (e K a)) p.by p.obeys; answer_set = p.answer_set };
            is = chosen-in K b c cs p.by y z r.is;
            first = λ q k s. let u = kept K b c here h q k s y in (λ x. absurd (true≢false (sym u ∙ x)), λ x. r.first q (obeys-in c i o (numbers (e K a)) q k u) s);
          }

  module _ (h : grounded K a ≡ affirmed) where
    -- the mask chosen is an answer set that obeys the assumptions, and the first of them
    pub first-mask : FirstShown K a (first_mask K a)
    unfolding first_mask assumed
    first-mask =
        let r = choose (numbers (e K a)) (λ c m. m) a.assumed_true a.assumed_false h in
        subst (FirstShown K a) (sym (ap (chosen K a) (sym (affirmed-numbers K a h)) ∙ r.is)) (record {
          shows = shows-of K a (subst Settled (sym h) tt) r.found;
          first = λ q k s. not-before-agree (numbers (e K a)) q q r.found.by (of_mask (mask_of r.found.by (numbers (e K a)))) (λ c m. refl) (mask-agrees r.found.by (numbers (e K a))) (r.first q k s);
        })

    -- and no other mask is
    pub first-only : (m m' : ℕ) → FirstShown K a m → FirstShown K a m' → m ≡ m'
    first-only m m' f g = set-ext m m' (λ c. step c (ltb c (length (numbers (e K a)))) refl)
      where
        same : Agree (numbers (e K a)) (of_mask m) (of_mask m')
        same = not-before-both (numbers (e K a)) (of_mask m) (of_mask m') (f.first (of_mask m') g.shows.obeys g.shows.answer_set) (g.first (of_mask m) f.shows.obeys f.shows.answer_set)

        step : (c : ℕ) (b : Bool) → ltb c (length (numbers (e K a))) ≡ b → has c m ≡ has c m'
        step c true l = same c (affirmed-there K a h c l)
        step c false l = let k = ltb-false c _ l in has-ge c _ m f.shows.within k ∙ sym (has-ge c _ m' g.shows.within k)

-- ---- one expression with one set of assumptions has one mask, under whatever limits and in whatever room it is decided

module _ (K : ℕ) (a : Request) (P G room : ℕ) where
  abbrev elsewhere : Request
  elsewhere = record { bytes = a.bytes; pair_limit = P; subset_limit = G; room = room; assumed_true = a.assumed_true; assumed_false = a.assumed_false }

  pub first_alone : grounded K a ≡ affirmed → grounded K elsewhere ≡ affirmed → first_mask K elsewhere ≡ first_mask K a
  unfolding assumed
  first_alone h h' =
      let f = first-mask K elsewhere h' in
      let s = f.shows in
      first-only K a h (first_mask K elsewhere) (first_mask K a) (record { shows = record { within = s.within; obeys = s.obeys; answer_set = s.answer_set }; first = f.first }) (first-mask K a h)
