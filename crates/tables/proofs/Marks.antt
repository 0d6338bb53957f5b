-- The triple of an interpretation says what Definitions 4 and 7 say: T and F are the labels with an atom in and outside the interpretation, U the labels
-- with an unmet rule of the reduct; for any number K of labels. Assumes nothing.
use mathlib.Core.Path.{◌≡◌, refl, sym, ap, ap₂, ◌∙◌, subst}
use mathlib.Core.Bool.{Bool, true, false, cond, not, ◌&&◌, ◌||◌, true≢false, false≢true, or-false, or-true, and-false, and-true}
use mathlib.Core.List.{List, [], ◌∷◌, ◌++◌, map, map-append}
use Prim.Native.Nat.{ℕ, ◌+◌, ◌*◌, ◌^◌, ◌≤◌, ◌<◌}
use native.Mathlib.Nat.{le_trans, le-add_right}
use native.Mathlib.Omega.{arith}
use lib.Dec.{eqb, ltb}
use lib.Pow.{pow_mono}
use borrow.Author.Tests.{eqb-true, eq-eqb, ne_eqb, lt-ltb, le-ltb}
use Rattle.lists.specs.Lists.{some, every, All}
use Rattle.lists.proofs.Members.{some-append, all_append, all_map}
use Rattle.labels.specs.Labels.{rename}
use Rattle.labels.specs.Sets.{has, without}
use Rattle.labels.proofs.Sets.{SetOf, lacking, set-pow, set-or, set-without, set-replace, has-le, has-lt, eqb-sym}
use Rattle.expression.specs.declared.Kind.{Kind}
use Rattle.expression.specs.declared.Kind.TheVariants.{Head, Positive, Negative}
use Rattle.semantics.specs.Expressions.{Expr, atom, rule, union, relabel, connect}
use Rattle.semantics.specs.Programs.{Atom, Rule, relabel_atom, relabel_rule, atoms, rules, labelled, extend, connect_rule}
use Rattle.semantics.specs.AnswerSets.{Interpretation, satisfies, strip, reduct}
use Rattle.semantics.proofs.Stacks.{Fits}
use Rattle.semantics.proofs.Again.{extend-label}
use Rattle.tables.specs.Triples.{mark_t, mark_f, mark_u, relabel_triple, settles, connect_triple, all_met}
use Rattle.tables.proofs.Subsets.{triple_of}

-- a rule that is settled for q in the reduct of p: it is none of the reduct, or q satisfies it
unfoldable pub holds : Interpretation → Interpretation → Rule → Bool
holds p q r = some (λ c. not (q c)) r.positive || some p r.negative || some q r.head

-- whether atoms put into a rule settle it
unfoldable pub settled : Kind → List ℕ → Interpretation → Interpretation → Bool
settled Head cs p q = some q cs
settled Positive cs p q = some (λ c. not (q c)) cs
settled Negative cs p q = some p cs

holds-extend : (k : Kind) (cs : List ℕ) (p q : Interpretation) (r : Rule) → holds p q (extend k cs r) ≡ (settled k cs p q || holds p q r)
unfolding holds settled extend
holds-extend Head cs p q r = ap (λ b. some (λ c. not (q c)) r.positive || some p r.negative || b) (some-append q cs r.head) ∙ front (some (λ c. not (q c)) r.positive) (some p r.negative) (some q cs) (some q r.head)
  where
    front : (a b h c : Bool) → (a || b || (h || c)) ≡ (h || (a || b || c))
    front true b h c = sym (or-true h)
    front false true h c = sym (or-true h)
    front false false h c = refl
holds-extend Positive cs p q r =
    ap (λ b. b || some p r.negative || some q r.head) (some-append (λ c. not (q c)) cs r.positive)
    ∙ front (some (λ c. not (q c)) r.positive) (some p r.negative) (some (λ c. not (q c)) cs) (some q r.head)
  where
    front : (a b h c : Bool) → (h || a || b || c) ≡ (h || (a || b || c))
    front a b true c = refl
    front a b false c = refl
holds-extend Negative cs p q r =
    ap (λ b. some (λ c. not (q c)) r.positive || b || some q r.head) (some-append p cs r.negative)
    ∙ front (some (λ c. not (q c)) r.positive) (some p r.negative) (some p cs) (some q r.head)
  where
    front : (a b h c : Bool) → (a || (h || b) || c) ≡ (h || (a || b || c))
    front a b true c = ap (λ x. x || c) (or-true a)
    front a b false c = refl

connect-label : (k : Kind) (j : ℕ) (cs : List ℕ) (r : Rule) → (connect_rule k j cs r).label ≡ r.label
unfolding connect_rule
connect-label k j cs r = step (eqb r.label j)
  where
    step : (b : Bool) → (cond b (extend k cs r) r).label ≡ r.label
    step true = extend-label k cs r
    step false = refl

rename-other : (m n x : ℕ) → (x ≡ m → ⊥) → rename m n x ≡ x
unfolding rename
rename-other m n x h = ap (λ b. cond b n x) (ne_eqb x m h)

eqb-add : (k a b : ℕ) → eqb (k + a) (k + b) ≡ eqb a b
eqb-add k a b = step (eqb a b) refl
  where
    step : (d : Bool) → eqb a b ≡ d → eqb (k + a) (k + b) ≡ d
    step true e = ap (λ x. eqb (k + a) (k + x)) (sym (eqb-true a b e)) ∙ eq-eqb (k + a) (k + a) refl
    step false e = ne_eqb (k + a) (k + b) (λ h. true≢false (sym (ap (eqb a) (let z : b ≡ a = omega arith in z) ∙ eq-eqb a a refl) ∙ e))

rename-add : (k i j g : ℕ) → rename (k + i) (k + j) (k + g) ≡ k + rename i j g
unfolding rename
rename-add k i j g = ap (λ b. cond b (k + j) (k + g)) (eqb-add k g i) ∙ step (eqb g i)
  where
    step : (b : Bool) → cond b (k + j) (k + g) ≡ k + cond b j g
    step true = refl
    step false = refl

rename-lt : (K i j g : ℕ) → j < K → g < K → rename i j g < K
unfolding rename
rename-lt K i j g hj hg = step (eqb g i)
  where
    step : (b : Bool) → cond b j g < K
    step true = hj
    step false = hg

module _ (K : ℕ) where
  abbrev AtomFits : Atom → Type 0
  AtomFits c = c.label < K

  abbrev RuleFits : Rule → Type 0
  RuleFits r = r.label < K

  atoms-fit : (e : Expr) → Fits K e → All AtomFits (atoms e)
  unfolding Fits atoms relabel_atom
  atoms-fit (atom c g) h = (h, tt)
  atoms-fit (rule g) h = tt
  atoms-fit (union a b) h = all_append AtomFits (atoms a) (atoms b) (atoms-fit a h.0) (atoms-fit b h.1)
  atoms-fit (relabel i j e) h = all_map AtomFits AtomFits (relabel_atom i j) (λ c k. rename-lt K i j c.label h.1 k) (atoms e) (atoms-fit e h.2)
  atoms-fit (connect k i j e) h = atoms-fit e h.2

  rules-fit : (e : Expr) → Fits K e → All RuleFits (rules e)
  unfolding Fits rules relabel_rule
  rules-fit (atom c g) h = tt
  rules-fit (rule g) h = (h, tt)
  rules-fit (union a b) h = all_append RuleFits (rules a) (rules b) (rules-fit a h.0) (rules-fit b h.1)
  rules-fit (relabel i j e) h = all_map RuleFits RuleFits (relabel_rule i j) (λ r k. rename-lt K i j r.label h.1 k) (rules e) (rules-fit e h.2)
  rules-fit (connect k i j e) h =
      all_map RuleFits RuleFits (connect_rule k j (labelled i (atoms e))) (λ r l. rw (connect-label k j (labelled i (atoms e)) r) l) (rules e) (rules-fit e h.2)

  -- ---- the marks of a part

  atom_mark : Interpretation → Atom → ℕ
  atom_mark q c = cond (q c.number) c.label (K + c.label)

  rule_marks : Interpretation → Interpretation → List Rule → List ℕ
  rule_marks p q [] = []
  rule_marks p q (r ∷ rs) = cond (holds p q r) (rule_marks p q rs) ((2 * K + r.label) ∷ rule_marks p q rs)

  abbrev marks : Expr → Interpretation → Interpretation → List ℕ
  marks e p q = map (atom_mark q) (atoms e) ++ rule_marks p q (rules e)

  rule-append : (p q : Interpretation) (rs ss : List Rule) → rule_marks p q (rs ++ ss) ≡ rule_marks p q rs ++ rule_marks p q ss
  unfolding rule_marks
  rule-append p q [] ss = refl
  rule-append p q (r ∷ rs) ss = step (holds p q r) (rule-append p q rs ss)
    where
      step : (b : Bool) → rule_marks p q (rs ++ ss) ≡ rule_marks p q rs ++ rule_marks p q ss
          → cond b (rule_marks p q (rs ++ ss)) ((2 * K + r.label) ∷ rule_marks p q (rs ++ ss)) ≡ cond b (rule_marks p q rs) ((2 * K + r.label) ∷ rule_marks p q rs) ++ rule_marks p q ss
      step true h = h
      step false h = ap {B = List ℕ} (λ l. (2 * K + r.label) ∷ l) h

  -- ---- a label renamed

  renamed : ℕ → ℕ → List ℕ → List ℕ
  renamed i j xs = map (rename i j) (map (rename (K + i) (K + j)) (map (rename (2 * K + i) (2 * K + j)) xs))

  renamed-append : (i j : ℕ) (xs ys : List ℕ) → renamed i j (xs ++ ys) ≡ renamed i j xs ++ renamed i j ys
  unfolding renamed
  renamed-append i j [] ys = refl
  renamed-append i j (x ∷ xs) ys = ap {B = List ℕ} (λ l. rename i j (rename (K + i) (K + j) (rename (2 * K + i) (2 * K + j) x)) ∷ l) (renamed-append i j xs ys)

  module _ (i j : ℕ) (hi : i < K) (hj : j < K) where
    three : ℕ → ℕ
    three x = rename i j (rename (K + i) (K + j) (rename (2 * K + i) (2 * K + j) x))

    three-T : (g : ℕ) → g < K → three g ≡ rename i j g
    unfolding three
    three-T g h =
        ap (λ x. rename i j (rename (K + i) (K + j) x)) (rename-other (2 * K + i) (2 * K + j) g (λ e. omega arith))
        ∙ ap (rename i j) (rename-other (K + i) (K + j) g (λ e. omega arith))

    three-F : (g : ℕ) → g < K → three (K + g) ≡ K + rename i j g
    unfolding three
    three-F g h =
        ap (λ x. rename i j (rename (K + i) (K + j) x)) (rename-other (2 * K + i) (2 * K + j) (K + g) (λ e. omega arith))
        ∙ ap (rename i j) (rename-add K i j g) ∙ rename-other i j (K + rename i j g) (λ e. omega arith)

    three-U : (g : ℕ) → three (2 * K + g) ≡ 2 * K + rename i j g
    unfolding three
    three-U g =
        ap (λ x. rename i j (rename (K + i) (K + j) x)) (rename-add (2 * K) i j g)
        ∙ ap (rename i j) (rename-other (K + i) (K + j) (2 * K + rename i j g) (λ e. omega arith))
        ∙ rename-other i j (2 * K + rename i j g) (λ e. omega arith)

    atom-renamed : (q : Interpretation) (c : Atom) → c.label < K → three (atom_mark q c) ≡ atom_mark q (relabel_atom i j c)
    unfolding atom_mark relabel_atom
    atom-renamed q c h = step (q c.number)
      where
        step : (b : Bool) → three (cond b c.label (K + c.label)) ≡ cond b (rename i j c.label) (K + rename i j c.label)
        step true = three-T c.label h
        step false = three-F c.label h

    atoms-renamed : (q : Interpretation) (cs : List Atom) → All AtomFits cs → renamed i j (map (atom_mark q) cs) ≡ map (atom_mark q) (map (relabel_atom i j) cs)
    unfolding renamed three
    atoms-renamed q [] h = refl
    atoms-renamed q (c ∷ cs) h = ap₂ {C = List ℕ} (λ x l. x ∷ l) (atom-renamed q c h.0) (atoms-renamed q cs h.1)

    rules-renamed : (p q : Interpretation) (rs : List Rule) → renamed i j (rule_marks p q rs) ≡ rule_marks p q (map (relabel_rule i j) rs)
    unfolding renamed rule_marks three relabel_rule holds
    rules-renamed p q [] = refl
    rules-renamed p q (r ∷ rs) = step (holds p q r) (rules-renamed p q rs)
      where
        step : (b : Bool) → renamed i j (rule_marks p q rs) ≡ rule_marks p q (map (relabel_rule i j) rs)
            → renamed i j (cond b (rule_marks p q rs) ((2 * K + r.label) ∷ rule_marks p q rs))
            ≡ cond b (rule_marks p q (map (relabel_rule i j) rs)) ((2 * K + rename i j r.label) ∷ rule_marks p q (map (relabel_rule i j) rs))
        step true h = h
        step false h = ap₂ {C = List ℕ} (λ x l. x ∷ l) (three-U r.label) h

  -- ---- atoms connected to rules

  module _ (i : ℕ) (hi : i < K) (q : Interpretation) where
    -- label i has a atom in q; outside q
    test-T : (cs : List Atom) → All AtomFits cs → some (eqb i) (map (atom_mark q) cs) ≡ some q (labelled i cs)
    unfolding some labelled atom_mark
    test-T [] h = refl
    test-T (c ∷ cs) h = ap (λ b. eqb i (cond (q c.number) c.label (K + c.label)) || b) (test-T cs h.1) ∙ step (q c.number) (eqb c.label i) refl refl
      where
        step : (b d : Bool) → q c.number ≡ b → eqb c.label i ≡ d
            → (eqb i (cond b c.label (K + c.label)) || some q (labelled i cs)) ≡ some q (cond d (c.number ∷ labelled i cs) (labelled i cs))
        step true true e f = ap (λ x. x || some q (labelled i cs)) (eqb-sym i c.label ∙ f ∙ sym e)
        step true false e f = ap (λ x. x || some q (labelled i cs)) (eqb-sym i c.label ∙ f)
        step false true e f = ap (λ x. x || some q (labelled i cs)) (ne_eqb i (K + c.label) (λ z. omega arith) ∙ sym e)
        step false false e f = ap (λ x. x || some q (labelled i cs)) (ne_eqb i (K + c.label) (λ z. omega arith))

    test-F : (cs : List Atom) → All AtomFits cs → some (eqb (K + i)) (map (atom_mark q) cs) ≡ some (λ c. not (q c)) (labelled i cs)
    unfolding some labelled atom_mark
    test-F [] h = refl
    test-F (c ∷ cs) h = ap (λ b. eqb (K + i) (cond (q c.number) c.label (K + c.label)) || b) (test-F cs h.1) ∙ step (q c.number) (eqb c.label i) refl refl
      where
        N : Bool
        N = some (λ c. not (q c)) (labelled i cs)

        step : (b d : Bool) → q c.number ≡ b → eqb c.label i ≡ d
            → (eqb (K + i) (cond b c.label (K + c.label)) || N) ≡ some (λ c. not (q c)) (cond d (c.number ∷ labelled i cs) (labelled i cs))
        step true true e f = ap (λ x. x || N) (ne_eqb (K + i) c.label (λ z. let l = h.0 in omega arith) ∙ ap not (sym e))
        step true false e f = ap (λ x. x || N) (ne_eqb (K + i) c.label (λ z. let l = h.0 in omega arith))
        step false true e f = ap (λ x. x || N) (eqb-add K i c.label ∙ eqb-sym i c.label ∙ f ∙ ap not (sym e))
        step false false e f = ap (λ x. x || N) (eqb-add K i c.label ∙ eqb-sym i c.label ∙ f)

  rule-low : (p q : Interpretation) (x : ℕ) → x < 2 * K → (rs : List Rule) → some (eqb x) (rule_marks p q rs) ≡ false
  unfolding rule_marks some
  rule-low p q x h [] = refl
  rule-low p q x h (r ∷ rs) = step (holds p q r) (rule-low p q x h rs)
    where
      step : (b : Bool) → some (eqb x) (rule_marks p q rs) ≡ false → some (eqb x) (cond b (rule_marks p q rs) ((2 * K + r.label) ∷ rule_marks p q rs)) ≡ false
      step true k = k
      step false k = ap₂ ◌||◌ (ne_eqb x (2 * K + r.label) (λ z. omega arith)) k

  lacking-append : (n : ℕ) (xs ys : List ℕ) → lacking n (xs ++ ys) ≡ lacking n xs ++ lacking n ys
  unfolding lacking
  lacking-append n [] ys = refl
  lacking-append n (x ∷ xs) ys = step (eqb x n) (lacking-append n xs ys)
    where
      step : (b : Bool) → lacking n (xs ++ ys) ≡ lacking n xs ++ lacking n ys
          → cond b (lacking n (xs ++ ys)) (x ∷ lacking n (xs ++ ys)) ≡ cond b (lacking n xs) (x ∷ lacking n xs) ++ lacking n ys
      step true h = h
      step false h = ap {B = List ℕ} (λ l. x ∷ l) h

  atoms-stay : (q : Interpretation) (j : ℕ) (cs : List Atom) → All AtomFits cs → lacking (2 * K + j) (map (atom_mark q) cs) ≡ map (atom_mark q) cs
  unfolding lacking atom_mark
  atoms-stay q j [] h = refl
  atoms-stay q j (c ∷ cs) h =
      ap (λ b. cond b (lacking (2 * K + j) (map (atom_mark q) cs)) (atom_mark q c ∷ lacking (2 * K + j) (map (atom_mark q) cs)))
      (ne_eqb (atom_mark q c) (2 * K + j) (low (q c.number)))
      ∙ ap {B = List ℕ} (λ l. atom_mark q c ∷ l) (atoms-stay q j cs h.1)
    where
      low : (b : Bool) → cond b c.label (K + c.label) ≡ 2 * K + j → ⊥
      low true e = let l = h.0 in omega arith
      low false e = let l = h.0 in omega arith

  module _ (k : Kind) (j : ℕ) (cs : List ℕ) (p q : Interpretation) where
    -- not settled, each rule stays as it was
    unsettled : settled k cs p q ≡ false → (rs : List Rule) → rule_marks p q (map (connect_rule k j cs) rs) ≡ rule_marks p q rs
    unfolding rule_marks connect_rule
    unsettled h [] = refl
    unsettled h (r ∷ rs) =
        ap₂ (λ b g. cond b (rule_marks p q (map (connect_rule k j cs) rs)) ((2 * K + g) ∷ rule_marks p q (map (connect_rule k j cs) rs))) same (connect-label k j cs r)
        ∙ ap (λ l. cond (holds p q r) l ((2 * K + r.label) ∷ l)) (unsettled h rs)
      where
        step : (b : Bool) → holds p q (cond b (extend k cs r) r) ≡ holds p q r
        step true = holds-extend k cs p q r ∙ ap (λ x. x || holds p q r) h
        step false = refl

        same : holds p q (connect_rule k j cs r) ≡ holds p q r
        same = step (eqb r.label j)

    -- settled, the rules of label j are settled
    all_settled : settled k cs p q ≡ true → (rs : List Rule) → rule_marks p q (map (connect_rule k j cs) rs) ≡ lacking (2 * K + j) (rule_marks p q rs)
    unfolding rule_marks lacking connect_rule
    all_settled h [] = refl
    all_settled h (r ∷ rs) = step (eqb r.label j) (holds p q r) refl refl (all_settled h rs)
      where
        L : List ℕ
        L = rule_marks p q (map (connect_rule k j cs) rs)

        R : List ℕ
        R = lacking (2 * K + j) (rule_marks p q rs)

        step : (b d : Bool) → eqb r.label j ≡ b → holds p q r ≡ d → L ≡ R
            → cond (holds p q (cond b (extend k cs r) r)) L ((2 * K + (cond b (extend k cs r) r).label) ∷ L) ≡ lacking (2 * K + j) (cond d (rule_marks p q rs) ((2 * K + r.label) ∷ rule_marks p q rs))
        step true true e f l = ap (λ b. cond b L ((2 * K + (extend k cs r).label) ∷ L)) (holds-extend k cs p q r ∙ ap (λ x. x || holds p q r) h) ∙ l
        step true false e f l =
            ap (λ b. cond b L ((2 * K + (extend k cs r).label) ∷ L)) (holds-extend k cs p q r ∙ ap (λ x. x || holds p q r) h) ∙ l
            ∙ sym (ap (λ b. cond b R ((2 * K + r.label) ∷ R)) (eqb-add (2 * K) r.label j ∙ e))
        step false true e f l = ap (λ b. cond b L ((2 * K + r.label) ∷ L)) f ∙ l
        step false false e f l =
            ap (λ b. cond b L ((2 * K + r.label) ∷ L)) f ∙ ap {B = List ℕ} (λ m. (2 * K + r.label) ∷ m) l
            ∙ sym (ap (λ b. cond b R ((2 * K + r.label) ∷ R)) (eqb-add (2 * K) r.label j ∙ e))

  -- ---- the triple is the set of the marks

  abbrev Right : Expr → Type 0
  Right e = (p q : Interpretation) → SetOf (triple_of K e p q) (marks e p q)

  relist : {a : ℕ} {xs ys : List ℕ} → xs ≡ ys → SetOf a xs → SetOf a ys
  relist {a} e h = subst (SetOf a) e h

  crossed : {a : ℕ} (xs ys zs ws : List ℕ) → SetOf a ((xs ++ ys) ++ (zs ++ ws)) → SetOf a ((xs ++ zs) ++ (ys ++ ws))
  crossed xs ys zs ws h = record {
    at = λ x. h.at x ∙ four (eqb x) xs ys zs ws ∙ cross (some (eqb x) xs) (some (eqb x) ys) (some (eqb x) zs) (some (eqb x) ws) ∙ sym (four (eqb x) xs zs ys ws);
  }
    where
      four : (f : ℕ → Bool) (k l m n : List ℕ) → some f ((k ++ l) ++ (m ++ n)) ≡ ((some f k || some f l) || (some f m || some f n))
      four f k l m n = some-append f (k ++ l) (m ++ n) ∙ ap₂ ◌||◌ (some-append f k l) (some-append f m n)

      cross : (a b c d : Bool) → ((a || b) || (c || d)) ≡ ((a || c) || (b || d))
      cross true b c d = refl
      cross false true true d = refl
      cross false true false d = refl
      cross false false c d = refl

  has-T : (e : Expr) → Fits K e → Right e → (i : ℕ) → i < K → (p q : Interpretation) → has i (triple_of K e p q) ≡ some q (labelled i (atoms e))
  has-T e h t i hi p q =
      (t p q).at i ∙ some-append (eqb i) (map (atom_mark q) (atoms e)) (rule_marks p q (rules e))
      ∙ ap₂ ◌||◌ (test-T i hi q (atoms e) (atoms-fit e h)) (rule-low p q i (omega arith) (rules e)) ∙ or-false (some q (labelled i (atoms e)))

  has-F : (e : Expr) → Fits K e → Right e → (i : ℕ) → i < K → (p q : Interpretation) → has (K + i) (triple_of K e p q) ≡ some (λ c. not (q c)) (labelled i (atoms e))
  has-F e h t i hi p q =
      (t p q).at (K + i) ∙ some-append (eqb (K + i)) (map (atom_mark q) (atoms e)) (rule_marks p q (rules e))
      ∙ ap₂ ◌||◌ (test-F i hi q (atoms e) (atoms-fit e h)) (rule-low p q (K + i) (omega arith) (rules e)) ∙ or-false (some (λ c. not (q c)) (labelled i (atoms e)))

  settles-is : (e : Expr) → Fits K e → Right e → (k : Kind) (i : ℕ) → i < K → (p q : Interpretation) → settles K k i (triple_of K e p p) (triple_of K e p q) ≡ settled k (labelled i (atoms e)) p q
  unfolding settles settled
  settles-is e h t Head i hi p q = has-T e h t i hi p q
  settles-is e h t Positive i hi p q = has-F e h t i hi p q
  settles-is e h t Negative i hi p q = has-T e h t i hi p p

  triple-marks : (e : Expr) → Fits K e → Right e
  unfolding triple_of mark_t mark_f mark_u atoms rules Fits renamed atom_mark rule_marks holds some relabel_triple connect_triple
  triple-marks (atom c a) h p q = step (q c)
    where
      step : (b : Bool) → SetOf (cond b (mark_t K a.label) (mark_f K a.label)) (cond b a.label (K + a.label) ∷ [])
      step true = set-pow a.label
      step false = set-pow (K + a.label)
  triple-marks (rule g) h p q = set-pow (2 * K + g)
  triple-marks (union a b) h p q =
      relist (ap₂ ◌++◌ (sym (map-append (atom_mark q) (atoms a) (atoms b))) (sym (rule-append p q (rules a) (rules b))))
      (crossed (map (atom_mark q) (atoms a)) (rule_marks p q (rules a)) (map (atom_mark q) (atoms b)) (rule_marks p q (rules b))
      (set-or (triple-marks a h.0 p q) (triple-marks b h.1 p q)))
  triple-marks (relabel i j e) h p q =
      relist (renamed-append i j (map (atom_mark q) (atoms e)) (rule_marks p q (rules e))
      ∙ ap₂ ◌++◌ (atoms-renamed i j h.0 h.1 q (atoms e) (atoms-fit e h.2)) (rules-renamed i j h.0 h.1 p q (rules e)))
      (set-replace i j (set-replace (K + i) (K + j) (set-replace (2 * K + i) (2 * K + j) (triple-marks e h.2 p q))))
  triple-marks (connect k i j e) h p q =
      step (settled k cs p q) refl (settles-is e h.2 (triple-marks e h.2) k i h.0 p q) (triple-marks e h.2 p q)
    where
      cs : List ℕ
      cs = labelled i (atoms e)

      step : (b : Bool) → settled k cs p q ≡ b → settles K k i (triple_of K e p p) (triple_of K e p q) ≡ settled k cs p q → SetOf (triple_of K e p q) (marks e p q)
          → SetOf (connect_triple K k i j (triple_of K e p p) (triple_of K e p q)) (map (atom_mark q) (atoms e) ++ rule_marks p q (map (connect_rule k j cs) (rules e)))
      step true f t l =
          subst (λ b. SetOf (cond b (without (2 * K + j) (triple_of K e p q)) (triple_of K e p q)) (map (atom_mark q) (atoms e) ++ rule_marks p q (map (connect_rule k j cs) (rules e)))) (sym (t ∙ f))
          (relist (lacking-append (2 * K + j) (map (atom_mark q) (atoms e)) (rule_marks p q (rules e))
          ∙ ap₂ ◌++◌ (atoms-stay q j (atoms e) (atoms-fit e h.2)) (sym (all_settled k j cs p q f (rules e))))
          (set-without (2 * K + j) l))
      step false f t l =
          subst (λ b. SetOf (cond b (without (2 * K + j) (triple_of K e p q)) (triple_of K e p q)) (map (atom_mark q) (atoms e) ++ rule_marks p q (map (connect_rule k j cs) (rules e)))) (sym (t ∙ f))
          (relist (ap (λ m. map (atom_mark q) (atoms e) ++ m) (sym (unsettled k j cs p q f (rules e)))) l)

  -- ---- no label has an unmet rule

  all_hold : (p q : Interpretation) (rs : List Rule) → every (holds p q) rs ≡ true → rule_marks p q rs ≡ []
  unfolding every rule_marks
  all_hold p q [] h = refl
  all_hold p q (r ∷ rs) h = step (holds p q r) (λ k. all_hold p q rs k) h
    where
      step : (b : Bool) → (every (holds p q) rs ≡ true → rule_marks p q rs ≡ []) → (b && every (holds p q) rs) ≡ true
          → cond b (rule_marks p q rs) ((2 * K + r.label) ∷ rule_marks p q rs) ≡ []
      step true f k = f k
      step false f k = absurd (false≢true k)

  one-fails : (p q : Interpretation) (rs : List Rule) → every (holds p q) rs ≡ false → (g : ℕ) × (some (eqb (2 * K + g)) (rule_marks p q rs) ≡ true)
  unfolding every rule_marks some
  one-fails p q [] h = absurd (true≢false h)
  one-fails p q (r ∷ rs) h = step (holds p q r) (λ k. one-fails p q rs k) h
    where
      step : (b : Bool) → (every (holds p q) rs ≡ false → (g : ℕ) × (some (eqb (2 * K + g)) (rule_marks p q rs) ≡ true)) → (b && every (holds p q) rs) ≡ false
          → (g : ℕ) × (some (eqb (2 * K + g)) (cond b (rule_marks p q rs) ((2 * K + r.label) ∷ rule_marks p q rs)) ≡ true)
      step true f k = f k
      step false f k = (r.label, ap (λ b. b || some (eqb (2 * K + r.label)) (rule_marks p q rs)) (eq-eqb (2 * K + r.label) (2 * K + r.label) refl))

  atoms-low : (q : Interpretation) (m : ℕ) → 2 * K ≤ m → (cs : List Atom) → All AtomFits cs → some (eqb m) (map (atom_mark q) cs) ≡ false
  unfolding some atom_mark
  atoms-low q m l [] h = refl
  atoms-low q m l (c ∷ cs) h = ap₂ ◌||◌ (ne_eqb m (atom_mark q c) (low (q c.number))) (atoms-low q m l cs h.1)
    where
      low : (b : Bool) → m ≡ cond b c.label (K + c.label) → ⊥
      low true e = let k = h.0 in omega arith
      low false e = let k = h.0 in omega arith

  pub all_met-is : (e : Expr) → Fits K e → (p q : Interpretation) → all_met K (triple_of K e p q) ≡ every (holds p q) (rules e)
  unfolding all_met some
  all_met-is e h p q = step (every (holds p q) (rules e)) refl
    where
      ms : SetOf (triple_of K e p q) (marks e p q)
      ms = triple-marks e h p q

      split : (x : ℕ) → some (eqb x) (marks e p q) ≡ (some (eqb x) (map (atom_mark q) (atoms e)) || some (eqb x) (rule_marks p q (rules e)))
      split x = some-append (eqb x) (map (atom_mark q) (atoms e)) (rule_marks p q (rules e))

      step : (b : Bool) → every (holds p q) (rules e) ≡ b → ltb (triple_of K e p q) (2 ^ (2 * K)) ≡ b
      step true f =
          lt-ltb (triple_of K e p q) (2 ^ (2 * K)) (has-lt (2 * K) (triple_of K e p q) (λ m l.
          ms.at m ∙ split m ∙ ap₂ (λ a r. a || some (eqb m) r) (atoms-low q m l (atoms e) (atoms-fit e h)) (all_hold p q (rules e) f)))
      step false f =
          let w = one-fails p q (rules e) f in
          let k : has (2 * K + w.0) (triple_of K e p q) ≡ true = ms.at (2 * K + w.0) ∙ split (2 * K + w.0) ∙ ap (λ b. some (eqb (2 * K + w.0)) (map (atom_mark q) (atoms e)) || b) w.1 ∙ or-true (some (eqb (2 * K + w.0)) (map (atom_mark q) (atoms e))) in
          le-ltb (triple_of K e p q) (2 ^ (2 * K)) (le_trans (pow_mono (le-add_right (2 * K) w.0)) (has-le (2 * K + w.0) (triple_of K e p q) k))

  -- ---- what the triple says of each label

  rules-high : (p q : Interpretation) (m : ℕ) → 3 * K ≤ m → (rs : List Rule) → All RuleFits rs → some (eqb m) (rule_marks p q rs) ≡ false
  unfolding rule_marks some
  rules-high p q m l [] h = refl
  rules-high p q m l (r ∷ rs) h = step (holds p q r) (rules-high p q m l rs h.1)
    where
      step : (b : Bool) → some (eqb m) (rule_marks p q rs) ≡ false → some (eqb m) (cond b (rule_marks p q rs) ((2 * K + r.label) ∷ rule_marks p q rs)) ≡ false
      step true k = k
      step false k = ap₂ ◌||◌ (ne_eqb m (2 * K + r.label) (λ z. let f = h.0 in omega arith)) k

  rules-marked : (g : ℕ) (p q : Interpretation) (rs : List Rule) → some (eqb (2 * K + g)) (rule_marks p q rs) ≡ some (λ r. eqb r.label g && not (holds p q r)) rs
  unfolding rule_marks some
  rules-marked g p q [] = refl
  rules-marked g p q (r ∷ rs) = step (holds p q r) (rules-marked g p q rs)
    where
      N : Bool
      N = some (λ r. eqb r.label g && not (holds p q r)) rs

      step : (b : Bool) → some (eqb (2 * K + g)) (rule_marks p q rs) ≡ N
          → some (eqb (2 * K + g)) (cond b (rule_marks p q rs) ((2 * K + r.label) ∷ rule_marks p q rs)) ≡ (eqb r.label g && not b || N)
      step true k = k ∙ ap (λ b. b || N) (sym (and-false (eqb r.label g)))
      step false k = ap₂ ◌||◌ (eqb-add (2 * K) g r.label ∙ eqb-sym g r.label ∙ sym (and-true (eqb r.label g))) k

  module _ (e : Expr) (fits : Fits K e) (p q : Interpretation) where
    pub has-true : (g : ℕ) → g < K → has g (triple_of K e p q) ≡ some q (labelled g (atoms e))
    has-true g h = has-T e fits (triple-marks e fits) g h p q

    pub has-false : (g : ℕ) → g < K → has (K + g) (triple_of K e p q) ≡ some (λ c. not (q c)) (labelled g (atoms e))
    has-false g h = has-F e fits (triple-marks e fits) g h p q

    pub has-unmet : (g : ℕ) → has (2 * K + g) (triple_of K e p q) ≡ some (λ r. eqb r.label g && not (holds p q r)) (rules e)
    has-unmet g =
        (triple-marks e fits p q).at (2 * K + g) ∙ some-append (eqb (2 * K + g)) (map (atom_mark q) (atoms e)) (rule_marks p q (rules e))
        ∙ ap₂ ◌||◌ (atoms-low q (2 * K + g) (omega arith) (atoms e) (atoms-fit e fits)) (rules-marked g p q (rules e))

    pub triple-lt : triple_of K e p q < 2 ^ (3 * K)
    triple-lt =
        has-lt (3 * K) (triple_of K e p q) (λ m l.
        (triple-marks e fits p q).at m ∙ some-append (eqb m) (map (atom_mark q) (atoms e)) (rule_marks p q (rules e))
        ∙ ap₂ ◌||◌ (atoms-low q m (omega arith) (atoms e) (atoms-fit e fits)) (rules-high p q m l (rules e) (rules-fit e fits)))

-- the reduct's rules are model by q exactly if the rules hold
pub reduct-holds : (p q : Interpretation) (rs : List Rule) → every (satisfies q) (reduct p rs) ≡ every (holds p q) rs
unfolding every reduct holds satisfies strip some
reduct-holds p q [] = refl
reduct-holds p q (r ∷ rs) = step (some p r.negative) refl (reduct-holds p q rs)
  where
    N : Bool
    N = some (λ c. not (q c)) r.positive

    H : Bool
    H = some q r.head

    step : (b : Bool) → some p r.negative ≡ b → every (satisfies q) (reduct p rs) ≡ every (holds p q) rs
        → every (satisfies q) (cond b (reduct p rs) (strip r ∷ reduct p rs)) ≡ (holds p q r && every (holds p q) rs)
    step true e h = h ∙ ap (λ b. b && every (holds p q) rs) (sym (ap (λ b. N || b || H) e ∙ ap (λ b. b || H) (or-true N)))
    step false e h = ap₂ (λ b c. (N || b || H) && c) (sym e) h

-- and those of one label that are not met are the reduct's that are not met
pub reduct-unmet : (g : ℕ) (p q : Interpretation) (rs : List Rule)
    → some (λ r. eqb r.label g && not (holds p q r)) rs ≡ some (λ r. eqb r.label g && not (satisfies q r)) (reduct p rs)
unfolding reduct holds satisfies strip some
reduct-unmet g p q [] = refl
reduct-unmet g p q (r ∷ rs) = step (some p r.negative) refl (reduct-unmet g p q rs)
  where
    N : Bool
    N = some (λ c. not (q c)) r.positive

    H : Bool
    H = some q r.head

    U : Bool
    U = some (λ r. eqb r.label g && not (satisfies q r)) (reduct p rs)

    step : (b : Bool) → some p r.negative ≡ b → some (λ r. eqb r.label g && not (holds p q r)) rs ≡ U
        → some (λ r. eqb r.label g && not (holds p q r)) (r ∷ rs) ≡ some (λ r. eqb r.label g && not (satisfies q r)) (cond b (reduct p rs) (strip r ∷ reduct p rs))
    step true e h = ap₂ (λ b c. eqb r.label g && not b || c) (ap (λ b. N || b || H) e ∙ ap (λ b. b || H) (or-true N)) h ∙ ap (λ b. b || U) (and-false (eqb r.label g))
    step false e h = ap₂ (λ b c. eqb r.label g && not (N || b || H) || c) e h
