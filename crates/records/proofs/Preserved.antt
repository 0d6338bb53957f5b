-- What a command makes of tables of the form asked for has that form too, unless it exceeds a limit; over K labels. Assumes nothing.
use mathlib.Core.Path.{◌≡◌, refl, sym, ap, ◌∙◌, subst}
use mathlib.Core.Bool.{Bool, true, false, cond, true≢false, ◌&&◌}
use mathlib.Core.List.Memᴰ
use mathlib.Core.List.{List, [], ◌∷◌, ◌++◌, map, Memᴰ}
use Prim.Native.Nat.{ℕ, ◌+◌, ◌-◌, ◌*◌, ◌^◌, ◌<◌}
use native.Mathlib.Nat.{mul-le-mul}
use native.Mathlib.Omega.{arith}
use lib.Bits.{bit_and, bit_or, or_lt}
use lib.Dec.{ltb}
use lib.ListN.{length}
use lib.Pow.{pow-lt}
use borrow.Author.Tests.{ltb-false}
use Rattle.lists.specs.Lists.{All, some, products}
use Rattle.lists.specs.Sorted.{compare_numbers, compare_lists, second, Rising, canon, set_of}
use Rattle.lists.proofs.Members.{none-some, all-at, all_of, all_append, all_map, products-is, length-products}
use Rattle.lists.proofs.Comparisons.{numbers-lawful, lists-lawful}
use Rattle.lists.proofs.Canon.{canon-is, canon-of, rising-canon}
use Rattle.labels.specs.Sets.{has, without, replace}
use Rattle.labels.proofs.Sets.{has-and, has-none}
use Rattle.expression.specs.declared.Kind.{Kind}
use Rattle.expression.specs.declared.Role.{Role}
use Rattle.expression.specs.declared.Role.TheVariants.{Derived, External}
use Rattle.expression.specs.declared.NewAtom.{NewAtom}
use Rattle.expression.specs.declared.Command.{Command}
use Rattle.expression.specs.declared.Command.TheVariants.{Atom, Rule, Union, Relabel, Connect, Name}
use Rattle.expression.specs.Refusals.{subsets_full, plans_full}
use Rattle.expression.specs.Commands.{Suits}
use Rattle.semantics.specs.Expressions.{act, unite_newest, change_newest}
use Rattle.semantics.specs.AnswerSets.{Assumptions, by_masks}
use Rattle.tables.specs.Algebras.{tables, leaf}
use Rattle.tables.specs.Triples.{mark_t, mark_f, mark_u, relabel_triple, settles, connect_triple}
use Rattle.tables.specs.Definitions.{Pair, own_triple, subsets, unite_pairs, map_pair, left_out, pairs}
use Rattle.tables.proofs.Subsets.{left-out-rising}
use Rattle.decisions.specs.Decisions.{pairs_fault, newest}
use Rattle.rows.specs.Rows.{Fit}
use Rattle.records.proofs.Formed.{Formed}

-- no atom is assumed true and false
pub Consistent : Assumptions → Type 0
Consistent o = (c : ℕ) → o.trues c ≡ true → o.falses c ≡ true → ⊥

pub masks-consistent : (i o : ℕ) → bit_and i o ≡ 0 → Consistent (by_masks i o)
unfolding Consistent by_masks
masks-consistent i o e c t f = true≢false (sym (both (has c i) (has c o) t f) ∙ sym (has-and c i o) ∙ ap (has c) e ∙ has-none c)
  where
    both : (a b : Bool) → a ≡ true → b ≡ true → (a && b) ≡ true
    both true b p q = q
    both false b p q = p

module _ (K : ℕ) where
  abbrev Low : ℕ → Type 0
  Low v = v < 2 ^ (3 * K)

  -- ---- triples

  without-low : (m v : ℕ) → Low v → Low (without m v)
  unfolding without
  without-low m v h = step (has m v)
    where
      step : (b : Bool) → Low (cond b (v - 2 ^ m) v)
      step true = omega arith
      step false = h

  replace-low : (m n v : ℕ) → n < 3 * K → Low v → Low (replace m n v)
  unfolding replace
  replace-low m n v l h = step (has m v)
    where
      step : (b : Bool) → Low (cond b (bit_or (2 ^ n) (without m v)) v)
      step true = or_lt (3 * K) (2 ^ n) (without m v) (pow-lt l) (without-low m v h)
      step false = h

  relabel-low : (i j v : ℕ) → j < K → Low v → Low (relabel_triple K i j v)
  unfolding relabel_triple
  relabel-low i j v l h =
      replace-low i j _ (omega arith) (replace-low (K + i) (K + j) _ (omega arith) (replace-low (2 * K + i) (2 * K + j) v (omega arith) h))

  connect-low : (k : Kind) (i j q v : ℕ) → Low v → Low (connect_triple K k i j q v)
  unfolding connect_triple
  connect-low k i j q v h = step (settles K k i q v)
    where
      step : (b : Bool) → Low (cond b (without (2 * K + j) v) v)
      step true = without-low (2 * K + j) v h
      step false = h

  -- ---- pairs

  record Good (x : Pair) : Type 0 where
    own : 0 < length x
    ordered : Rising compare_numbers (subsets x)
    low : All Low x

  own-low : (x : Pair) → Good x → Low (own_triple x)
  own-low [] h = absurd (omega (arith, h.own))
  own-low (q ∷ s) h = h.low.0

  subsets-low : (x : Pair) → Good x → All Low (subsets x)
  subsets-low [] h = tt
  subsets-low (q ∷ s) h = h.low.1

  set-good : (q : ℕ) (s : List ℕ) → Low q → All Low s → Good (q ∷ set_of s)
  unfolding set_of
  set-good q s l h = record {
    own = omega arith;
    ordered = rising-canon numbers-lawful s;
    low = (l, all_of Low (canon compare_numbers second s) (λ v m. all-at Low s h (canon-is numbers-lawful s m)));
  }

  unite-good : (x y : Pair) → Good x → Good y → Good (unite_pairs x y)
  unfolding unite_pairs
  unite-good x y h k =
      set-good (bit_or (own_triple x) (own_triple y)) _ (or_lt (3 * K) (own_triple x) (own_triple y) (own-low x h) (own-low y k))
      (all_append Low (products bit_or (subsets x) (subsets y) ++ map (bit_or (own_triple x)) (subsets y)) (map (λ s. bit_or s (own_triple y)) (subsets x))
      (all_append Low (products bit_or (subsets x) (subsets y)) (map (bit_or (own_triple x)) (subsets y)) both
      (all_map Low Low (bit_or (own_triple x)) (λ v l. or_lt (3 * K) (own_triple x) v (own-low x h) l) (subsets y) (subsets-low y k)))
      (all_map Low Low (λ s. bit_or s (own_triple y)) (λ v l. or_lt (3 * K) v (own_triple y) l (own-low y k)) (subsets x) (subsets-low x h)))
    where
      both : All Low (products bit_or (subsets x) (subsets y))
      both = all_of Low (products bit_or (subsets x) (subsets y)) (λ v m.
          let r = products-is bit_or (subsets x) (subsets y) m in
          subst Low r.4 (or_lt (3 * K) r.0 r.1 (all-at Low (subsets x) (subsets-low x h) r.2) (all-at Low (subsets y) (subsets-low y k) r.3)))

  map-good : (q : ℕ) (g : ℕ → ℕ) (x : Pair) → Low q → ((v : ℕ) → Low v → Low (g v)) → Good x → Good (map_pair q g x)
  unfolding map_pair
  map-good q g x l f h = set-good q (map g (subsets x)) l (all_map Low Low g f (subsets x) (subsets-low x h))

  -- ---- tables, the limits aside

  record Shaped (t : List Pair) : Type 0 where
    filled : 0 < length t
    rising : Rising compare_lists t
    good : All Good t

  some-member : {x : Pair} (t : List Pair) → Memᴰ x t → 0 < length t
  some-member [] m = absurd (Memᴰ.not-nil m)
  some-member (y ∷ t) m = omega arith

  canon-shaped : (xs : List Pair) → 0 < length xs → All Good xs → Shaped (canon compare_lists second xs)
  canon-shaped [] l h = absurd (omega arith)
  canon-shaped (x ∷ xs) l h = record {
    filled = some-member (canon compare_lists second (x ∷ xs)) (canon-of lists-lawful (x ∷ xs) (Memᴰ.head refl));
    rising = rising-canon lists-lawful (x ∷ xs);
    good = all_of Good (canon compare_lists second (x ∷ xs)) (λ y m. all-at Good (x ∷ xs) h (canon-is lists-lawful (x ∷ xs) m));
  }

  shaped-map : (f : Pair → Pair) (t : List Pair) → ((x : Pair) → Good x → Good (f x)) → Shaped t → Shaped (canon compare_lists second (map f t))
  shaped-map f t g h = canon-shaped (map f t) (some t h.filled) (all_map Good Good f g t h.good)
    where
      some : (t : List Pair) → 0 < length t → 0 < length (map f t)
      some [] l = l
      some (x ∷ t) l = omega arith

  module _ (o : Assumptions) (apart : Consistent o) where
    left-out-low : (r : Role) (s : ℕ) → Low s → All Low (left_out r s)
    left-out-low Derived s l = (l, tt)
    left-out-low External s l = tt

    atom-shaped : (n : ℕ) (a : NewAtom) → a.label < K → Shaped ((tables (pairs K) o).atom_op n a)
    unfolding tables leaf pairs mark_t mark_f Consistent Rising
    atom-shaped n a l = step (o.falses n) (o.trues n) refl refl
      where
        g : ℕ
        g = a.label

        T : Low (2 ^ g)
        T = pow-lt (omega arith)

        F : Low (2 ^ (K + g))
        F = pow-lt (omega arith)

        P : Good (2 ^ g ∷ left_out a.role (2 ^ (K + g)))
        P = record { own = omega arith; ordered = left-out-rising a.role _; low = (T, left-out-low a.role _ F) }

        N : Good (2 ^ (K + g) ∷ [])
        N = record { own = omega arith; ordered = tt; low = (F, tt) }

        step : (b c : Bool) → o.falses n ≡ b → o.trues n ≡ c → Shaped (canon compare_lists second (cond b [] ((2 ^ g ∷ left_out a.role (2 ^ (K + g))) ∷ []) ++ cond c [] ((2 ^ (K + g) ∷ []) ∷ [])))
        step true true e f = absurd (apart n f e)
        step true false e f = canon-shaped _ (omega arith) (N, tt)
        step false true e f = canon-shaped _ (omega arith) (P, tt)
        step false false e f = canon-shaped _ (omega arith) (P, (N, tt))

    rule-shaped : (g : ℕ) → g < K → Shaped ((tables (pairs K) o).rule_op g)
    unfolding tables pairs mark_u Rising
    rule-shaped g l = record { filled = omega arith; rising = (tt, tt); good = (record { own = omega arith; ordered = tt; low = (pow-lt (omega arith), tt) }, tt) }

    union-shaped : (s t : List Pair) → Shaped s → Shaped t → Shaped ((tables (pairs K) o).union_op s t)
    unfolding tables pairs
    union-shaped s t h k =
        canon-shaped (products unite_pairs s t) (omega (arith, length-products unite_pairs s t, mul-le-mul h.filled k.filled)) (all_of Good (products unite_pairs s t) (λ x m.
        let r = products-is unite_pairs s t m in
        subst Good r.4 (unite-good r.0 r.1 (all-at Good s h.good r.2) (all-at Good t k.good r.3))))

    relabel-shaped : (i j : ℕ) (t : List Pair) → j < K → Shaped t → Shaped ((tables (pairs K) o).relabel_op i j t)
    unfolding tables pairs
    relabel-shaped i j t l h = shaped-map _ t (λ x k. map-good _ _ x (relabel-low i j _ l (own-low x k)) (λ v m. relabel-low i j v l m) k) h

    connect-shaped : (k : Kind) (i j : ℕ) (t : List Pair) → Shaped t → Shaped ((tables (pairs K) o).connect_op k i j t)
    unfolding tables pairs
    connect-shaped k i j t h = shaped-map _ t (λ x g. map-good _ _ x (connect-low k i j _ _ (own-low x g)) (λ v m. connect-low k i j _ v m) g) h

    -- ---- the limits

    module _ (P G : ℕ) where
      abbrev Kept : List Pair → Type 0
      Kept t = Formed K (G + 2) P t

      kept-shaped : (t : List Pair) → Kept t → Shaped t
      kept-shaped t h = record { filled = h.filled; rising = h.sound.rising; good = together t h.sound.fit h.sound.ordered h.low }
        where
          together : (t : List Pair) → All (Fit (G + 2)) t → All (λ x. Rising compare_numbers (subsets x)) t → All (All Low) t → All Good t
          together [] f r l = tt
          together (x ∷ t) f r l = (record { own = unfold Fit in f.0.0; ordered = r.0; low = l.0 }, together t f.1 r.1 l.1)

      no-fault : (b c : Bool) → cond b subsets_full (cond c plans_full 0) ≡ 0 → (b ≡ false) × (c ≡ false)
      no-fault true c h = absurd (omega arith)
      no-fault false true h = absurd (omega arith)
      no-fault false false h = (refl, refl)

      good-fits : (x : Pair) → Good x → ltb G (length (subsets x)) ≡ false → Fit (G + 2) x
      unfolding Fit
      good-fits [] h e = absurd (omega (arith, h.own))
      good-fits (q ∷ s) h e = (h.own, omega (arith, ltb-false G (length s) e))

      shaped-kept : (t : List Pair) → Shaped t → pairs_fault P G t ≡ 0 → Kept t
      unfolding pairs_fault
      shaped-kept t h e =
          let few = no-fault (some (λ x. ltb G (length (subsets x))) t) (ltb P (length t)) e in
          record {
            filled = h.filled;
            sound = record {
              few = ltb-false P (length t) few.1;
              fit = all_of (Fit (G + 2)) t (λ x m. good-fits x (all-at Good t h.good m) (none-some (λ y. ltb G (length (subsets y))) t few.0 m));
              rising = h.rising;
              ordered = all_of (λ x. Rising compare_numbers (subsets x)) t (λ x m. (all-at Good t h.good m).ordered);
            };
            low = all_of (All Low) t (λ x m. (all-at Good t h.good m).low);
          }

      -- one command that exceeds neither
      pub act-formed : (n : ℕ) (c : Command) (us : List (List Pair)) → Suits K c → All (Formed K (G + 2) P) us → pairs_fault P G (newest (act (tables (pairs K) o) n c us)) ≡ 0
          → All (Formed K (G + 2) P) (act (tables (pairs K) o) n c us)
      unfolding act unite_newest change_newest Suits
      act-formed n (Atom g) us s h e = (shaped-kept _ (atom-shaped n g s) e, h)
      act-formed n (Rule g) us s h e = (shaped-kept _ (rule-shaped g s) e, h)
      act-formed n Union [] s h e = h
      act-formed n Union (b ∷ []) s h e = h
      act-formed n Union (b ∷ a ∷ us) s h e = (shaped-kept _ (union-shaped a b (kept-shaped a h.1.0) (kept-shaped b h.0)) e, h.1.1)
      act-formed n (Relabel i j) [] s h e = h
      act-formed n (Relabel i j) (t ∷ us) s h e = (shaped-kept _ (relabel-shaped i j t s.1 (kept-shaped t h.0)) e, h.1)
      act-formed n (Connect k i j) [] s h e = h
      act-formed n (Connect k i j) (t ∷ us) s h e = (shaped-kept _ (connect-shaped k j i _ (connect-shaped k i j t (kept-shaped t h.0))) e, h.1)
      act-formed n (Name at) us s h e = h
