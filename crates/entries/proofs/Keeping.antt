-- Values in words: one put in at a place, one put there instead of the old one. Assumes nothing.
use Rattle.std.proofs.Common.{◌≡◌, ℕ, zero, suc, ◌+◌, ◌-◌, ◌*◌, ◌<◌, ◌≤◌, List, [], ◌∷◌, ◌++◌, map, length, get_or, take, drop, set, replicate, sym, refl, ap, ◌∙◌, subst, ap₂, add-one, arith, length-append, length-drop, length-set, length-take, length-take-le, get_or-take, take_at, drop_at}
use lib.ListN.{length-replicate, length-map, get_or-map}
use lib.Seq.{drop-append-add, set-get_or, set_split, set-append_left}
use borrow.Rule.Slice.PartMut.{put_mid, mid_of}
use Rattle.values.specs.declared.Value.{Value}
use Rattle.values.specs.Values.{no_value, in_low}
use Rattle.rows.specs.Parts.{zeros}
use Rattle.rows.proofs.Parts.{drop-zeros}
use Rattle.rows.proofs.Indexing.{pushed}
use Rattle.entries.specs.declared.Carry.{Carry}
use Rattle.entries.specs.declared.Carry.TheVariants.{Nothing, First, Consequences}
use Rattle.entries.specs.Carries.{carried_by, Keeps, in_words, twos, values_in, Beside, KeptWords, Kept}

-- ---- words

pub word-pushed : (p m k x : ℕ) (vals vals' ys : List ℕ) → KeptWords p m vals → k ≤ m → m < p
    → ys ≡ take (length (mid_of k (m + 1 - k) vals)) (x ∷ mid_of k (m + 1 - k) vals) → vals' ≡ put_mid k (m + 1 - k) vals ys
    → KeptWords p (m + 1) vals' × (take (m + 1) vals' ≡ take k (take m vals) ++ x ∷ drop k (take m vals))
word-pushed p m k x vals vals' ys h l g ey ev =
    let N : List ℕ = take k (take m vals) ++ x ∷ drop k (take m vals) in
    let front : length (take m vals) ≡ m = length-take-le m vals (omega (arith, h.1)) in
    let long : length N ≡ m + 1 = simp (length-append, length-take, length-drop) (omega (arith, front, h.1)) in
    let is : vals' ≡ N ++ drop (m + 1) vals = ev ∙ pushed k m x vals ys l (omega (arith, h.1)) ey in
    let back : drop (m + 1) vals ≡ zeros (p - (m + 1)) =
    ap (drop (m + 1)) h.0 ∙ ap (λ (j : ℕ). drop (j + 1) (take m vals ++ zeros (p - m))) (sym front) ∙ drop-append-add (take m vals) (zeros (p - m)) 1
    ∙ drop-zeros 1 (p - m) (omega arith) ∙ ap zeros (let z : p - m - 1 ≡ p - (m + 1) = omega arith in z) in
    let taken : take (m + 1) vals' ≡ N = ap (take (m + 1)) is ∙ take_at N (drop (m + 1) vals) (m + 1) long in
    ((is ∙ ap₂ (λ (a : List ℕ) (b : List ℕ). a ++ b) (sym taken) back, ap length is ∙ length-append N (drop (m + 1) vals) ∙ omega (arith, long, length-drop (m + 1) vals, h.1)), taken)

-- at one place y, then x there
pub both-pushed : (p m k x y : ℕ) (vals vals₁ vals₂ : List ℕ) → KeptWords p m vals → k ≤ m → m + 1 < p → take (m + 1) vals₁ ≡ take k (take m vals) ++ y ∷ drop k (take m vals)
    → KeptWords p (m + 1 + 1) vals₂ × (take (m + 1 + 1) vals₂ ≡ take k (take (m + 1) vals₁) ++ x ∷ drop k (take (m + 1) vals₁))
    → KeptWords p (m + 2) vals₂ × (take (m + 2) vals₂ ≡ take k (take m vals) ++ x ∷ y ∷ drop k (take m vals))
both-pushed p m k x y vals vals₁ vals₂ h l g e f =
    let T : List ℕ = take m vals in
    let front : length (take k T) ≡ k = length-take-le k T (omega (arith, length-take-le m vals (omega (arith, h.1)))) in
    let is : take k (take (m + 1) vals₁) ++ x ∷ drop k (take (m + 1) vals₁) ≡ take k T ++ x ∷ y ∷ drop k T =
    ap₂ (λ (a : List ℕ) (b : List ℕ). a ++ x ∷ b) (ap (take k) e ∙ take_at (take k T) (y ∷ drop k T) k front) (ap (drop k) e ∙ drop_at (take k T) (y ∷ drop k T) k front) in
    subst (λ (j : ℕ). KeptWords p j vals₂ × (take j vals₂ ≡ take k T ++ x ∷ y ∷ drop k T)) (let z : m + 1 + 1 ≡ m + 2 = omega arith in z) (f.0, f.1 ∙ is)

word-put : (p m k x : ℕ) (vals : List ℕ) → KeptWords p m vals → k < m → m ≤ p → KeptWords p m (set vals k x) × (take m (set vals k x) ≡ set (take m vals) k x)
word-put p m k x vals h l g =
    let T : List ℕ = take m vals in
    let front : length T ≡ m = length-take-le m vals (omega (arith, h.1)) in
    let is : set vals k x ≡ set T k x ++ zeros (p - m) = ap (λ (t : List ℕ). set t k x) h.0 ∙ set-append_left T (zeros (p - m)) k x (omega (arith, front)) in
    let taken : take m (set vals k x) ≡ set T k x = ap (take m) is ∙ take_at (set T k x) (zeros (p - m)) m (length-set T k x ∙ front) in
    ((is ∙ ap (λ (t : List ℕ). t ++ zeros (p - m)) (sym taken), length-set vals k x ∙ h.1), taken)

-- ---- values of one word, and of two

twice-more : (k : ℕ) → 2 * suc k ≡ suc (suc (2 * k))
twice-more k = omega arith

low-push : (k x : ℕ) (T : List ℕ) → map in_low (take k T ++ x ∷ drop k T) ≡ take k (map in_low T) ++ in_low x ∷ drop k (map in_low T)
low-push zero x T = refl
low-push (suc k) x [] = refl
low-push (suc k) x (y ∷ T) = ap (λ (t : List Value). in_low y ∷ t) (low-push k x T)

two-push : (k x y : ℕ) (T : List ℕ) → 2 * k ≤ length T → twos (take (2 * k) T ++ x ∷ y ∷ drop (2 * k) T) ≡ take k (twos T) ++ record { high = x; low = y } ∷ drop k (twos T)
unfolding twos
two-push zero x y T l = refl
two-push (suc k) x y [] l = absurd (omega arith)
two-push (suc k) x y (a ∷ []) l = absurd (omega arith)
two-push (suc k) x y (a ∷ b ∷ T) l = rw (twice-more k) (ap (λ (t : List Value). record { high = a; low = b } ∷ t) (two-push k x y T (omega arith)))

low-set : (k x : ℕ) (T : List ℕ) → map in_low (set T k x) ≡ set (map in_low T) k (in_low x)
low-set k x [] = refl
low-set zero x (y ∷ T) = refl
low-set (suc k) x (y ∷ T) = ap (λ (t : List Value). in_low y ∷ t) (low-set k x T)

two-set : (k x y : ℕ) (T : List ℕ) → 2 * k + 1 < length T → twos (set (set T (2 * k) x) (2 * k + 1) y) ≡ set (twos T) k (record { high = x; low = y })
unfolding twos
two-set k x y T l = rw (add-one (2 * k)) (step k T (omega arith))
  where
    step : (k : ℕ) (T : List ℕ) → suc (2 * k) < length T → twos (set (set T (2 * k) x) (suc (2 * k)) y) ≡ set (twos T) k (record { high = x; low = y })
    step k [] l = absurd (omega arith)
    step k (a ∷ []) l = absurd (omega arith)
    step zero (a ∷ b ∷ T) l = refl
    step (suc k) (a ∷ b ∷ T) l = rw (twice-more k) (ap (λ (t : List Value). record { high = a; low = b } ∷ t) (step k T (omega arith)))

two-get : (k : ℕ) (T : List ℕ) → 2 * k + 1 < length T → get_or (twos T) k no_value ≡ record { high = get_or T (2 * k) 0; low = get_or T (2 * k + 1) 0 }
unfolding twos
two-get k T l = rw (add-one (2 * k)) (step k T (omega arith))
  where
    step : (k : ℕ) (T : List ℕ) → suc (2 * k) < length T → get_or (twos T) k no_value ≡ record { high = get_or T (2 * k) 0; low = get_or T (suc (2 * k)) 0 }
    step k [] l = absurd (omega arith)
    step k (a ∷ []) l = absurd (omega arith)
    step zero (a ∷ b ∷ T) l = refl
    step (suc k) (a ∷ b ∷ T) l = rw (twice-more k) (step k T (omega arith))

two-long : (m : ℕ) (T : List ℕ) → length T ≡ 2 * m → length (twos T) ≡ m
unfolding twos
two-long zero [] e = refl
two-long zero (a ∷ T) e = absurd (omega arith)
two-long (suc m) [] e = absurd (omega arith)
two-long (suc m) (a ∷ []) e = absurd (omega arith)
two-long (suc m) (a ∷ b ∷ T) e = ap suc (two-long m T (omega arith))

-- ---- how many words

pub in-none : (carry : Carry) → in_words carry 0 ≡ 0
in-none Nothing = refl
in-none First = refl
in-none Consequences = refl

pub in-most : (carry : Carry) (m : ℕ) → in_words carry m ≤ 2 * m
in-most Nothing m = omega arith
in-most First m = omega arith
in-most Consequences m = omega arith

pub in-rising : (carry : Carry) (m p : ℕ) → m ≤ p → in_words carry m ≤ in_words carry p
in-rising Nothing m p l = omega arith
in-rising First m p l = l
in-rising Consequences m p l = omega arith

pub kept-beside : (carry : Carry) (p m : ℕ) (vals : List ℕ) → m ≤ p → Kept carry p m vals → Beside carry m vals
kept-beside carry p m vals l h = omega (arith, h.1, in-rising carry m p l)

pub values-long : (carry : Carry) (m : ℕ) (vals : List ℕ) → Beside carry m vals → length (values_in carry m vals) ≡ m
values-long Nothing m vals h = length-replicate m no_value
values-long First m vals h = length-map (take m vals) in_low ∙ length-take-le m vals h
values-long Consequences m vals h = two-long m (take (2 * m) vals) (length-take-le (2 * m) vals h)

-- the words behind them are none of theirs
pub values-by : (carry : Carry) (m : ℕ) (vals vals' : List ℕ) → take (in_words carry m) vals ≡ take (in_words carry m) vals' → values_in carry m vals ≡ values_in carry m vals'
values-by Nothing m vals vals' e = refl
values-by First m vals vals' e = ap (map in_low) e
values-by Consequences m vals vals' e = ap twos e

-- ---- nothing carried

same-push : (k m : ℕ) (v : Value) → k ≤ m → replicate (m + 1) v ≡ take k (replicate m v) ++ v ∷ drop k (replicate m v)
same-push k m v l = rw (add-one m) (step k m l)
  where
    step : (k m : ℕ) → k ≤ m → replicate (suc m) v ≡ take k (replicate m v) ++ v ∷ drop k (replicate m v)
    step zero m l = refl
    step (suc k) zero l = absurd (omega arith)
    step (suc k) (suc m) l = ap (λ (t : List Value). v ∷ t) (step k m (omega arith))

same-get : (m i : ℕ) (v : Value) → get_or (replicate m v) i v ≡ v
same-get zero i v = refl
same-get (suc m) zero v = refl
same-get (suc m) (suc i) v = same-get m i v

pub nothing-pushed : (p m k : ℕ) (v : Value) (vals : List ℕ) → Kept Nothing p m vals → Keeps Nothing v → k ≤ m
    → Kept Nothing p (m + 1) vals × (values_in Nothing (m + 1) vals ≡ take k (values_in Nothing m vals) ++ v ∷ drop k (values_in Nothing m vals))
nothing-pushed p m k v vals h z l = (h, rw z (same-push k m no_value l))

-- v in the place of value k
module _ (k : ℕ) (v : Value) (vs us : List Value) (l : k < length vs) where
  pub replaced : us ≡ set vs k v → us ≡ take k vs ++ v ∷ drop (k + 1) vs
  replaced e = e ∙ set_split vs k v l ∙ ap (λ (j : ℕ). take k vs ++ v ∷ drop j vs) (sym (add-one k))

pub nothing_put : (p m k : ℕ) (v : Value) (vals : List ℕ) → Kept Nothing p m vals → Keeps Nothing v → k < m
    → Kept Nothing p m vals × (values_in Nothing m vals ≡ take k (values_in Nothing m vals) ++ v ∷ drop (k + 1) (values_in Nothing m vals))
nothing_put p m k v vals h z l =
    let e : set (replicate m no_value) k no_value ≡ replicate m no_value = rw (same-get m k no_value) at (set-get_or (replicate m no_value) k no_value) in
    (h, rw z (replaced k no_value (replicate m no_value) (replicate m no_value) (omega (arith, length-replicate m no_value)) (sym e)))

pub no_value-get : (m i : ℕ) → no_value ≡ get_or (replicate m no_value) i no_value
no_value-get m i = sym (same-get m i no_value)

-- ---- one word

low-alone : (v : Value) → v.high ≡ 0 → in_low v.low ≡ v
low-alone v e = λ i. record { high = sym e i; low = v.low }

pub first-pushed : (m k : ℕ) (v : Value) (vals vals' : List ℕ) → Keeps First v → take (m + 1) vals' ≡ take k (take m vals) ++ v.low ∷ drop k (take m vals)
    → values_in First (m + 1) vals' ≡ take k (values_in First m vals) ++ v ∷ drop k (values_in First m vals)
first-pushed m k v vals vals' z e =
    ap (map in_low) e ∙ low-push k v.low (take m vals) ∙ ap (λ (u : Value). take k (map in_low (take m vals)) ++ u ∷ drop k (map in_low (take m vals))) (low-alone v z)

pub first-put : (p m k : ℕ) (v : Value) (vals : List ℕ) → Kept First p m vals → Keeps First v → k < m → m ≤ p
    → Kept First p m (set vals k v.low) × (values_in First m (set vals k v.low) ≡ take k (values_in First m vals) ++ v ∷ drop (k + 1) (values_in First m vals))
first-put p m k v vals h z l g =
    let w = word-put p m k v.low vals h l g in (
      w.0,
      replaced k v (values_in First m vals) (values_in First m (set vals k v.low)) (omega (arith, values-long First m vals (omega (arith, h.1))))
          (ap (map in_low) w.1 ∙ low-set k v.low (take m vals) ∙ ap (set (map in_low (take m vals)) k) (low-alone v z)),
    )

pub first-value : (m i : ℕ) (vals : List ℕ) → i < m → in_low (get_or vals i 0) ≡ get_or (values_in First m vals) i no_value
first-value m i vals l = sym (get_or-map in_low (take m vals) i 0 ∙ ap in_low (get_or-take m vals i 0 l))

-- ---- two words

pub both-entered : (p m k : ℕ) (v : Value) (vals vals' : List ℕ) → Kept Consequences p m vals → k ≤ m → m < p
    → KeptWords (2 * p) (2 * m + 2) vals' × (take (2 * m + 2) vals' ≡ take (2 * k) (take (2 * m) vals) ++ v.high ∷ v.low ∷ drop (2 * k) (take (2 * m) vals))
    → Kept Consequences p (m + 1) vals' × (values_in Consequences (m + 1) vals' ≡ take k (values_in Consequences m vals) ++ v ∷ drop k (values_in Consequences m vals))
both-entered p m k v vals vals' h l g f =
    let z : 2 * (m + 1) ≡ 2 * m + 2 = omega arith in (
      rw z f.0,
      rw z (ap twos f.1 ∙ two-push k v.high v.low (take (2 * m) vals) (omega (arith, length-take-le (2 * m) vals (omega (arith, h.1))))),
    )

pub both-put : (p m k : ℕ) (v : Value) (vals : List ℕ) → Kept Consequences p m vals → k < m → m ≤ p
    → Kept Consequences p m (set (set vals (2 * k) v.high) (2 * k + 1) v.low)
    × (values_in Consequences m (set (set vals (2 * k) v.high) (2 * k + 1) v.low) ≡ take k (values_in Consequences m vals) ++ v ∷ drop (k + 1) (values_in Consequences m vals))
both-put p m k v vals h l g =
    let a = word-put (2 * p) (2 * m) (2 * k) v.high vals h (omega arith) (omega arith) in
    let b = word-put (2 * p) (2 * m) (2 * k + 1) v.low (set vals (2 * k) v.high) a.0 (omega arith) (omega arith) in
    let long : length (take (2 * m) vals) ≡ 2 * m = length-take-le (2 * m) vals (omega (arith, h.1)) in (
      b.0,
      replaced k v (values_in Consequences m vals) (values_in Consequences m (set (set vals (2 * k) v.high) (2 * k + 1) v.low)) (omega (arith, two-long m (take (2 * m) vals) long))
          (ap twos (b.1 ∙ ap (λ (t : List ℕ). set t (2 * k + 1) v.low) a.1) ∙ two-set k v.high v.low (take (2 * m) vals) (omega (arith, long))),
    )

pub both-value : (m i : ℕ) (vals : List ℕ) → i < m → Beside Consequences m vals → record { high = get_or vals (2 * i) 0; low = get_or vals (2 * i + 1) 0 } ≡ get_or (values_in Consequences m vals) i no_value
both-value m i vals l h =
    sym (two-get i (take (2 * m) vals) (omega (arith, length-take-le (2 * m) vals h))
    ∙ (λ j. record { high = get_or-take (2 * m) vals (2 * i) 0 (omega arith) j; low = get_or-take (2 * m) vals (2 * i + 1) 0 (omega arith) j }))

-- the value of either of two is one that words keep
pub keeps-either : (carry : Carry) (a b : Value) → Keeps carry ((carried_by carry).either a b)
keeps-either Nothing a b = refl
keeps-either First a b = refl
keeps-either Consequences a b = tt

pub merged : (carry : Carry) (m k : ℕ) (v old new : Value) (vals vals' : List ℕ) → old ≡ get_or (values_in carry m vals) k no_value → new ≡ (carried_by carry).either v old
    → values_in carry m vals' ≡ take k (values_in carry m vals) ++ new ∷ drop (k + 1) (values_in carry m vals)
    → values_in carry m vals' ≡ take k (values_in carry m vals) ++ (carried_by carry).either v (get_or (values_in carry m vals) k no_value) ∷ drop (k + 1) (values_in carry m vals)
merged carry m k v old new vals vals' eo en e =
    e ∙ ap (λ (x : Value). take k (values_in carry m vals) ++ x ∷ drop (k + 1) (values_in carry m vals)) (en ∙ ap ((carried_by carry).either v) eo)
