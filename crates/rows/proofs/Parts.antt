-- A part of a list, and a list with a part put in. Assumes nothing.
use mathlib.Core.Path.{◌≡◌, sym, ap, ◌∙◌}
use mathlib.Core.List.{List, [], ◌∷◌, ◌++◌, append_assoc}
use Prim.Native.Nat.{ℕ, ◌+◌, ◌-◌, ◌≤◌}
use native.Mathlib.Omega.{arith}
use native.Mathlib.Nat.{zero-add, suc-add}
use lib.ListN.{length-replicate, replicate-append-replicate, set, length, take, drop, length-append, length-take, length-drop, take-append-drop}
use lib.Seq.{take_at, drop_at, length-take-le, take-append-le, drop-append-le, drop-append-add, take-take, take-add, drop-drop}
use Rattle.rows.specs.Parts.{part, put, zeros}

-- how long the range of k words from a on is
pub span : (a k : ℕ) → a + k - a ≡ k
span a k = omega arith

pub part-long : (a k : ℕ) (xs : List ℕ) → a + k ≤ length xs → length (part a k xs) ≡ k
part-long a k xs l = length-take-le k (drop a xs) (simp length-drop (omega arith))

pub put-long : (a k : ℕ) (xs ys : List ℕ) → a + k ≤ length xs → length ys ≡ k → length (put a k xs ys) ≡ length xs
put-long a k xs ys l e = simp (length-append, length-take, length-drop) (omega arith)

pub part-put : (a k : ℕ) (xs ys : List ℕ) → a ≤ length xs → length ys ≡ k → part a k (put a k xs ys) ≡ ys
part-put a k xs ys l e = rw (drop_at (take a xs) (ys ++ drop k (drop a xs)) a (length-take-le a xs l)) (take_at ys (drop k (drop a xs)) k e)

pub put-put : (a k : ℕ) (xs ys zs : List ℕ) → a ≤ length xs → length ys ≡ k → put a k (put a k xs ys) zs ≡ put a k xs zs
put-put a k xs ys zs l e =
    rw (take_at (take a xs) (ys ++ drop k (drop a xs)) a (length-take-le a xs l), drop_at (take a xs) (ys ++ drop k (drop a xs)) a (length-take-le a xs l), drop_at ys (drop k (drop a xs)) k e)

pub put-part : (a k : ℕ) (xs : List ℕ) → put a k xs (part a k xs) ≡ xs
put-part a k xs = rw (take-append-drop k (drop a xs)) (take-append-drop a xs)

drop-take : (k m : ℕ) (l : List ℕ) → k ≤ length l → drop k (take (k + m) l) ≡ take m (drop k l)
drop-take k m l h = rw (take-add k m l) (drop_at (take k l) (take m (drop k l)) k (length-take-le k l h))

-- a part below the one that is put in
pub part_low : (a k b l : ℕ) (xs ys : List ℕ) → a + k ≤ b → b ≤ length xs → part a k (put b l xs ys) ≡ part a k xs
part_low a k b l xs ys h m =
    let long : length (take b xs) ≡ b = length-take-le b xs m in
    let eb : a + (b - a) ≡ b = omega arith in
    let front : drop a (take b xs) ≡ take (b - a) (drop a xs) = ap (λ (j : ℕ). drop a (take j xs)) (sym eb) ∙ drop-take a (b - a) xs (omega arith) in
    rw (drop-append-le a (take b xs) (ys ++ drop l (drop b xs)) (omega arith), take-append-le k (drop a (take b xs)) (ys ++ drop l (drop b xs)) (simp length-drop (omega arith)), front)
    (take-take k (b - a) (drop a xs) (omega arith))

-- a part put into a list that is split there, and the part there
pub put-at : (a k : ℕ) (p q r ys : List ℕ) → length p ≡ a → length q ≡ k → put a k (p ++ (q ++ r)) ys ≡ p ++ (ys ++ r)
put-at a k p q r ys e f = rw (take_at p (q ++ r) a e, drop_at p (q ++ r) a e, drop_at q r k f)

pub part_at : (a k : ℕ) (p q r : List ℕ) → length p ≡ a → length q ≡ k → part a k (p ++ (q ++ r)) ≡ q
part_at a k p q r e f = rw (drop_at p (q ++ r) a e, take_at q r k f)

-- a list as a front, two parts with something between, and the rest
split : (a k b l : ℕ) (xs : List ℕ) → a + k ≤ b → b + l ≤ length xs
    → xs ≡ take a xs ++ (part a k xs ++ (part (a + k) (b - (a + k)) xs ++ (part b l xs ++ drop l (drop b xs))))
split a k b l xs h m =
    let eb : a + k + (b - (a + k)) ≡ b = omega arith in
    let last : drop b xs ≡ part b l xs ++ drop l (drop b xs) = sym (take-append-drop l (drop b xs)) in
    let mid : drop (a + k) xs ≡ part (a + k) (b - (a + k)) xs ++ drop b xs =
    sym (take-append-drop (b - (a + k)) (drop (a + k) xs)) ∙ ap (λ (t : List ℕ). part (a + k) (b - (a + k)) xs ++ t) (drop-drop (b - (a + k)) (a + k) xs ∙ ap (λ (j : ℕ). drop j xs) eb) in
    let first : drop a xs ≡ part a k xs ++ drop (a + k) xs = sym (take-append-drop k (drop a xs)) ∙ ap (λ (t : List ℕ). part a k xs ++ t) (drop-drop k a xs) in
    sym (take-append-drop a xs) ∙ ap (λ (t : List ℕ). take a xs ++ t) (first ∙ ap (λ (t : List ℕ). part a k xs ++ t) (mid ∙ ap (λ (t : List ℕ). part (a + k) (b - (a + k)) xs ++ t) last))

comm : (a k b l : ℕ) (p q m r s ys zs : List ℕ) → length p ≡ a → length q ≡ k → length m ≡ b - (a + k) → length r ≡ l → a + k ≤ b → length ys ≡ k
    → put b l (put a k (p ++ (q ++ (m ++ (r ++ s)))) ys) zs ≡ put a k (put b l (p ++ (q ++ (m ++ (r ++ s)))) zs) ys
comm a k b l p q m r s ys zs ep eq em er h ey =
    let e1 : put a k (p ++ (q ++ (m ++ (r ++ s)))) ys ≡ (p ++ (ys ++ m)) ++ (r ++ s) = put-at a k p q (m ++ (r ++ s)) ys ep eq ∙ simp append_assoc in
    let e2 : p ++ (q ++ (m ++ (r ++ s))) ≡ (p ++ (q ++ m)) ++ (r ++ s) = simp append_assoc in
    let l1 : length (p ++ (ys ++ m)) ≡ b = simp length-append (omega arith) in
    let l2 : length (p ++ (q ++ m)) ≡ b = simp length-append (omega arith) in
    ap (λ (t : List ℕ). put b l t zs) e1 ∙ put-at b l (p ++ (ys ++ m)) r s zs l1 er
    ∙ sym (ap (λ (t : List ℕ). put a k (put b l t zs) ys) e2
    ∙ ap (λ (t : List ℕ). put a k t ys) (put-at b l (p ++ (q ++ m)) r s zs l2 er ∙ simp append_assoc)
    ∙ put-at a k p q (m ++ (zs ++ s)) ys ep eq ∙ simp append_assoc)

-- two parts that lie apart are put in in either order
pub put-comm : (a k b l : ℕ) (xs ys zs : List ℕ) → a + k ≤ b → b + l ≤ length xs → length ys ≡ k → put b l (put a k xs ys) zs ≡ put a k (put b l xs zs) ys
put-comm a k b l xs ys zs h m ey =
    ap (λ (t : List ℕ). put b l (put a k t ys) zs) (split a k b l xs h m)
    ∙ comm a k b l (take a xs) (part a k xs) (part (a + k) (b - (a + k)) xs) (part b l xs) (drop l (drop b xs)) ys zs
    (length-take-le a xs (omega arith)) (part-long a k xs (omega arith)) (part-long (a + k) (b - (a + k)) xs (omega arith)) (part-long b l xs m) h ey
    ∙ sym (ap (λ (t : List ℕ). put a k (put b l t zs) ys) (split a k b l xs h m))

set-add : (p q : List ℕ) (i v : ℕ) → set (p ++ q) (length p + i) v ≡ p ++ set q i v
set-add [] q i v = rw (zero-add i)
set-add (x ∷ p) q i v = rw (suc-add (length p) i) (ap (λ (t : List ℕ). x ∷ t) (set-add p q i v))

-- a part of a part
pub part-part : (b n a k : ℕ) (xs : List ℕ) → a + k ≤ n → b + n ≤ length xs → part a k (part b n xs) ≡ part (b + a) k xs
part-part b n a k xs h m =
    ap (take k) (ap (λ (j : ℕ). drop a (take j (drop b xs))) (let z : n ≡ a + (n - a) = omega arith in z) ∙ drop-take a (n - a) (drop b xs) (simp length-drop (omega arith)))
    ∙ take-take k (n - a) (drop a (drop b xs)) (omega arith) ∙ ap (take k) (drop-drop a b xs)

-- a part above the one that is put in
pub part-high : (a k b l : ℕ) (xs ys : List ℕ) → b + l ≤ a → a + k ≤ length xs → length ys ≡ l → part a k (put b l xs ys) ≡ part a k xs
part-high a k b l xs ys h m e =
    let long : length (take b xs) ≡ b = length-take-le b xs (omega arith) in
    let t : ℕ = a - (b + l) in
    ap (take k) (ap (λ (j : ℕ). drop j (put b l xs ys)) (let z : a ≡ length (take b xs) + (length ys + t) = omega (arith, long) in z)
    ∙ drop-append-add (take b xs) (ys ++ drop l (drop b xs)) (length ys + t) ∙ drop-append-add ys (drop l (drop b xs)) t
    ∙ drop-drop t l (drop b xs) ∙ drop-drop (l + t) b xs ∙ ap (λ (j : ℕ). drop j xs) (let z : b + (l + t) ≡ a = omega arith in z))

-- a part put into a part that is put in
pub put-inner : (b n a k : ℕ) (xs ts ys : List ℕ) → b ≤ length xs → length ts ≡ n → a + k ≤ n → put (b + a) k (put b n xs ts) ys ≡ put b n xs (put a k ts ys)
put-inner b n a k xs ts ys l e h =
    let X : List ℕ = take b xs in
    let R : List ℕ = drop n (drop b xs) in
    let lx : length X ≡ b = length-take-le b xs l in
    let la : length (take a ts) ≡ a = length-take-le a ts (omega arith) in
    let lk : length (part a k ts) ≡ k = part-long a k ts (omega arith) in
    let split : X ++ (ts ++ R) ≡ (X ++ take a ts) ++ (part a k ts ++ (drop k (drop a ts) ++ R)) =
    ap (λ (t : List ℕ). X ++ (t ++ R)) (sym (put-part a k ts)) ∙ simp append_assoc in
    ap (λ (t : List ℕ). put (b + a) k t ys) split
    ∙ put-at (b + a) k (X ++ take a ts) (part a k ts) (drop k (drop a ts) ++ R) ys (length-append X (take a ts) ∙ omega (arith, lx, la)) lk
    ∙ simp append_assoc

-- ---- zeros

pub zeros-long : (n : ℕ) → length (zeros n) ≡ n
zeros-long n = length-replicate n 0

pub drop-zeros : (m n : ℕ) → m ≤ n → drop m (zeros n) ≡ zeros (n - m)
drop-zeros m n l =
    let e : n ≡ m + (n - m) = omega arith in
    ap (λ (j : ℕ). drop m (zeros j)) e
    ∙ ap (λ (t : List ℕ). drop m t) (sym (replicate-append-replicate m (n - m) 0))
    ∙ drop_at (zeros m) (zeros (n - m)) m (zeros-long m)

pub zeros-append : (m n : ℕ) → zeros m ++ zeros n ≡ zeros (m + n)
zeros-append m n = replicate-append-replicate m n 0
