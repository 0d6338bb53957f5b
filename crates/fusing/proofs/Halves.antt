-- The halves of a link put in one after the other: what is left to do, how many halves that are, and how many words there are. Assumes nothing.
use mathlib.Core.Path.{◌≡◌, refl, sym, ap, ◌∙◌, subst}
use mathlib.Core.List.{List, [], ◌∷◌, map}
use Prim.Native.Nat.{ℕ, zero, suc, ◌+◌, ◌-◌, ◌*◌, ◌≤◌, ◌<◌}
use native.Mathlib.Omega.{arith}
use lib.ListN.{length, drop, get_or, drop_of_length-le}
use lib.Seq.{drop-cons}
use Rattle.expression.specs.declared.Kind.{Kind}
use Rattle.expression.specs.declared.NewAtom.{NewAtom}
use Rattle.expression.specs.declared.Command.{Command}
use Rattle.expression.specs.declared.Command.TheVariants.{Atom, Rule, Union, Relabel, Connect, Name}
use Rattle.marks.specs.Marks.{Marked}
use Rattle.batches.specs.Batches.{command_of, step, reversed, steps}
use Rattle.fusing.specs.Fusing.{IsLink, turned, half_of}

-- ---- by the command's form

module _ (K : ℕ) (c : Command) where
  -- only a link has another half
  pub connect-turned : (k : Kind) (i j : ℕ) → c ≡ Connect k i j → Connect k j i ≡ turned c
  unfolding turned
  connect-turned k i j e = rw e

  pub connect-link : (k : Kind) (i j : ℕ) → c ≡ Connect k i j → IsLink c
  connect-link k i j e = rw e tt

  pub connect-reverse : (k : Kind) (i j : ℕ) (y : List ℕ) → c ≡ Connect k i j → step K (Connect k j i) y ≡ reversed K c y
  unfolding reversed
  connect-reverse k i j y e = rw e

  pub relabel-alone : (i j : ℕ) → c ≡ Relabel i j → (c ≡ turned c) × ((y : List ℕ) → y ≡ reversed K c y)
  unfolding turned reversed
  relabel-alone i j e = rw e (refl, λ y. refl)

  pub rule-alone : (g : ℕ) → c ≡ Rule g → (c ≡ turned c) × ((y : List ℕ) → y ≡ reversed K c y)
  unfolding turned reversed
  rule-alone g e = rw e (refl, λ y. refl)

  pub atom-alone : (a : NewAtom) → c ≡ Atom a → (c ≡ turned c) × ((y : List ℕ) → y ≡ reversed K c y)
  unfolding turned reversed
  atom-alone a e = rw e (refl, λ y. refl)

  pub union-alone : c ≡ Union → (c ≡ turned c) × ((y : List ℕ) → y ≡ reversed K c y)
  unfolding turned reversed
  union-alone e = rw e (refl, λ y. refl)

  pub name-alone : (at : ℕ) → c ≡ Name at → (c ≡ turned c) × ((y : List ℕ) → y ≡ reversed K c y)
  unfolding turned reversed
  name-alone at e = rw e (refl, λ y. refl)

pub second-half : (back : ℕ) (c : Command) → (back ≡ 0 → ⊥) → half_of back c ≡ turned c
second-half zero c n = absurd (n refl)
second-half (suc b) c n = refl

-- ---- the halves left

module _ (K : ℕ) where
  pub link-reverse : (c : Command) → IsLink c → (y : List ℕ) → step K (turned c) y ≡ reversed K c y
  unfolding turned reversed
  link-reverse (Connect k i j) l y = refl
  link-reverse (Rule g) l y = absurd l
  link-reverse (Relabel i j) l y = absurd l
  link-reverse (Atom g) l y = absurd l
  link-reverse Union l y = absurd l
  link-reverse (Name at) l y = absurd l

  -- what commands make of y, where back is not 0 the other half of the first alone, then the others
  abbrev pub left : ℕ → List Command → List ℕ → List ℕ
  left zero cs y = steps K cs y
  left (suc n) [] y = y
  left (suc n) (c ∷ cs) y = steps K cs (step K (turned c) y)

  none_left : (back : ℕ) (y : List ℕ) → left back [] y ≡ y
  unfolding steps
  none_left zero y = refl
  none_left (suc n) y = refl

  -- one half d done, by which z stands: then the other one is left, or the next command
  pub half-done : (back b m : ℕ) (c d : Command) (cs : List Command) (y z : List ℕ) → back ≤ 1 → b ≤ 1 → d ≡ half_of back c → (b ≡ 1 → (back ≡ 0) × IsLink d)
      → (b ≡ 0 → back ≡ 0 → (u : List ℕ) → Marked m u → u ≡ reversed K d u) → Marked m z → z ≡ step K d y
      → left b (drop (1 - b) (c ∷ cs)) z ≡ left back (c ∷ cs) y
  unfolding steps
  half-done zero zero m c d cs y z l h i f g k e = ap (steps K cs) (g refl refl z k ∙ ap (reversed K d) e ∙ ap (λ (x : Command). reversed K x (step K x y)) i)
  half-done zero (suc zero) m c d cs y z l h i f g k e = ap (steps K cs) (link-reverse c (subst IsLink i (f refl).1) z ∙ ap (reversed K c) (e ∙ ap (λ (x : Command). step K x y) i))
  half-done (suc zero) zero m c d cs y z l h i f g k e = ap (steps K cs) (e ∙ ap (λ (x : Command). step K x y) i)
  half-done (suc zero) (suc zero) m c d cs y z l h i f g k e = absurd (omega (arith, (f refl).0))
  half-done (suc (suc n)) b m c d cs y z l h i f g k e = absurd (omega arith)
  half-done zero (suc (suc b)) m c d cs y z l h i f g k e = absurd (omega arith)
  half-done (suc zero) (suc (suc b)) m c d cs y z l h i f g k e = absurd (omega arith)

  -- the same of words
  pub next-half : (goal ops : List ℕ) (k : ℕ) → k < length ops → (back b : ℕ) → b ≤ 1 → (y z : List ℕ) → left back (map (command_of K) (drop k ops)) y ≡ goal
      → ((cs : List Command) → left b (drop (1 - b) (command_of K (get_or ops k 0) ∷ cs)) z ≡ left back (command_of K (get_or ops k 0) ∷ cs) y)
      → left b (map (command_of K) (drop (k + (1 - b)) ops)) z ≡ goal
  next-half goal ops k l back zero h y z e f =
      let e' = rw (drop-cons ops k 0 l) at e in
      let n : suc k ≡ k + (1 - 0) = omega arith in
      subst (λ (n : ℕ). left zero (map (command_of K) (drop n ops)) z ≡ goal) n (f (map (command_of K) (drop (suc k) ops)) ∙ e')
  next-half goal ops k l back (suc zero) h y z e f =
      let e' = rw (drop-cons ops k 0 l) at e in
      let n : k ≡ k + (1 - 1) = omega arith in
      subst (λ (n : ℕ). left (suc zero) (map (command_of K) (drop n ops)) z ≡ goal) n (rw (drop-cons ops k 0 l) (f (map (command_of K) (drop (suc k) ops)) ∙ e'))
  next-half goal ops k l back (suc (suc b)) h y z e f = absurd (omega arith)

  pub no-halves : (goal ops : List ℕ) (k : ℕ) → length ops ≤ k → (back : ℕ) (y : List ℕ) → left back (map (command_of K) (drop k ops)) y ≡ goal → y ≡ goal
  no-halves goal ops k l back y e = sym (none_left back y) ∙ (rw (drop_of_length-le ops {i = k} l) at e)

-- ---- how many halves are left, and how many words there are: k commands are done, and the first half of the next one where back is 1

module _ (n k back b : ℕ) (l : k < n) (h : back ≤ 1) (f : b ≡ 1 → back ≡ 0) where
  pub halves-fall : b ≤ 1 → 2 * (n - (k + (1 - b))) + (1 - b) < 2 * (n - k) + (1 - back)
  halves-fall i = step b i f
    where
      step : (b : ℕ) → b ≤ 1 → (b ≡ 1 → back ≡ 0) → 2 * (n - (k + (1 - b))) + (1 - b) < 2 * (n - k) + (1 - back)
      step zero i f = omega arith
      step (suc zero) i f = omega (arith, f refl)
      step (suc (suc b)) i f = absurd (omega arith)

  pub words-grow : (m r : ℕ) → b ≤ 1 → m ≤ 2 * k + back → r ≤ m + 1 → (r ≤ 2 * (k + (1 - b)) + b) × (2 * (k + (1 - b)) + b ≤ 2 * n)
  words-grow m r i u v = step b i f
    where
      step : (b : ℕ) → b ≤ 1 → (b ≡ 1 → back ≡ 0) → (r ≤ 2 * (k + (1 - b)) + b) × (2 * (k + (1 - b)) + b ≤ 2 * n)
      step zero i f = (omega arith, omega arith)
      step (suc zero) i f = let z = f refl in (omega arith, omega arith)
      step (suc (suc b)) i f = absurd (omega arith)
