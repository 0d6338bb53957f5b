-- Commands of a batch: what a word stands for, and what they make of triples one after the other. Assumes nothing.
use mathlib.Core.Path.{◌≡◌, refl, ap, ◌∙◌}
use mathlib.Core.Bool.{Bool, true, false, cond}
use mathlib.Core.List.{List, [], ◌∷◌, map}
use Prim.Native.Nat.{ℕ, zero, suc, ◌+◌, ◌-◌, ◌*◌, ◌/◌, ◌%◌, ◌^◌, ◌≤◌, ◌<◌, min}
use native.Mathlib.Nat.{zero-mul, one-mul, not-suc-le-zero, le_of_suc-le-suc, min-le_right, min-eq_left, pow-suc}
use native.Mathlib.Omega.{arith}
use lib.Bits.{bit_or}
use lib.Arith.{digits_div, digits_mod}
use lib.Pow.{pow_pos, shl_exact}
use lib.Dec.{eqb}
use borrow.Author.Tests.{eq-eqb, ne_eqb}
use lib.ListN.{length, get_or}
use Rattle.expression.specs.declared.Kind.{Kind}
use Rattle.expression.specs.declared.Kind.TheVariants.{Head, Positive, Negative}
use Rattle.expression.specs.declared.NewAtom.{NewAtom}
use Rattle.expression.specs.declared.Command.{Command}
use Rattle.expression.specs.declared.Command.TheVariants.{Atom, Rule, Union, Relabel, Connect, Name}
use Rattle.expression.specs.Commands.{Suits}
use Rattle.expression.specs.Effects.{effect}
use Rattle.tables.specs.Triples.{mark_u}
use Rattle.candidates.specs.Candidates.{map_triple}
use Rattle.batches.specs.Batches.{Joins, label_in, formed, command_of, step_triple}

-- the labels of a word are below K
suits-formed : (K f i j : ℕ) → i < K → j < K → Suits K (formed f i j)
unfolding formed Suits
suits-formed K f i j a b = go (eqb f 0) (eqb f 1) (eqb f 2) (eqb f 3)
  where
    go : (x y z v : Bool) → Suits K (cond x (Rule j) (cond y (Relabel i j) (cond z (Connect Head i j) (cond v (Connect Positive i j) (Connect Negative i j)))))
    go true y z v = b
    go false true z v = (a, b)
    go false false true v = (a, b)
    go false false false true = (a, b)
    go false false false false = (a, b)

pub in-labels : (K : ℕ) → 0 < K → (x : ℕ) → label_in K x < K
unfolding label_in
in-labels K l x = omega (arith, min-le_right (x % 2 ^ K) (K - 1), l)

pub suits-word : (K : ℕ) → 0 < K → (w : ℕ) → Suits K (command_of K w)
unfolding command_of
suits-word K l w = suits-formed K (w / 2 ^ K / 2 ^ K) (label_in K (w / 2 ^ K)) (label_in K w) (in-labels K l (w / 2 ^ K)) (in-labels K l w)

-- a word's command, by the tests in order
module _ (K w i j : ℕ) (ei : i ≡ label_in K (w / 2 ^ K)) (ej : j ≡ label_in K w) where
  abbrev form : ℕ
  form = w / 2 ^ K / 2 ^ K

  pub is-rule : form ≡ 0 → Rule j ≡ command_of K w
  unfolding command_of formed
  is-rule e = rw (ej, eq-eqb form 0 e)

  module _ (a : form ≡ 0 → ⊥) where
    pub is-relabel : form ≡ 1 → Relabel i j ≡ command_of K w
    unfolding command_of formed
    is-relabel e = rw (ei, ej, ne_eqb form 0 a, eq-eqb form 1 e)

    module _ (b : form ≡ 1 → ⊥) where
      pub is-head : form ≡ 2 → Connect Head i j ≡ command_of K w
      unfolding command_of formed
      is-head e = rw (ei, ej, ne_eqb form 0 a, ne_eqb form 1 b, eq-eqb form 2 e)

      module _ (d : form ≡ 2 → ⊥) where
        pub is_positive : form ≡ 3 → Connect Positive i j ≡ command_of K w
        unfolding command_of formed
        is_positive e = rw (ei, ej, ne_eqb form 0 a, ne_eqb form 1 b, ne_eqb form 2 d, eq-eqb form 3 e)

        pub is_negative : (form ≡ 3 → ⊥) → Connect Negative i j ≡ command_of K w
        unfolding command_of formed
        is_negative e = rw (ei, ej, ne_eqb form 0 a, ne_eqb form 1 b, ne_eqb form 2 d, ne_eqb form 3 e)

-- every label is below the number of sets, so it is a digit
pub digit-fits : (K g : ℕ) → g < K → g < 2 ^ K
digit-fits zero g l = elim l [ ]
digit-fits (suc K) zero l = pow_pos (suc K)
digit-fits (suc K) (suc g) l = let h = digit-fits K g (le_of_suc-le-suc l) in omega (arith, h, pow-suc 2 K)

-- the label in a number's lowest digit
pub label-in : (K x g : ℕ) → g < K → label_in K (x * 2 ^ K + g) ≡ g
unfolding label_in
label-in K x g l = ap (λ y. min y (K - 1)) (digits_mod x (digit-fits K g l)) ∙ min-eq_left (omega arith)

-- the word of a form and two labels
pub word-is : (K f i j w : ℕ) → i < K → j < K → w ≡ (f * 2 ^ K + i) * 2 ^ K + j → command_of K w ≡ formed f i j
unfolding command_of
word-is K f i j w a b e = rw (e, digits_div (f * 2 ^ K + i) (digit-fits K j b), digits_div f (digit-fits K i a), label-in K (f * 2 ^ K + i) j b, label-in K f i a)

module _ (K i j w : ℕ) (a : i < K) (b : j < K) where
  pub head-word : w ≡ (2 * 2 ^ K + i) * 2 ^ K + j → command_of K w ≡ Connect Head i j
  unfolding formed
  head-word e = word-is K 2 i j w a b e

  pub positive-word : w ≡ (3 * 2 ^ K + i) * 2 ^ K + j → command_of K w ≡ Connect Positive i j
  unfolding formed
  positive-word e = word-is K 3 i j w a b e

  pub negative-word : w ≡ (4 * 2 ^ K + i) * 2 ^ K + j → command_of K w ≡ Connect Negative i j
  unfolding formed
  negative-word e = word-is K 4 i j w a b e

  pub relabel-word : w ≡ (1 * 2 ^ K + i) * 2 ^ K + j → command_of K w ≡ Relabel i j
  unfolding formed
  relabel-word e = word-is K 1 i j w a b e

pub rule-word : (K g : ℕ) → g < K → command_of K g ≡ Rule g
unfolding formed
rule-word K g b = word-is K 0 0 g g (omega (arith, b)) b (rw (zero-mul (2 ^ K)) (omega arith))

-- what no batch has
module _ {c : Command} where
  pub no-atom : (a : NewAtom) → c ≡ Atom a → Joins c → ⊥
  unfolding effect
  no-atom g e h = rw e at h

  pub no-union : c ≡ Union → Joins c → ⊥
  unfolding effect
  no-union e h = rw e at h

  pub no_name : (at : ℕ) → c ≡ Name at → Joins c → ⊥
  unfolding effect
  no_name at e h = rw e at h

-- a step, by the command's form
module _ (K : ℕ) (c : Command) where
  pub rule-label : {g : ℕ} → c ≡ Rule g → Suits K c → g < K
  unfolding Suits
  rule-label e h = rw e at h

  pub rule-steps : (g q r : ℕ) → c ≡ Rule g → bit_or r (mark_u K g) ≡ step_triple K c q r
  unfolding step_triple
  rule-steps g q r e = rw e

  pub relabel-steps : (i j q r : ℕ) → c ≡ Relabel i j → map_triple K c q r ≡ step_triple K c q r
  unfolding step_triple map_triple
  relabel-steps i j q r e = rw e

  pub connect-steps : (k : Kind) (i j q r : ℕ) → c ≡ Connect k i j → map_triple K c q r ≡ step_triple K c q r
  unfolding step_triple map_triple
  connect-steps k i j q r e = rw e

  pub atom-steps : (a : NewAtom) (q r : ℕ) → c ≡ Atom a → r ≡ step_triple K c q r
  unfolding step_triple
  atom-steps g q r e = rw e

  pub union-steps : (q r : ℕ) → c ≡ Union → r ≡ step_triple K c q r
  unfolding step_triple
  union-steps q r e = rw e

  pub name-steps : (at q r : ℕ) → c ≡ Name at → r ≡ step_triple K c q r
  unfolding step_triple
  name-steps at q r e = rw e

-- one mark in a word of w digits
pub mark-is : (n w : ℕ) → n < w → (1 * 2 ^ n) % 2 ^ w ≡ 2 ^ n
mark-is n w l = shl_exact 1 n w (omega arith) (omega arith) ∙ one-mul (2 ^ n)

-- the mark of a rule in a word of w digits
pub marked : (K w r g : ℕ) → 3 * K ≤ w → g < K → bit_or r ((1 * 2 ^ (2 * K + g)) % 2 ^ w) ≡ bit_or r (mark_u K g)
unfolding mark_u
marked K w r g h l = ap (bit_or r) (mark-is (2 * K + g) w (omega arith))

-- a list mapped, place by place
pub map_read : (f : ℕ → ℕ) (l : List ℕ) (i : ℕ) → i < length l → get_or (map f l) i 0 ≡ f (get_or l i 0)
map_read f [] i h = absurd (not-suc-le-zero h)
map_read f (x ∷ l) zero h = refl
map_read f (x ∷ l) (suc i) h = map_read f l i (le_of_suc-le-suc h)
