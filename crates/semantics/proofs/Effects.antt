-- A command does to any stack what its effect says; how deep the stack is then. Assumes nothing.
use mathlib.Core.Path.{◌≡◌, refl, ap, ◌∙◌}
use mathlib.Core.List.{List, [], ◌∷◌}
use Prim.Native.Nat.{ℕ, ◌≤◌}
use native.Mathlib.Omega.{arith}
use lib.ListN.{length}
use Rattle.expression.specs.declared.Command.{Command}
use Rattle.expression.specs.declared.Command.TheVariants.{Atom, Rule, Union, Relabel, Connect, Name}
use Rattle.expression.specs.declared.Effect.{Effect}
use Rattle.expression.specs.declared.Effect.TheVariants.{Push, Unite, Change, Pass}
use Rattle.expression.specs.Effects.{effect, operands_by, depth_by}
use Rattle.expression.specs.Reading.{depth_after}
use Rattle.semantics.specs.Expressions.{Operations, unite_newest, change_newest, link, act}

module _ {Y : Type 0} where
  -- what f makes of a stack
  abbrev pub Does : Effect → (List Y → List Y) → Type 0
  Does (Push l) f = (y : Y) × ((ys : List Y) → f ys ≡ y ∷ ys)
  Does Unite f = (g : Y → Y → Y) × ((ys : List Y) → f ys ≡ unite_newest g ys)
  Does Change f = (g : Y → Y) × ((ys : List Y) → f ys ≡ change_newest g ys)
  Does Pass f = (ys : List Y) → f ys ≡ ys

  pub act-does : (B : Operations Y) (n : ℕ) (c : Command) → Does (effect c) (act B n c)
  unfolding act effect
  act-does B n (Atom g) = (B.atom_op n g, λ ys. refl)
  act-does B n (Rule g) = (B.rule_op g, λ ys. refl)
  act-does B n Union = (B.union_op, λ ys. refl)
  act-does B n (Relabel i j) = (B.relabel_op i j, λ ys. refl)
  act-does B n (Connect k i j) = (link B k i j, λ ys. refl)
  act-does B n (Name at) = λ ys. refl

  -- ---- how deep the stack is then

  unite-long : (g : Y → Y → Y) (ys : List Y) → 2 ≤ length ys → length (unite_newest g ys) ≡ depth_by Unite (length ys)
  unfolding unite_newest
  unite-long g [] l = absurd (omega arith)
  unite-long g (b ∷ []) l = absurd (omega arith)
  unite-long g (b ∷ a ∷ ys) l = omega arith

  change-long : (g : Y → Y) (ys : List Y) → length (change_newest g ys) ≡ length ys
  unfolding change_newest
  change-long g [] = refl
  change-long g (y ∷ ys) = refl

  does-deep : (e : Effect) (f : List Y → List Y) → Does e f → (ys : List Y) → operands_by e ≤ length ys → length (f ys) ≡ depth_by e (length ys)
  does-deep (Push l) f d ys h = ap length (d.1 ys) ∙ omega arith
  does-deep Unite f d ys h = ap length (d.1 ys) ∙ unite-long d.0 ys h
  does-deep Change f d ys h = ap length (d.1 ys) ∙ change-long d.0 ys
  does-deep Pass f d ys h = ap length (d ys)

  pub act-deep : (B : Operations Y) (n : ℕ) (c : Command) (ys : List Y) → operands_by (effect c) ≤ length ys → length (act B n c ys) ≡ depth_after (length ys) c
  act-deep B n c ys h = does-deep (effect c) (act B n c) (act-does B n c) ys h

  -- ---- a stack that has operands keeps one, whether the command has all of its own or not

  unite-some : (g : Y → Y → Y) (ys : List Y) → 1 ≤ length ys → 1 ≤ length (unite_newest g ys)
  unfolding unite_newest
  unite-some g [] l = l
  unite-some g (b ∷ []) l = l
  unite-some g (b ∷ a ∷ ys) l = omega arith

  does-some : (e : Effect) (f : List Y → List Y) → Does e f → (ys : List Y) → 1 ≤ length ys → 1 ≤ length (f ys)
  does-some (Push l) f d ys h = omega (arith, ap length (d.1 ys))
  does-some Unite f d ys h = omega (arith, ap length (d.1 ys), unite-some d.0 ys h)
  does-some Change f d ys h = omega (arith, ap length (d.1 ys), change-long d.0 ys)
  does-some Pass f d ys h = omega (arith, ap length (d ys))

  pub act-some : (B : Operations Y) (n : ℕ) (c : Command) (ys : List Y) → 1 ≤ length ys → 1 ≤ length (act B n c ys)
  act-some B n c ys h = does-some (effect c) (act B n c) (act-does B n c) ys h
