-- Values whose sums may be taken in any order: the laws, and the same with "no value" as zero. Assumes nothing.
use mathlib.Core.Path.{◌≡◌, refl, sym, ap, ◌∙◌}
use Rattle.values.specs.Values.{Values, Total, none, worth, add, multiply}

-- a semiring without zero, commutative in `either`
pub record Semiring {W : Type 0} (R : Values W) : Type 0 where
  pub either-assoc : (a b c : W) → R.either (R.either a b) c ≡ R.either a (R.either b c)
  pub either-comm : (a b : W) → R.either a b ≡ R.either b a
  pub together-assoc : (a b c : W) → R.together (R.together a b) c ≡ R.together a (R.together b c)
  pub either-together : (a b c : W) → R.together (R.either a b) c ≡ R.either (R.together a c) (R.together b c)
  pub together-either : (a b c : W) → R.together a (R.either b c) ≡ R.either (R.together a b) (R.together a c)
  pub unit-together : (a : W) → R.together R.unit a ≡ a
  pub together-unit : (a : W) → R.together a R.unit ≡ a

module _ {W : Type 0} {R : Values W} (L : Semiring R) where
  pub add_assoc : (a b c : Total W) → add R (add R a b) c ≡ add R a (add R b c)
  unfolding add
  add_assoc none b c = refl
  add_assoc (worth x) none c = refl
  add_assoc (worth x) (worth y) none = refl
  add_assoc (worth x) (worth y) (worth z) = ap worth (L.either-assoc x y z)

  add_comm : (a b : Total W) → add R a b ≡ add R b a
  unfolding add
  add_comm none none = refl
  add_comm none (worth y) = refl
  add_comm (worth x) none = refl
  add_comm (worth x) (worth y) = ap worth (L.either-comm x y)

  -- the first two of three change places
  pub add_turn : (a b c : Total W) → add R a (add R b c) ≡ add R b (add R a c)
  add_turn a b c = sym (add_assoc a b c) ∙ ap (λ x. add R x c) (add_comm a b) ∙ add_assoc b a c

  pub multiply-together : (x y : W) (c : Total W) → multiply R (worth (R.together x y)) c ≡ multiply R (worth x) (multiply R (worth y) c)
  unfolding multiply
  multiply-together x y none = refl
  multiply-together x y (worth z) = ap worth (L.together-assoc x y z)

  pub multiply-either : (x y : W) (c : Total W) → multiply R (worth (R.either x y)) c ≡ add R (multiply R (worth x) c) (multiply R (worth y) c)
  unfolding add multiply
  multiply-either x y none = refl
  multiply-either x y (worth z) = ap worth (L.either-together x y z)

  pub multiply-add : (a b c : Total W) → multiply R a (add R b c) ≡ add R (multiply R a b) (multiply R a c)
  unfolding add multiply
  multiply-add none b c = refl
  multiply-add (worth x) none c = refl
  multiply-add (worth x) (worth y) none = refl
  multiply-add (worth x) (worth y) (worth z) = ap worth (L.together-either x y z)

  pub multiply-unit : (a : Total W) → multiply R a (worth R.unit) ≡ a
  unfolding multiply
  multiply-unit none = refl
  multiply-unit (worth x) = ap worth (L.together-unit x)

module _ {W : Type 0} (R : Values W) where
  pub none-add : (a : Total W) → add R none a ≡ a
  unfolding add
  none-add a = refl

  pub add_none : (a : Total W) → add R a none ≡ a
  unfolding add
  add_none none = refl
  add_none (worth x) = refl

  pub multiply-none : (a : Total W) → multiply R a none ≡ none
  unfolding multiply
  multiply-none none = refl
  multiply-none (worth x) = refl
