-- Values carried beside the entries of a table, and sums of values over interpretations. Assumes nothing.
use Rattle.std.specs.Prelude.{cond, List, [], ◌∷◌, ℕ}
use Rattle.semantics.specs.Expressions.{Expr}
use Rattle.semantics.specs.Programs.{numbers}
use Rattle.semantics.specs.AnswerSets.{Interpretation, of_list}
use Rattle.tables.specs.Algebras.{Algebra, entry}
use Rattle.values.specs.declared.Value.{Value}

-- the value of no atom; of two interpretations, one or the other; of two parts of one interpretation; of an atom that is in; of one that is out
pub record Values (W : Type 0) : Type 0 where
  pub unit : W
  pub either : W → W → W
  pub together : W → W → W
  pub present : ℕ → W
  pub absent : ℕ → W

pub record Valued (X W : Type 0) : Type 0 where
  pub item : X
  pub value : W

-- entries with values are an algebra: values go together at a union, and merge where equal entries meet
unfoldable pub valued : {X W : Type 0} → Algebra X → Values W → Algebra (Valued X W)
valued A R = record {
  present = λ c g. record { item = A.present c g; value = R.present c };
  absent = λ c g. record { item = A.absent c g; value = R.absent c };
  unmet = λ g. record { item = A.unmet g; value = R.unit };
  united = λ x y. record { item = A.united x.item y.item; value = R.together x.value y.value };
  relabelled = λ i j x. record { item = A.relabelled i j x.item; value = x.value };
  connected = λ k i j x. record { item = A.connected k i j x.item; value = x.value };
  order = λ x y. A.order x.item y.item;
  merge = λ x y. record { item = y.item; value = R.either x.value y.value };
}

-- the value of an interpretation of the atoms xs
unfoldable pub value_of : {W : Type 0} → Values W → List ℕ → Interpretation → W
value_of R [] p = R.unit
value_of R (c ∷ cs) p = R.together (cond (p c) (R.present c) (R.absent c)) (value_of R cs p)

-- ---- values in words

abbrev pub no_value : Value
no_value = record { high = 0; low = 0 }

abbrev pub in_low : ℕ → Value
in_low x = record { high = 0; low = x }

-- numbers as low words keep them
abbrev pub low_words : Values ℕ → Values Value
low_words R = record {
  unit = in_low R.unit;
  either = λ a b. in_low (R.either a.low b.low);
  together = λ a b. in_low (R.together a.low b.low);
  present = λ c. in_low (R.present c);
  absent = λ c. in_low (R.absent c);
}

-- an entry with the number in the low word of its value
abbrev pub lowered : {X : Type 0} → Valued X Value → Valued X ℕ
lowered x = record { item = x.item; value = x.value.low }

-- ---- sums: of none there is no value

pub data Total (W : Type 0) : Type 0 where
  none : Total W
  worth : W → Total W

module _ {W : Type 0} (R : Values W) where
  unfoldable pub add : Total W → Total W → Total W
  add none b = b
  add (worth x) none = worth x
  add (worth x) (worth y) = worth (R.either x y)

  unfoldable pub multiply : Total W → Total W → Total W
  multiply none b = none
  multiply (worth x) none = none
  multiply (worth x) (worth y) = worth (R.together x y)

  -- over a table with values, each times a factor that goes by its entry
  unfoldable pub sum_by : {X : Type 0} → (X → Total W) → List (Valued X W) → Total W
  sum_by φ [] = none
  sum_by φ (x ∷ xs) = add (multiply (worth x.value) (φ x.item)) (sum_by φ xs)

  -- over interpretations, each times a factor that goes by its entry
  unfoldable pub sum_over : {X : Type 0} → Algebra X → (X → Total W) → Expr → List (List ℕ) → Total W
  sum_over A φ e [] = none
  sum_over A φ e (l ∷ ls) = add (multiply (worth (value_of R (numbers e) (of_list l))) (φ (entry A e (of_list l)))) (sum_over A φ e ls)
