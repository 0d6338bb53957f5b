-- The words of a leaf: its marks, its row, its value. Assumes nothing.
use mathlib.Core.Path.{◌≡◌, refl, ◌∙◌}
use mathlib.Core.List.{List, [], ◌∷◌}
use Prim.Native.Nat.{ℕ, ◌+◌, ◌*◌, ◌%◌, ◌^◌, ◌≤◌, ◌<◌}
use native.Mathlib.Nat.{one-mul}
use native.Mathlib.Omega.{arith}
use lib.ListN.{length, set}
use lib.Pow.{shl_exact}
use Rattle.labels.specs.Labels.{label_count}
use Rattle.expression.specs.declared.Role.TheVariants.{Derived, External}
use Rattle.expression.specs.declared.NewAtom.{NewAtom}
use Rattle.tables.specs.Triples.{mark_t, mark_f, mark_u}
use Rattle.tables.specs.Definitions.{pairs, flat}
use Rattle.values.specs.Values.{no_value}
use Rattle.values.specs.Consequences.{consequences}
use Rattle.candidates.specs.Candidates.{pair_of, Readable}
use Rattle.entries.specs.declared.Carry.{Carry}
use Rattle.entries.specs.declared.Carry.TheVariants.{Nothing, First, Consequences}
use Rattle.entries.specs.Carries.{carried_by, Keeps}
use Rattle.leaves.specs.declared.Tables.{Tables}
use Rattle.leaves.specs.declared.Tables.TheVariants.{Plain, Pairs}
use Rattle.leaves.specs.Leaves.{algebra_of, Wide}

-- one mark in a word of k digits
pub mark-is : (m k : ℕ) → m < k → (1 * 2 ^ m) % 2 ^ k ≡ 2 ^ m
mark-is m k l = shl_exact 1 m k (omega arith) (omega arith) ∙ one-mul (2 ^ m)

-- ---- rows

pub triple-written : (row : List ℕ) (q : ℕ) → 2 ≤ length row → Readable (set (set row 0 q) 1 0) × (pair_of (set (set row 0 q) 1 0) ≡ q ∷ [])
unfolding pair_of
triple-written [] q l = absurd (omega arith)
triple-written (x ∷ []) q l = absurd (omega arith)
triple-written (x ∷ y ∷ row) q l = (omega arith, refl)

pub subset-written : (row : List ℕ) (q s : ℕ) → 3 ≤ length row → Readable (set (set (set row 0 q) 1 1) 2 s) × (pair_of (set (set (set row 0 q) 1 1) 2 s) ≡ q ∷ s ∷ [])
unfolding pair_of
subset-written [] q s l = absurd (omega arith)
subset-written (x ∷ []) q s l = absurd (omega arith)
subset-written (x ∷ y ∷ []) q s l = absurd (omega arith)
subset-written (x ∷ y ∷ z ∷ row) q s l = (omega arith, refl)

-- ---- pairs

-- room for a triple, and for a subset in tables of pairs
pub wide-two : (tables : Tables) (w : ℕ) → Wide tables w → 2 ≤ w
wide-two Plain w l = l
wide-two Pairs w l = omega arith

-- any row of three words has room
pub wide-three : (tables : Tables) (w : ℕ) → 3 ≤ w → Wide tables w
wide-three Plain w l = omega arith
wide-three Pairs w l = l

pub pairs-three : (tables : Tables) (w : ℕ) → tables ≡ Pairs → Wide tables w → 3 ≤ w
pairs-three Plain w e l = let q : ◌≡◌ {A = ℕ} 0 1 = cc in absurd (omega arith)
pairs-three Pairs w e l = l

-- what an atom that is in, one that is out, and a rule are
module _ (tables : Tables) (c : ℕ) (a : NewAtom) where
  pub plain-present : tables ≡ Plain → 2 ^ a.label ∷ [] ≡ (algebra_of tables label_count).present c a
  unfolding algebra_of flat mark_t
  plain-present e = rw e

  pub derived-present : tables ≡ Pairs → a.role ≡ Derived → 2 ^ a.label ∷ 2 ^ (label_count + a.label) ∷ [] ≡ (algebra_of tables label_count).present c a
  unfolding algebra_of pairs mark_t mark_f
  derived-present e r = rw (e, r)

  pub external-present : tables ≡ Pairs → a.role ≡ External → 2 ^ a.label ∷ [] ≡ (algebra_of tables label_count).present c a
  unfolding algebra_of pairs mark_t
  external-present e r = rw (e, r)

pub absent-is : (tables : Tables) (c : ℕ) (a : NewAtom) → mark_f label_count a.label ∷ [] ≡ (algebra_of tables label_count).absent c a
unfolding algebra_of flat pairs
absent-is Plain c a = refl
absent-is Pairs c a = refl

pub unmet-is : (tables : Tables) (g : ℕ) → mark_u label_count g ∷ [] ≡ (algebra_of tables label_count).unmet g
unfolding algebra_of flat pairs
unmet-is Plain g = refl
unmet-is Pairs g = refl

-- ---- values

-- words keep them
pub keeps-present : (carry : Carry) (c : ℕ) → Keeps carry ((carried_by carry).present c)
keeps-present Nothing c = refl
keeps-present First c = refl
keeps-present Consequences c = tt

pub keeps-zero : (carry : Carry) → Keeps carry no_value
keeps-zero Nothing = refl
keeps-zero First = refl
keeps-zero Consequences = tt

-- an atom that is out has none, and no rule has one
pub absent-value : (carry : Carry) (c : ℕ) → (carried_by carry).absent c ≡ no_value
unfolding consequences
absent-value Nothing c = refl
absent-value First c = refl
absent-value Consequences c = refl

pub unit-value : (carry : Carry) → (carried_by carry).unit ≡ no_value
unfolding consequences
unit-value Nothing = refl
unit-value First = refl
unit-value Consequences = refl
