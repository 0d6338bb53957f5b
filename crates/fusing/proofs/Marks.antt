-- Marks that triples may have, through commands; a connect does nothing where they have no unmet rule, or no atom, for it. Assumes nothing.
use mathlib.Core.Path.{◌≡◌, refl, sym, ap, ap₂, ◌∙◌}
use mathlib.Core.Bool.{Bool, true, false, cond, not, ◌&&◌, ◌||◌, or-true, true≢false}
use mathlib.Core.Logic.{◌⊎◌, inl, inr}
use mathlib.Core.List.{List, [], ◌∷◌, map}
use Prim.Native.Nat.{ℕ, ◌+◌, ◌-◌, ◌*◌, ◌^◌}
use lib.Bits.{bit_or}
use lib.Dec.{eqb}
use Rattle.lists.specs.Lists.{All}
use Rattle.lists.proofs.Members.{and_both, or-either, not-true-false, all_map}
use Rattle.labels.specs.Sets.{has, without, replace, Within}
use Rattle.labels.proofs.Sets.{has-or, has-without, has-replace}
use Rattle.expression.specs.declared.Kind.{Kind}
use Rattle.expression.specs.declared.Kind.TheVariants.{Head, Positive, Negative}
use Rattle.expression.specs.declared.NewAtom.{NewAtom}
use Rattle.expression.specs.declared.Command.{Command}
use Rattle.expression.specs.declared.Command.TheVariants.{Atom, Rule, Union, Relabel, Connect, Name}
use Rattle.tables.specs.Triples.{mark_u, relabel_triple, settles, connect_triple}
use Rattle.candidates.specs.Candidates.{map_triple}
use Rattle.marks.specs.Marks.{Marked}
use Rattle.marks.proofs.Gathering.{within-left, within-right}
use Rattle.batches.specs.Batches.{step_triple, step}
use Rattle.fusing.specs.Fusing.{marks_after}

-- ---- sets

without-within : (n m r : ℕ) → Within m r → Within m (without n r)
without-within n m r h = record { at = λ x e. h.at x (and_both (has x r) (not (eqb x n)) (sym (has-without n x r) ∙ e)).0 }

replaced : (p c d q c' d' : Bool) → (c ≡ true → c' ≡ true) → (d ≡ true → d' ≡ true) → (p && c || d && q) ≡ true → (p && c' || d' && q) ≡ true
replaced true true d q c' d' f g e = rw (f refl) refl
replaced true false true true c' d' f g e = rw (g refl) (or-true c')
replaced true false true false c' d' f g e = absurd (true≢false (sym e))
replaced true false false q c' d' f g e = absurd (true≢false (sym e))
replaced false c true true c' d' f g e = rw (g refl) refl
replaced false c true false c' d' f g e = absurd (true≢false (sym e))
replaced false c false q c' d' f g e = absurd (true≢false (sym e))

replace-within : (a b m r : ℕ) → Within m r → Within (replace a b m) (replace a b r)
replace-within a b m r h = record {
  at = λ x e. has-replace a b x m ∙ replaced (eqb x b) (has a r) (has x r) (not (eqb x a)) (has a m) (has x m) (h.at a) (h.at x) (sym (has-replace a b x r) ∙ e);
}

or-within : (b m r : ℕ) → Within m r → Within (bit_or m b) (bit_or r b)
or-within b m r h = record { at = λ x e. step x (or-either (has x r) (has x b) (sym (has-or x r b) ∙ e)) }
  where
    step : (x : ℕ) → (has x r ≡ true) ⊎ (has x b ≡ true) → has x (bit_or m b) ≡ true
    step x (inl e) = (within-left m b).at x (h.at x e)
    step x (inr e) = (within-right m b).at x e

-- ---- triples

module _ (K : ℕ) where
  connect-within : (k : Kind) (i j q m r : ℕ) → Within m r → Within m (connect_triple K k i j q r)
  unfolding connect_triple
  connect-within k i j q m r h = go (settles K k i q r)
    where
      go : (b : Bool) → Within m (cond b (without (2 * K + j) r) r)
      go true = without-within (2 * K + j) m r h
      go false = h

  relabel-within : (i j m r : ℕ) → Within m r → Within (relabel_triple K i j m) (relabel_triple K i j r)
  unfolding relabel_triple
  relabel-within i j m r h = replace-within i j _ _ (replace-within (K + i) (K + j) _ _ (replace-within (2 * K + i) (2 * K + j) m r h))

  triple-within : (c : Command) (m q r : ℕ) → Within m r → Within (marks_after K c m) (step_triple K c q r)
  unfolding marks_after step_triple
  triple-within (Rule g) m q r h = or-within (mark_u K g) m r h
  triple-within (Relabel i j) m q r h = relabel-within i j m r h
  triple-within (Connect k i j) m q r h = connect-within k i j q m r h
  triple-within (Atom g) m q r h = h
  triple-within Union m q r h = h
  triple-within (Name at) m q r h = h

  -- where no triple has an unmet rule of label j, or none an atom of label i, a connect does nothing
  pub no-rule-idle : (k : Kind) (i j m : ℕ) → has (2 * K + j) m ≡ false → (q r : ℕ) → Within m q → Within m r → connect_triple K k i j q r ≡ r
  unfolding connect_triple without
  no-rule-idle k i j m n q r a b = go (settles K k i q r)
    where
      go : (t : Bool) → cond t (without (2 * K + j) r) r ≡ r
      go false = refl
      go true = ap (λ t. cond t (r - 2 ^ (2 * K + j)) r) (not-true-false (has (2 * K + j) r) (λ h. true≢false (sym (b.at (2 * K + j) h) ∙ n)))

  pub no-atom-idle : (k : Kind) (i j m : ℕ) → has i m ≡ false → has (K + i) m ≡ false → (q r : ℕ) → Within m q → Within m r → connect_triple K k i j q r ≡ r
  unfolding connect_triple settles
  no-atom-idle k i j m t f q r a b = ap (λ s. cond s (without (2 * K + j) r) r) (unsettled k)
    where
      absent : (n x : ℕ) → has n m ≡ false → Within m x → has n x ≡ false
      absent n x e w = not-true-false (has n x) (λ h. true≢false (sym (w.at n h) ∙ e))

      unsettled : (k : Kind) → settles K k i q r ≡ false
      unsettled Head = absent i r t b
      unsettled Positive = absent (K + i) r f b
      unsettled Negative = absent i q t a

  -- ---- an own triple with others behind it

  pub step-marked : (c : Command) (m : ℕ) (y : List ℕ) → Marked m y → Marked (marks_after K c m) (step K c y)
  unfolding step
  step-marked c m [] h = absurd h
  step-marked c m (q ∷ s) h =
      (triple-within c m q q h.0, all_map (Within m) (Within (marks_after K c m)) (step_triple K c q) (λ r. triple-within c m q r) s h.1)

  pub step-idle : (c : Command) (m : ℕ) → ((q r : ℕ) → Within m q → Within m r → step_triple K c q r ≡ r) → (y : List ℕ) → Marked m y → y ≡ step K c y
  unfolding step
  step-idle c m e [] h = absurd h
  step-idle c m e (q ∷ s) h = ap₂ {C = List ℕ} (λ x xs. x ∷ xs) (sym (e q q h.0 h.0)) (each s h.1)
    where
      each : (s : List ℕ) → All (Within m) s → s ≡ map (step_triple K c q) s
      each [] k = refl
      each (r ∷ s) k = ap₂ {C = List ℕ} (λ x xs. x ∷ xs) (sym (e q r h.0 k.0)) (each s k.1)

-- ---- by the command's form

module _ (K : ℕ) (c : Command) where
  pub idle-told : (k : Kind) (i j m : ℕ) → c ≡ Connect k i j → ((q r : ℕ) → Within m q → Within m r → connect_triple K k i j q r ≡ r) → (q r : ℕ) → Within m q → Within m r → step_triple K c q r ≡ r
  unfolding step_triple
  idle-told k i j m e h = rw e h

  pub rule-marks : (g m : ℕ) → c ≡ Rule g → bit_or m (mark_u K g) ≡ marks_after K c m
  unfolding marks_after
  rule-marks g m e = rw e

  pub relabel-marks : (i j m : ℕ) → c ≡ Relabel i j → map_triple K c m m ≡ marks_after K c m
  unfolding marks_after map_triple
  relabel-marks i j m e = rw e

  pub connect-marks : (k : Kind) (i j m : ℕ) → c ≡ Connect k i j → m ≡ marks_after K c m
  unfolding marks_after
  connect-marks k i j m e = rw e

  pub atom-marks : (a : NewAtom) (m : ℕ) → c ≡ Atom a → m ≡ marks_after K c m
  unfolding marks_after
  atom-marks a m e = rw e

  pub union-marks : (m : ℕ) → c ≡ Union → m ≡ marks_after K c m
  unfolding marks_after
  union-marks m e = rw e

  pub name-marks : (at m : ℕ) → c ≡ Name at → m ≡ marks_after K c m
  unfolding marks_after
  name-marks at m e = rw e
