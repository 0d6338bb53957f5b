-- Words put behind others, or in place of them, for commands. Assumes nothing.
use mathlib.Core.Path.{◌≡◌, refl, sym, ap, ap₂, ◌∙◌}
use mathlib.Core.List.{List, [], ◌∷◌, ◌++◌}
use Prim.Native.Nat.{ℕ, suc, ◌+◌, ◌-◌, ◌≤◌, ◌<◌}
use native.Mathlib.Numerals.{add-one}
use native.Mathlib.Omega.{arith}
use lib.ListN.{length, take, set, get_or, length-set}
use lib.Seq.{take-suc, take-suc-set, get_or-set_other}
use Rattle.expression.specs.declared.Command.{Command}
use Rattle.tables.specs.Definitions.{own_triple, subsets}
use Rattle.batches.specs.Batches.{step_triple, step, word_triple, word_step, word_steps}
use Rattle.lists.proofs.Members.{map-map, map_same}

-- ---- a word for a command

more-words : (K : ℕ) (ws : List ℕ) (w : ℕ) (x : List ℕ) → word_steps K (ws ++ w ∷ []) x ≡ word_step K w (word_steps K ws x)
unfolding word_steps
more-words K [] w x = refl
more-words K (v ∷ ws) w x = more-words K ws w (word_step K v x)

module _ (K s : ℕ) (c : Command) where
  as-command : ((q r : ℕ) → word_triple K s q r ≡ step_triple K c q r) → (x : List ℕ) → word_step K s x ≡ step K c x
  unfolding word_step step
  as-command e x =
      ap₂ {C = List ℕ} (λ y m. y ∷ m) (e (own_triple x) (own_triple x)) (map_same (word_triple K s (own_triple x)) (step_triple K c (own_triple x)) (e (own_triple x)) (subsets x))

  as-both : (w : ℕ) → ((q r : ℕ) → word_triple K s q r ≡ step_triple K c (word_triple K w q q) (word_triple K w q r)) → (x : List ℕ)
      → word_step K s x ≡ step K c (word_step K w x)
  unfolding word_step step
  as-both w e x =
      ap₂ {C = List ℕ} (λ y m. y ∷ m) (e (own_triple x) (own_triple x)) (sym (map-map (step_triple K c (word_triple K w (own_triple x) (own_triple x))) (word_triple K w (own_triple x)) (word_triple K s (own_triple x)) (λ r. sym (e (own_triple x) r)) (subsets x)))

module _ (K : ℕ) (code : List ℕ) (m s : ℕ) (c : Command) (x : List ℕ) where
  -- in place of the last word
  pub put_last : 0 < m → m ≤ length code → ((q r : ℕ) → word_triple K s q r ≡ step_triple K c (word_triple K (get_or code (m - 1) 0) q q) (word_triple K (get_or code (m - 1) 0) q r))
      → word_steps K (take m (set code (m - 1) s)) x ≡ step K c (word_steps K (take m code) x)
  put_last l k e =
      let f : m ≡ suc (m - 1) = omega arith in
      let i : m - 1 < length code = omega arith in
      ap (λ (n : ℕ). word_steps K (take n (set code (m - 1) s)) x) f
      ∙ ap (λ (t : List ℕ). word_steps K t x) (take-suc-set code (m - 1) s i)
      ∙ more-words K (take (m - 1) code) s x
      ∙ as-both K s c (get_or code (m - 1) 0) e (word_steps K (take (m - 1) code) x)
      ∙ ap (step K c) (sym (ap (λ (n : ℕ). word_steps K (take n code) x) f ∙ ap (λ (t : List ℕ). word_steps K t x) (take-suc code (m - 1) 0 i) ∙ more-words K (take (m - 1) code) (get_or code (m - 1) 0) x))

  -- behind the last one
  pub put-behind : m < length code → ((q r : ℕ) → word_triple K s q r ≡ step_triple K c q r)
      → word_steps K (take (m + 1) (set code m s)) x ≡ step K c (word_steps K (take m code) x)
  put-behind l e =
      ap (λ (n : ℕ). word_steps K (take n (set code m s)) x) (add-one m)
      ∙ ap (λ (t : List ℕ). word_steps K t x) (take-suc-set code m s l)
      ∙ more-words K (take m code) s x
      ∙ as-command K s c e (word_steps K (take m code) x)

-- in place of the last word but one
module _ (K : ℕ) (code : List ℕ) (m s : ℕ) (x : List ℕ) (l : 2 ≤ m) (k : m ≤ length code) where
  abbrev first : ℕ
  first = get_or code (m - 2) 0

  abbrev last : ℕ
  last = get_or code (m - 1) 0

  two-words : (c : List ℕ) (t : ℕ) → length c ≡ length code → take (suc (m - 2)) c ≡ take (m - 2) code ++ (t ∷ []) → get_or c (m - 1) 0 ≡ last
      → word_steps K (take m c) x ≡ word_step K last (word_step K t (word_steps K (take (m - 2) code) x))
  two-words c t n e f =
      let a : m ≡ suc (m - 1) = omega arith in
      let b : m - 1 ≡ suc (m - 2) = omega arith in
      let i : m - 1 < length c = omega (arith, n) in
      ap (λ (j : ℕ). word_steps K (take j c) x) a
      ∙ ap (λ (y : List ℕ). word_steps K y x) (take-suc c (m - 1) 0 i)
      ∙ more-words K (take (m - 1) c) (get_or c (m - 1) 0) x
      ∙ ap₂ (λ (v : ℕ) (y : List ℕ). word_step K v (word_steps K y x)) f (ap (λ (j : ℕ). take j c) b ∙ e)
      ∙ ap (word_step K last) (more-words K (take (m - 2) code) t x)

  twice_same : ((q r : ℕ) → word_triple K last (word_triple K s q q) (word_triple K s q r) ≡ word_triple K last (word_triple K first q q) (word_triple K first q r))
      → (y : List ℕ) → word_step K last (word_step K s y) ≡ word_step K last (word_step K first y)
  unfolding word_step
  twice_same e y = ap₂ {C = List ℕ} (λ u v. u ∷ v) (e q q) (map-map (word_triple K last (word_triple K s q q)) (word_triple K s q) both (e q) (subsets y) ∙ sym (map-map (word_triple K last (word_triple K first q q)) (word_triple K first q) both (λ r. refl) (subsets y)))
    where
      q : ℕ
      q = own_triple y

      both : ℕ → ℕ
      both r = word_triple K last (word_triple K first q q) (word_triple K first q r)

  pub put_first : ((q r : ℕ) → word_triple K last (word_triple K s q q) (word_triple K s q r) ≡ word_triple K last (word_triple K first q q) (word_triple K first q r))
      → word_steps K (take m (set code (m - 2) s)) x ≡ word_steps K (take m code) x
  put_first e =
      let i : m - 2 < length code = omega arith in
      two-words (set code (m - 2) s) s (length-set code (m - 2) s) (take-suc-set code (m - 2) s i) (get_or-set_other code (m - 2) (m - 1) s 0 (λ z. omega arith))
      ∙ twice_same e (word_steps K (take (m - 2) code) x)
      ∙ sym (two-words code first refl (take-suc code (m - 2) 0 i) refl)
