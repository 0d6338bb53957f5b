-- Commands that may be done at once, read one after the other. Assumes nothing.
use mathlib.Core.Path.{◌≡◌, refl, sym, ap, ◌∙◌, subst}
use mathlib.Core.List.{List, [], ◌∷◌, ◌++◌, map-append}
use Prim.Native.Nat.{ℕ, ◌+◌, ◌<◌}
use native.Mathlib.Numerals.{add-one}
use native.Mathlib.Omega.{arith}
use lib.ListN.{length, take, set}
use lib.Seq.{take-suc-set}
use Rattle.labels.specs.Labels.{label_count}
use Rattle.expression.specs.declared.Command.{Command}
use Rattle.expression.specs.declared.Command.TheVariants.{Atom, Rule, Union, Relabel, Connect, Name}
use Rattle.expression.specs.declared.Leaf.TheVariants as leaf
use Rattle.expression.specs.declared.Effect.{Effect}
use Rattle.expression.specs.declared.Effect.TheVariants.{Push, Unite, Change, Pass}
use Rattle.expression.specs.declared.Counts.{Counts}
use Rattle.expression.specs.Commands.{Got, Suits, read_at}
use Rattle.expression.specs.Effects.{effect}
use Rattle.semantics.proofs.Readings.{read-suits}
use Rattle.batches.specs.Batches.{JoinsBy, Joins, command_of, commands_of}
use Rattle.stretches.specs.Stretches.{Passing, SpeltAs, Spelt, SpeltBy, Chain, closed_by, joined_by, joined_counts, chain_counts}

module _ (K : ℕ) (s : List ℕ) (stop : ℕ) where
  -- what stands at an offset, by the effect of the command read there
  pub spelt-by : (at next : ℕ) (c : Command) {e : Effect} → effect c ≡ e → SpeltAs K s stop e at c next → Spelt K s stop at c next
  spelt-by at next c {e} h k = subst (λ (x : Effect). SpeltAs K s stop x at c next) (sym h) k

  -- ---- a rule, names, and the union

  pub passing-none : (at : ℕ) → Passing K s stop at at []
  unfolding Passing
  passing-none at = refl

  pub passing-more : (at end next : ℕ) (d : Command) (cs : List Command) → end < stop → effect d ≡ Pass → read_at K s end ≡ Got d next → Passing K s stop at end cs
      → Passing K s stop at next (cs ++ d ∷ [])
  unfolding Passing
  passing-more at end next d [] l e r h = rw h (l, e, (next, r, refl))
  passing-more at end next d (c ∷ cs) l e r h = (h.0, h.1, (h.2.0, h.2.1, passing-more h.2.0 end next d cs l e r h.2.2))

  unite-is : (d : Command) → effect d ≡ Unite → d ≡ Union
  unfolding effect
  unite-is Union e = refl
  unite-is (Atom g) e = let z : ◌≡◌ {A = ℕ} 0 1 = cc in absurd (omega arith)
  unite-is (Rule g) e = let z : ◌≡◌ {A = ℕ} 0 1 = cc in absurd (omega arith)
  unite-is (Relabel i j) e = let z : ◌≡◌ {A = ℕ} 0 1 = cc in absurd (omega arith)
  unite-is (Connect k i j) e = let z : ◌≡◌ {A = ℕ} 0 1 = cc in absurd (omega arith)
  unite-is (Name n) e = let z : ◌≡◌ {A = ℕ} 0 1 = cc in absurd (omega arith)

  -- the command d behind the names ends the search
  pub closed-spelt : (at mid end next : ℕ) (c d : Command) (cs : List Command) → read_at K s at ≡ Got c mid → effect c ≡ Push leaf.Rule → Passing K s stop mid end cs → end < stop
      → read_at K s end ≡ Got d next → (e : Effect) → effect d ≡ e → SpeltBy K s stop at (closed_by c next e)
  closed-spelt at mid end next c d cs r rule h l f (Push x) e = tt
  closed-spelt at mid end next c d cs r rule h l f Unite e = spelt-by at next c rule (mid, r, (cs, end, h, l, f ∙ ap (λ x. Got x next) (unite-is d e)))
  closed-spelt at mid end next c d cs r rule h l f Change e = tt
  closed-spelt at mid end next c d cs r rule h l f Pass e = tt

  pub spelt-suits : (at next : ℕ) (c : Command) → Spelt K s stop at c next → Suits K c
  spelt-suits at next c h = step (effect c) h
    where
      step : (e : Effect) → SpeltAs K s stop e at c next → Suits K c
      step (Push leaf.Atom) h = absurd h
      step (Push leaf.Rule) h = read-suits K s at c h.0 h.1
      step Unite h = absurd h
      step Change h = read-suits K s at c next h
      step Pass h = absurd h

  pub spelt-joins : (at next : ℕ) (c : Command) → Spelt K s stop at c next → Joins c
  spelt-joins at next c h = step (effect c) h
    where
      step : (e : Effect) → SpeltAs K s stop e at c next → JoinsBy e
      step (Push leaf.Atom) h = h
      step (Push leaf.Rule) h = tt
      step Unite h = h
      step Change h = tt
      step Pass h = h

  -- one command more
  pub chain_more : (at end next : ℕ) (c : Command) (cs : List Command) → end < stop → Spelt K s stop end c next → Chain K s stop at end cs → Chain K s stop at next (cs ++ c ∷ [])
  unfolding Chain
  chain_more at end next c [] l e h = rw h (l, (next, e, refl))
  chain_more at end next c (d ∷ cs) l e h = (h.0, (h.1.0, h.1.1, chain_more h.1.0 end next c cs l e h.1.2))

pub counts-more : (n : Counts) (c : Command) (cs : List Command) → chain_counts n (cs ++ c ∷ []) ≡ joined_counts (chain_counts n cs) c
unfolding chain_counts
counts-more n c [] = refl
counts-more n c (d ∷ cs) = counts-more (joined_counts n d) c cs

-- no command yet
pub chain-none : (K : ℕ) (s : List ℕ) (stop at : ℕ) → Chain K s stop at at []
unfolding Chain
chain-none K s stop at = refl

pub counts-none : (n : Counts) → n ≡ chain_counts n []
unfolding chain_counts
counts-none n = refl

-- a word more
pub word_more : (ops : List ℕ) (k w : ℕ) (c : Command) → k < length ops → command_of label_count w ≡ c → commands_of (take (k + 1) (set ops k w)) ≡ commands_of (take k ops) ++ c ∷ []
word_more ops k w c l e = rw (add-one k, take-suc-set ops k w l, map-append (command_of label_count) (take k ops) (w ∷ []), e)

-- the counts, by the effect
pub counts-by : (n : Counts) (c : Command) {e : Effect} {r : Counts} → effect c ≡ e → r ≡ joined_by n e → r ≡ joined_counts n c
unfolding joined_counts
counts-by n c h k = k ∙ ap (joined_by n) (sym h)
