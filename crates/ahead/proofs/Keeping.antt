-- What commands done at once leave of a table can be kept, and its values are words. Assumes nothing.
use mathlib.Core.Path.{◌≡◌, refl, sym, ◌∙◌, subst}
use mathlib.Core.List.{List, [], ◌∷◌, map}
use Prim.Native.Nat.{ℕ, zero, suc, ◌+◌, ◌-◌, ◌^◌, ◌≤◌, ◌<◌}
use native.Mathlib.Omega.{arith}
use lib.ListN.{length, take, drop, get_or, replicate, length-map}
use Rattle.lists.specs.Lists.{All}
use Rattle.lists.specs.Sorted.{compare_numbers, second, Rising, set_of}
use Rattle.lists.proofs.Canon.{length-canon, length-canon-map}
use Rattle.labels.specs.Labels.{label_count}
use Rattle.expression.specs.declared.Command.{Command}
use Rattle.expression.specs.declared.Command.TheVariants.{Atom, Rule, Union, Relabel, Connect, Name}
use Rattle.expression.specs.declared.Effect.TheVariants.{Change}
use Rattle.expression.specs.Limits.{depth_limit}
use Rattle.semantics.specs.Expressions.{change_newest}
use Rattle.tables.specs.Definitions.{Pair, subsets}
use Rattle.decisions.specs.Decisions.{newest, pairs_fault}
use Rattle.values.specs.declared.Value.{Value}
use Rattle.values.specs.Values.{no_value, in_low}
use Rattle.rows.specs.Rows.{Fit}
use Rattle.batches.specs.Batches.{step, reversed, steps, cleaned, batch_pair}
use Rattle.entries.specs.declared.Carry.{Carry}
use Rattle.entries.specs.declared.Carry.TheVariants.{Nothing, First, Consequences}
use Rattle.entries.specs.Carries.{Entry, entry_algebra, values_in}
use Rattle.making.specs.Making.{table_of_all, FitEntry}
use Rattle.maps.specs.Maps.{batched, batched_table, Small}
use Rattle.workspace.specs.Workspace.{Sound, pairs_of, values_of, values_from, HeldValues, Acted}
use Rattle.workspace.proofs.Faults.{new-rising, of-candidates, no-fault}
use Rattle.stacks.specs.Stacks.{tallied}
use Rattle.stacks.proofs.Counts.{tally-does}
use Rattle.operations.proofs.Mapping.{batched-rising}
use Rattle.advances.specs.Advances.{Stands}
use Rattle.advances.proofs.Steps.{fault-none}

-- ---- a pair has no more subsets then

reversed-long : (K : ℕ) (c : Command) (x : List ℕ) → length (subsets (reversed K c x)) ≡ length (subsets x)
unfolding reversed step
reversed-long K (Rule g) x = refl
reversed-long K (Relabel i j) x = refl
reversed-long K (Connect k i j) x = length-map (subsets x) _
reversed-long K (Atom g) x = refl
reversed-long K Union x = refl
reversed-long K (Name at) x = refl

steps-long : (K : ℕ) (cs : List Command) (x : List ℕ) → length (subsets (steps K cs x)) ≡ length (subsets x)
unfolding steps step
steps-long K [] x = refl
steps-long K (c ∷ cs) x = steps-long K cs (reversed K c (step K c x)) ∙ reversed-long K c (step K c x) ∙ length-map (subsets x) _

subsets-long : (x : Pair) → 0 < length x → length x ≡ length (subsets x) + 1
subsets-long [] l = absurd (omega arith)
subsets-long (q ∷ s) l = omega arith

batched-fit : (w : ℕ) (cs : List Command) (x : Pair) → Fit w x → Fit w (batch_pair label_count cs x)
unfolding Fit batch_pair cleaned set_of
batched-fit w cs x h =
    (omega arith, omega (arith, length-canon compare_numbers second (subsets (steps label_count cs x)), steps-long label_count cs x, subsets-long x h.0, h.1))

all-batched : (w : ℕ) (cs : List Command) (t : List Entry) → All (Fit w) (pairs_of t) → All (FitEntry w) (map (batched cs) t)
all-batched w cs [] h = tt
all-batched w cs (x ∷ t) h = (batched-fit w cs x.item h.0, all-batched w cs t h.1)

all-rising : (cs : List Command) (t : List Entry) → All (λ x. Rising compare_numbers (subsets x.item)) (map (batched cs) t)
all-rising cs [] = tt
all-rising cs (x ∷ t) = (batched-rising cs x.item, all-rising cs t)

module _ (carry : Carry) (w p : ℕ) where
  pub batched-sound : (cs : List Command) (t : List Entry) → Sound w p (pairs_of t) → Sound w p (pairs_of (batched_table carry cs t))
  unfolding table_of_all
  batched-sound cs t h = record {
    few = omega (arith, length-map (batched_table carry cs t) (λ (x : Entry). x.item), length-canon-map (entry_algebra label_count carry).order (entry_algebra label_count carry).merge (batched cs) t, length-map t (λ (x : Entry). x.item), h.few);
    fit = of-candidates carry (map (batched cs) t) (Fit w) (all-batched w cs t h.fit);
    rising = new-rising carry (map (batched cs) t);
    ordered = of-candidates carry (map (batched cs) t) (λ x. Rising compare_numbers (subsets x)) (all-rising cs t);
  }

  -- a rule's table can be kept
  pub one-sound : 2 ≤ w → 1 ≤ p → (q : ℕ) (v : Value) → Sound w p (pairs_of (record { item = q ∷ []; value = v } ∷ []))
  unfolding Fit Rising
  one-sound a b q v = record { few = b; fit = ((omega arith, omega arith), tt); rising = (tt, tt); ordered = (tt, tt) }

  -- what can be kept is refused by neither
  pub kept-fault : 2 ≤ w → (t : List Entry) → Sound w p (pairs_of t) → pairs_fault p (w - 2) (pairs_of t) ≡ 0
  kept-fault wide t h = sym (no-fault w p (length (pairs_of t)) wide (pairs_of t) h refl) ∙ fault-none p (length (pairs_of t)) h.few

-- ---- values are words

bounded-drop : (o : ℕ) (l : List ℕ) → ((i : ℕ) → get_or l i 0 < 2 ^ 64) → (i : ℕ) → get_or (drop o l) i 0 < 2 ^ 64
bounded-drop zero l h i = h i
bounded-drop (suc o) [] h i = h i
bounded-drop (suc o) (x ∷ l) h i = bounded-drop o l (λ j. h (suc j)) i

bounded-take : (n : ℕ) (l : List ℕ) → ((i : ℕ) → get_or l i 0 < 2 ^ 64) → All (λ v. v < 2 ^ 64) (take n l)
bounded-take zero l h = tt
bounded-take (suc n) [] h = tt
bounded-take (suc n) (x ∷ l) h = (h 0, bounded-take n l (λ j. h (suc j)))

all_none : (n : ℕ) → All (λ (v : Value). v ≡ no_value) (replicate n no_value)
all_none zero = tt
all_none (suc n) = (refl, all_none n)

all-low : (l : List ℕ) → All (λ v. v < 2 ^ 64) l → All (λ (v : Value). (v.high ≡ 0) × (v.low < 2 ^ 64)) (map in_low l)
all-low [] h = tt
all-low (x ∷ l) h = ((refl, h.0), all-low l h.1)

all_any : (t : List Entry) → All (λ x. Unit {0}) t
all_any [] = tt
all_any (x ∷ t) = (tt, all_any t)

of_values : (P : Value → Type 0) (t : List Entry) → All P (values_of t) → All (λ x. P x.value) t
of_values P [] h = tt
of_values P (x ∷ t) h = (h.0, of_values P t h.1)

small-values : (carry : Carry) (o : ℕ) (vals : List ℕ) (t : List Entry) → ((i : ℕ) → get_or vals i 0 < 2 ^ 64) → values_in carry (length t) (drop o vals) ≡ values_of t → All (Small carry) t
small-values Nothing o vals t h e = of_values (λ v. v ≡ no_value) t (subst (All (λ (v : Value). v ≡ no_value)) e (all_none (length t)))
small-values First o vals t h e =
    of_values (λ v. (v.high ≡ 0) × (v.low < 2 ^ 64)) t (subst (All (λ (v : Value). (v.high ≡ 0) × (v.low < 2 ^ 64))) e (all-low (take (length t) (drop o vals)) (bounded-take (length t) (drop o vals) (bounded-drop o vals h))))
small-values Consequences o vals t h e = all_any t

pub small-newest : (carry : Carry) (p : ℕ) (ts : List (List Entry)) (vals : List ℕ) → ((i : ℕ) → get_or vals i 0 < 2 ^ 64) → HeldValues carry p ts vals → All (Small carry) (newest ts)
small-newest carry p [] vals h g = tt
small-newest carry p (t ∷ ts) vals h g = small-values carry (values_from carry p (length ts)) vals t h g.0

-- ---- counts

module _ {carry : Carry} {d w p t : ℕ} {ts : List (List Entry)} {beyond ws vals counts : List ℕ} (h : Stands carry d w p ts beyond ws vals counts) (e : length ts ≡ t) (one : 1 ≤ t) (within : t ≤ depth_limit) where
  pub changed-stands : (f : List Entry → List Entry) {r : ℕ} {ws' vals' counts' : List ℕ} → Acted carry d w p (change_newest f ts) beyond r ws ws' vals' → r ≤ p → counts' ≡ tallied Change t r counts
      → Stands carry d w p (change_newest f ts) beyond ws' vals' counts'
  changed-stands f g l told = record {
    holds = g.holds l;
    tallies = told ∙ rw (h.tallies, sym (g.count l)) (tally-does depth_limit t Change (change_newest f) (f, λ us. refl) ts e (one, within, within));
    areas = h.areas;
  }
