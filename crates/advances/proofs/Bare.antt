-- Tables of pairs as tables that carry nothing: each pair with no value. Assumes nothing.
use mathlib.Core.Path.{◌≡◌, refl, sym, ap, ap₂, ◌∙◌}
use mathlib.Core.List.{List, [], ◌∷◌, map}
use Prim.Native.Nat.{ℕ, ◌≤◌, ◌<◌}
use native.Mathlib.Omega.{arith}
use lib.ListN.{length, replicate, length-map}
use Rattle.lists.specs.Lists.{All}
use Rattle.expression.specs.Limits.{depth_limit, area_count}
use Rattle.tables.specs.Definitions.{Pair}
use Rattle.values.specs.declared.Value.{Value}
use Rattle.values.specs.Values.{no_value}
use Rattle.decisions.specs.Decisions.{newest}
use Rattle.entries.specs.declared.Carry.TheVariants.{Nothing}
use Rattle.entries.specs.Carries.{Entry}
use Rattle.workspace.specs.Workspace.{workspace_of, Sound, pairs_of, values_of, HeldValues, Holds, counts_of}
use Rattle.workspace.proofs.Values.{roomy-nothing}
use Rattle.stacks.proofs.Clearing.{counts-pairs}
use Rattle.advances.specs.Advances.{Stands, Advanced}

-- a table of pairs with nothing beside them
abbrev pub bare : List Pair → List Entry
bare t = map (λ x. record { item = x; value = no_value }) t

bare-pairs : (t : List Pair) → pairs_of (bare t) ≡ t
bare-pairs [] = refl
bare-pairs (x ∷ t) = ap {B = List Pair} (λ u. x ∷ u) (bare-pairs t)

pub bare-tables : (ts : List (List Pair)) → map pairs_of (map bare ts) ≡ ts
bare-tables [] = refl
bare-tables (t ∷ ts) = ap₂ {C = List (List Pair)} (λ u us. u ∷ us) (bare-pairs t) (bare-tables ts)

pub newest-pairs : (us : List (List Entry)) → newest (map pairs_of us) ≡ pairs_of (newest us)
newest-pairs [] = refl
newest-pairs (u ∷ us) = refl

bare-values : (t : List Pair) → replicate (length (bare t)) no_value ≡ values_of (bare t)
bare-values [] = refl
bare-values (x ∷ t) = ap {B = List Value} (λ u. no_value ∷ u) (bare-values t)

-- no word of values is looked at
held-bare : (p : ℕ) (ts : List (List Pair)) (vals : List ℕ) → HeldValues Nothing p (map bare ts) vals
held-bare p [] vals = tt
held-bare p (t ∷ ts) vals = (bare-values t, held-bare p ts vals)

held_any : (p : ℕ) (us : List (List Entry)) (vals vals' : List ℕ) → HeldValues Nothing p us vals → HeldValues Nothing p us vals'
held_any p [] vals vals' h = tt
held_any p (u ∷ us) vals vals' h = (h.0, held_any p us vals vals' h.1)

sound-bare : (w p : ℕ) (ts : List (List Pair)) → All (Sound w p) ts → All (λ t. Sound w p (pairs_of t)) (map bare ts)
sound-bare w p [] h = tt
sound-bare w p (t ∷ ts) h = (rw (bare-pairs t) h.0, sound-bare w p ts h.1)

pub stands-any : {d w p : ℕ} {us : List (List Entry)} {beyond ws counts : List ℕ} (vals vals' : List ℕ) → Stands Nothing d w p us beyond ws vals counts → Stands Nothing d w p us beyond ws vals' counts
stands-any {d} {p = p} {us = us} vals vals' h = record {
  holds = record { words = h.holds.words; sound = h.holds.sound; free = h.holds.free; values = held_any p us vals vals' h.holds.values; roomy = roomy-nothing d p vals' };
  tallies = h.tallies;
  areas = h.areas;
}

pub advanced-any : {d w p : ℕ} {us : List (List Entry)} {beyond : List ℕ} {r : ℕ} {ws counts ws' counts' : List ℕ} (vals vals' : List ℕ)
    → Advanced Nothing d w p us beyond r ws counts ws' vals counts' → Advanced Nothing d w p us beyond r ws counts ws' vals' counts'
advanced-any vals vals' h = record { most = h.most; fault = h.fault; stands = λ l. stands-any vals vals' (h.stands l); same = h.same }

module _ (d w p : ℕ) (ts : List (List Pair)) (beyond ws counts : List ℕ) where
  pub stands-bare : ws ≡ workspace_of d w p ts beyond → All (Sound w p) ts → length ts < d → d ≤ area_count → counts ≡ counts_of depth_limit ts → Stands Nothing d w p (map bare ts) beyond ws [] counts
  stands-bare e s l m k =
      let h : Holds Nothing d w p (map bare ts) beyond ws [] = record {
        words = e ∙ sym (ap (λ (u : List (List Pair)). workspace_of d w p u beyond) (bare-tables ts));
        sound = sound-bare w p ts s;
        free = omega (arith, length-map ts bare);
        values = held-bare p ts [];
        roomy = roomy-nothing d p [];
      } in
      record { holds = h; tallies = k ∙ sym (ap (counts_of depth_limit) (bare-tables ts)) ∙ counts-pairs depth_limit (map bare ts); areas = m }
