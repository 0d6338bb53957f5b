-- Laws of a refusal by either decision, of the last start, and of a report's pairs one after the other. Assumes nothing.
use mathlib.Core.Path.{◌≡◌, refl, sym, ap, ◌∙◌}
use mathlib.Core.Bool.{Bool, true, false, ◌||◌}
use mathlib.Core.List.{List, [], ◌∷◌, ◌++◌, append_assoc}
use Prim.Native.Nat.{ℕ, zero, suc, ◌+◌, ◌-◌, ◌≤◌, ◌<◌}
use native.Mathlib.Omega.{arith}
use lib.ListN.{length, get_or, drop, length-append, length-drop}
use lib.Seq.{drop-drop, get_or-drop, drop_at}
use Rattle.expression.specs.declared.Command.{Command}
use Rattle.expression.specs.Commands.{Got, Fault, read_at}
use Rattle.expression.specs.declared.Outcome.{Outcome}
use Rattle.expression.specs.Checks.{Request}
use Rattle.expression.proofs.Commands.{read-ends}
use Rattle.tables.specs.Definitions.{own_triple, subsets}
use Rattle.decisions.specs.Decisions.{grounded, plain}
use Rattle.decisions.specs.First.{first_mask}
use Rattle.decisions.specs.Outcomes.{verdict_of, grounded_outcome, plain_outcome}
use Rattle.decisions.proofs.Demands.{mask-verdict}
use Rattle.leaves.specs.declared.Tables.TheVariants.{Pairs}
use Rattle.reports.specs.Reports.{entry_words, report_of}
use Rattle.listing.specs.Listing.{is_refusal, either_refused, last_from, last_start, PairsFrom}

-- ---- a refusal by either decision

module _ (K : ℕ) (a : Request) (o : Outcome) (q : Bool) (g : o ≡ grounded_outcome K a) (h : q ≡ is_refusal (verdict_of o)) where
  grounded-is : q ≡ is_refusal (grounded K a)
  grounded-is = h ∙ ap (λ (x : Outcome). is_refusal (verdict_of x)) g ∙ ap is_refusal (mask-verdict (first_mask K a) (grounded K a))

  pub first-refused : q ≡ true → true ≡ either_refused K a
  first-refused t = ap (λ (b : Bool). b || is_refusal (plain K a)) (sym t ∙ grounded-is)

  pub second-refused : (b : Request) (p : Outcome) (r : Bool) → q ≡ false → b ≡ a → p ≡ plain_outcome K b → r ≡ is_refusal (verdict_of p) → r ≡ either_refused K a
  second-refused b p r f e w l =
      l ∙ ap (λ (x : Outcome). is_refusal (verdict_of x)) w ∙ ap is_refusal (mask-verdict 0 (plain K b)) ∙ ap (λ (x : Request). is_refusal (plain K x)) e
      ∙ ap (λ (x : Bool). x || is_refusal (plain K a)) (sym f ∙ grounded-is)

-- ---- the last start

module _ (K : ℕ) (s : List ℕ) where
  -- some fuel, enough for the rest, finds from here what is to be found
  abbrev pub Ahead : ℕ → ℕ → Type 0
  Ahead last at = (at ≤ length s) × ((k : ℕ) × (length s < at + k) × (last_from K k s last at ≡ last_start K s))

  pub ahead-start : Ahead 0 0
  unfolding last_start
  ahead-start = (omega arith, (suc (length s), omega arith, refl))

  pub ahead_step : (last at : ℕ) (c : Command) (next : ℕ) → read_at K s at ≡ Got c next → Ahead last at → Ahead at next
  unfolding last_from
  ahead_step last at c next e (h, (zero, g, p)) = absurd (omega arith)
  ahead_step last at c next e (h, (suc k, g, p)) = let b = read-ends K s at c next e in (b.1, (k, omega arith, rw (e, last_from) at p))

  pub ahead-fault : (last at f : ℕ) → read_at K s at ≡ Fault f → Ahead last at → last ≡ last_start K s
  unfolding last_from
  ahead-fault last at f e (h, (zero, g, p)) = absurd (omega arith)
  ahead-fault last at f e (h, (suc k, g, p)) = rw (e, last_from) at p

-- ---- one pair after the other

-- a pair's second word says how many words follow it, and the next pair begins behind them
pub pair-next : (at n : ℕ) (words : List ℕ) → 0 < n → PairsFrom at n words → (at + 2 + get_or words (at + 1) 0 ≤ length words) × PairsFrom (at + 2 + get_or words (at + 1) 0) (n - 1) words
unfolding report_of entry_words
pair-next at n words l ([], rest, e, g) = absurd (omega arith)
pair-next at n words l (x ∷ t, rest, e, g) = (within, (t, rest, next, omega arith))
  where
    here : drop at words ≡ own_triple x ∷ length (subsets x) ∷ (subsets x ++ (report_of Pairs t ++ rest))
    here = e ∙ ap (λ (u : List ℕ). own_triple x ∷ length (subsets x) ∷ u) (append_assoc (subsets x) (report_of Pairs t) rest)

    count : get_or words (at + 1) 0 ≡ length (subsets x)
    count = sym (get_or-drop at words 1 0) ∙ ap (λ (u : List ℕ). get_or u 1 0) here

    long : length words - at ≡ 2 + (length (subsets x) + length (report_of Pairs t ++ rest))
    long = sym (length-drop at words) ∙ ap length here ∙ omega (arith, length-append (subsets x) (report_of Pairs t ++ rest))

    within : at + 2 + get_or words (at + 1) 0 ≤ length words
    within = omega (arith, count, long)

    next : drop (at + 2 + get_or words (at + 1) 0) words ≡ report_of Pairs t ++ rest
    next =
        let e : at + 2 + get_or words (at + 1) 0 ≡ at + suc (suc (length (subsets x))) = omega (arith, count) in
        ap (λ (i : ℕ). drop i words) e
        ∙ sym (drop-drop (suc (suc (length (subsets x)))) at words) ∙ ap (drop (suc (suc (length (subsets x))))) here ∙ drop_at (subsets x) (report_of Pairs t ++ rest) (length (subsets x)) refl
