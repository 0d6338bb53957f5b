-- Demand 3 on the definitions: a decision that refuses nothing denies exactly if no interpretation that obeys the assumptions is an answer set of the
-- expression's rules, and affirms exactly if there is one to show; plainly, the same of models. Assumes nothing.
use mathlib.Core.Path.{◌≡◌, refl, sym, ap, ◌∙◌}
use mathlib.Core.Logic.{◌↔◌}
use mathlib.Core.Bool.{Bool, true, false, true≢false}
use mathlib.Core.List.{List}
use Prim.Native.Nat.{ℕ, ◌≤◌}
use native.Mathlib.Omega.{arith}
use Rattle.lists.specs.Lists.{run}
use Rattle.lists.proofs.Runs.{length_run}
use Rattle.lists.proofs.Members.{not-true-false}
use Rattle.expression.specs.Limits.{atom_limit}
use Rattle.expression.specs.Reading.{reading}
use Rattle.expression.specs.Checks.{Request, counts_of}
use Rattle.semantics.specs.Expressions.{Expr}
use Rattle.semantics.specs.Programs.{numbers}
use Rattle.semantics.specs.AnswerSets.{of_mask, mask_of}
use Rattle.semantics.proofs.Interpretations.{Distinct, obeys-agree}
use Rattle.semantics.proofs.Stacks.{Fits}
use Rattle.semantics.proofs.Masks.{mask-agrees, mask_lt}
use Rattle.tables.specs.Definitions.{triples, pairs, plain_accepts, grounded_accepts}
use Rattle.tables.proofs.Answers.{FoundAnswerSet, FoundModel, answer_set-agree, grounded-found, found-grounded, plain-found, found_plain}
use Rattle.decisions.specs.Decisions.{Verdict, affirmed, denied, refused, assumed, pairs_fault, plain_fault, answer, grounded, plain, expression_of, Shows}
use Rattle.decisions.specs.Outcomes.{verdict_of, with_mask, NoAnswerSet, NoModel}
use Rattle.decisions.proofs.Walks.{Readable, readable-tree, Decided, Settled, decided}

-- ---- the tree of a request that is decided

pub record Tree (K : ℕ) (s : List ℕ) : Type 0 where
  pub fits : Fits K (expression_of K s)
  pub distinct : Distinct (expression_of K s)
  pub count : ℕ
  pub numbered : numbers (expression_of K s) ≡ run 0 count
  pub counted : (counts_of (reading K s)).atoms ≡ count
  pub few : count ≤ atom_limit

pub tree_of : (K : ℕ) (a : Request) → Readable (reading K a.bytes) → Tree K a.bytes
unfolding expression_of
tree_of K a r = let t = readable-tree K a (reading K a.bytes) refl r in record { fits = t.fits; distinct = t.distinct; count = t.count; numbered = t.numbered; counted = t.counted; few = t.few }

answer-yes : (b : Bool) → affirmed ≡ answer b → b ≡ true
unfolding answer
answer-yes true h = refl
answer-yes false h = let z : ◌≡◌ {A = ℕ} 0 1 = cc in absurd (omega arith)

answer-no : (b : Bool) → denied ≡ answer b → b ≡ false
unfolding answer
answer-no true h = let z : ◌≡◌ {A = ℕ} 0 1 = cc in absurd (omega arith)
answer-no false h = refl

-- what a settled verdict is, from what is accepted
yes-if : {v : Verdict} {b : Bool} → v ≡ answer b → b ≡ true → v ≡ affirmed
yes-if h e = h ∙ ap answer e ∙ (unfold answer in refl)

no-if : {v : Verdict} {b : Bool} → v ≡ answer b → b ≡ false → v ≡ denied
no-if h e = h ∙ ap answer e ∙ (unfold answer in refl)

-- ---- the mask shown does not change the verdict

pub mask-verdict : (m : ℕ) (v : Verdict) → verdict_of (with_mask m v) ≡ v
mask-verdict m affirmed = refl
mask-verdict m denied = refl
mask-verdict m (refused n at) = refl

module _ (K : ℕ) (a : Request) where
  abbrev e : Expr
  e = expression_of K a.bytes

  -- ---- grounded

  module _ (settled : Settled (grounded K a)) where
    pub ground : Decided (pairs K) (grounded_accepts K) K a (grounded K a)
    unfolding grounded
    ground = decided (pairs K) (pairs_fault a.pair_limit a.subset_limit) (grounded_accepts K) K a settled

    pub tree : Tree K a.bytes
    tree = tree_of K a ground.readable

    pub grounded-denied : (grounded K a ≡ denied) ↔ NoAnswerSet K a
    grounded-denied = (
      λ h p o s. true≢false (sym (found-grounded K e tree.fits tree.distinct (assumed a) p o s) ∙ answer-no _ (sym h ∙ ground.says)),
      λ h. no-if ground.says (not-true-false _ (λ k.
          let f = grounded-found K e tree.fits tree.distinct (assumed a) k in h f.by f.obeys f.answer_set)),
    )

    -- the mask of an answer set that obeys
    pub shows-of : (f : FoundAnswerSet (assumed a) e) → Shows K a (mask_of f.by (numbers e))
    shows-of f =
        let g = mask-agrees f.by (numbers e) in
        record {
          within = rw (tree.numbered, length_run 0 tree.count) (mask_lt f.by tree.count);
          obeys = obeys-agree (assumed a) g f.obeys;
          answer_set = answer_set-agree K e tree.fits tree.distinct g f.answer_set;
        }

    pub grounded-affirmed : (grounded K a ≡ affirmed) ↔ ((m : ℕ) × Shows K a m)
    grounded-affirmed = (
      λ h. (_, shows-of (grounded-found K e tree.fits tree.distinct (assumed a) (answer-yes _ (sym h ∙ ground.says)))),
      λ s. yes-if ground.says (found-grounded K e tree.fits tree.distinct (assumed a) (of_mask s.0) s.1.obeys s.1.answer_set),
    )

  -- ---- plain

  module _ (settled : Settled (plain K a)) where
    open_plain : Decided (triples K) (plain_accepts K) K a (plain K a)
    unfolding plain
    open_plain = decided (triples K) (plain_fault a.pair_limit) (plain_accepts K) K a settled

    plain-tree : Tree K a.bytes
    plain-tree = tree_of K a open_plain.readable

    pub plain-denied : (plain K a ≡ denied) ↔ NoModel K a
    plain-denied = (
      λ h p o s. true≢false (sym (found_plain K e plain-tree.fits plain-tree.distinct (assumed a) p o s) ∙ answer-no _ (sym h ∙ open_plain.says)),
      λ h. no-if open_plain.says (not-true-false _ (λ k.
          let f = plain-found K e plain-tree.fits plain-tree.distinct (assumed a) k in h f.by f.obeys f.model)),
    )

    pub plain-affirmed : (plain K a ≡ affirmed) ↔ FoundModel (assumed a) e
    plain-affirmed = (
      λ h. plain-found K e plain-tree.fits plain-tree.distinct (assumed a) (answer-yes _ (sym h ∙ open_plain.says)),
      λ f. yes-if open_plain.says (found_plain K e plain-tree.fits plain-tree.distinct (assumed a) f.by f.obeys f.model),
    )
