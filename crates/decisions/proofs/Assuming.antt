-- More assumptions (01: pins) on a request: no table on the way exceeds a limit that it kept before, so they never raise 15 or 16; and where they are on
-- atoms that are there and none is in both, every check passes as before. Assumes nothing.
use mathlib.Core.Path.{◌≡◌, refl, sym, ap, ◌∙◌, subst}
use mathlib.Core.Logic.{inl, inr}
use mathlib.Core.Bool.{Bool, true, false, ◌&&◌, true≢false}
use mathlib.Core.List.{List, [], ◌∷◌, map, Memᴰ}
use Prim.Native.Nat.{ℕ, suc, ◌^◌, ◌≤◌, ◌<◌, zero-le}
use native.Mathlib.Nat.{zero-add}
use native.Mathlib.Omega.{arith}
use lib.Bits.{bit_and}
use lib.Dec.{ltb}
use lib.ListN.{length, take}
use borrow.Author.Tests.{lt-ltb, ltb-true, ltb-false, eq-eqb}
use Rattle.lists.specs.Lists.{run}
use Rattle.lists.proofs.Runs.{length_run, run_in}
use Rattle.labels.specs.Sets.{has}
use Rattle.labels.proofs.Sets.{has-and, has-none-zero, has-ge}
use Rattle.expression.specs.declared.Counts.{Counts}
use Rattle.expression.specs.Refusals.{absent}
use Rattle.expression.specs.Reading.{Placed, reading}
use Rattle.expression.specs.Checks.{Checked, Passed, Refused, Request, first_of, counts_of, absent_test, clash_test, checks, check}
use Rattle.expression.proofs.Accepted.{Accepted, check-accepted}
use Rattle.expression.proofs.Numbers.{check-number}
use Rattle.semantics.specs.Expressions.{Expr, act_all, trees}
use Rattle.semantics.specs.Programs.{numbers}
use Rattle.semantics.specs.AnswerSets.{Interpretation, Assumptions, Obeys, AnswerSet, by_masks}
use Rattle.semantics.proofs.Stacks.{Chain, chain-all}
use Rattle.semantics.proofs.Readings.{commands_of}
use Rattle.tables.specs.Algebras.{tables, table}
use Rattle.tables.specs.Definitions.{pairs}
use Rattle.tables.proofs.Entries.{table-part, table-part-length}
use Rattle.tables.proofs.Answers.{pairs-lawful}
use Rattle.decisions.specs.Decisions.{affirmed, refused, assumed, newest, grounded, expression_of}
use Rattle.decisions.specs.First.{assuming}
use Rattle.decisions.specs.Exceeding.{Exceeds, commands, WithinLimits}
use Rattle.decisions.proofs.Walks.{Settled, tables-after}
use Rattle.decisions.proofs.Carried.{grounded-refused}
use Rattle.decisions.proofs.Words.{read-atoms, tree-numbers}
use Rattle.decisions.proofs.Exceeding.{within-settled, settled-within, demand3}

-- o' assumes what o assumes, and perhaps more
pub record More (o o' : Assumptions) : Type 0 where
  pub trues : (c : ℕ) → o.trues c ≡ true → o'.trues c ≡ true
  pub falses : (c : ℕ) → o.falses c ≡ true → o'.falses c ≡ true

pub obeys-less : {o o' : Assumptions} → More o o' → (xs : List ℕ) (p : Interpretation) → Obeys o' xs p → Obeys o xs p
obeys-less M xs p h = record { has-trues = λ c m k. h.has-trues c m (M.trues c k); lacks-falses = λ c m k. h.lacks-falses c m (M.falses c k) }

-- ---- tables

module _ (K P G : ℕ) {o o' : Assumptions} (M : More o o') where
  -- a part of a table exceeds no limit that the table keeps
  part-exceeds : (es : List Expr) (n : ℕ) → Chain es n → Exceeds P G (newest (map (table (pairs K) o') es)) → Exceeds P G (newest (map (table (pairs K) o) es))
  unfolding Chain
  part-exceeds [] n c h = h
  part-exceeds (e ∷ es) n (lo, len, en, l, d, rest) (inl h) = inl (let k = table-part-length (pairs K) (pairs-lawful K) o o' e d (obeys-less M _) in omega arith)
  part-exceeds (e ∷ es) n (lo, len, en, l, d, rest) (inr (x, m, h)) = inr (x, table-part (pairs K) (pairs-lawful K) o o' e d (obeys-less M _) x m, h)

  after-exceeds : (cs : List Placed) → Exceeds P G (newest (act_all (tables (pairs K) o') 0 (commands_of cs) [])) → Exceeds P G (newest (act_all (tables (pairs K) o) 0 (commands_of cs) []))
  unfolding Chain
  after-exceeds cs h =
      subst (λ ts. Exceeds P G (newest ts)) (sym (tables-after (pairs K) o cs))
      (part-exceeds (act_all trees 0 (commands_of cs) []) _ (chain-all 0 (commands_of cs) [] refl) (subst (λ ts. Exceeds P G (newest ts)) (tables-after (pairs K) o' cs) h))

-- ---- requests

module _ (K : ℕ) (a : Request) {z : Counts} (passed : check K a ≡ Passed z) (i o : ℕ) (true_there : i < 2 ^ z.atoms) (false_there : o < 2 ^ z.atoms) (apart : bit_and i o ≡ 0) where
  -- the checks pass as before
  pub assuming-passes : check K (assuming i o a) ≡ Passed z
  unfolding check checks absent_test clash_test first_of
  assuming-passes = rw (there i true_there, there o false_there, eq-eqb (bit_and i o) 0 apart) (rw (there a.assumed_true A.true_there, there a.assumed_false A.false_there, eq-eqb (bit_and a.assumed_true a.assumed_false) 0 A.apart) at passed)
    where
      A : Accepted K a z
      A = check-accepted K a z passed

      there : (x : ℕ) → x < 2 ^ z.atoms → ltb x (2 ^ (counts_of (reading K a.bytes)).atoms) ≡ true
      there x l = ap (λ n. ltb x (2 ^ n)) (read-atoms K a passed) ∙ lt-ltb x (2 ^ z.atoms) l

module _ (K : ℕ) (a : Request) (s : Settled (grounded K a)) (i o : ℕ) (M : More (assumed a) (by_masks i o)) where
  -- where they pass, no table on the way exceeds the limits
  pub assuming-settled : {z : Counts} → check K (assuming i o a) ≡ Passed z → Settled (grounded K (assuming i o a))
  unfolding assumed
  assuming-settled {z} h = within-settled K (assuming i o a) (record {
    counts = z;
    passed = h;
    none = λ k l x. (settled-within K a s).none k l (after-exceeds K a.pair_limit a.subset_limit M (take (suc k) (commands K a)) x);
  })

  -- 02, Item 5: never raises 15 or 16. What refuses then is a check
  pub assuming-number : {n at : ℕ} → grounded K (assuming i o a) ≡ refused n at → n ≤ absent
  assuming-number {n} {at} g = checked (check K (assuming i o a)) refl
    where
      checked : (c : Checked) → check K (assuming i o a) ≡ c → n ≤ absent
      checked (Passed z) h = absurd (subst Settled g (assuming-settled h))
      checked (Refused m p) h = let q = sym (grounded-refused K (assuming i o a) h) ∙ g in let e : m ≡ n = cc in subst (λ x. x ≤ absent) e (check-number K (assuming i o a) h)

-- ---- more assumptions on a request that is affirmed

module _ (K : ℕ) (a : Request) (h : grounded K a ≡ affirmed) where
  abbrev e : Expr
  e = expression_of K a.bytes

  settled : Settled (grounded K a)
  settled = subst Settled (sym h) tt

  within : WithinLimits K a
  within = settled-within K a settled

  abbrev n : ℕ
  n = length (numbers e)

  atoms : n ≡ within.counts.atoms
  atoms = ap length (tree-numbers K a within.passed) ∙ length_run 0 within.counts.atoms

  pub affirmed-numbers : numbers e ≡ run 0 n
  affirmed-numbers = tree-numbers K a within.passed ∙ ap (run 0) (sym atoms)

  pub affirmed-assumed : (a.assumed_true < 2 ^ n) × (a.assumed_false < 2 ^ n)
  affirmed-assumed = let A = check-accepted K a within.counts within.passed in rw atoms (A.true_there, A.false_there)

  pub affirmed-there : (c : ℕ) → ltb c n ≡ true → Memᴰ c (numbers e)
  affirmed-there c l = subst (Memᴰ c) (sym affirmed-numbers) (run_in 0 n zero-le (rw zero-add (ltb-true c n l)))

  -- where some answer set obeys them, none is in both, and the answer is still yes
  pub assuming-affirmed : (i o : ℕ) → i < 2 ^ n → o < 2 ^ n → More (assumed a) (by_masks i o) → (p : Interpretation) → Obeys (by_masks i o) (numbers e) p → AnswerSet e p
      → grounded K (assuming i o a) ≡ affirmed
  unfolding assumed by_masks
  assuming-affirmed i o l r M p k s =
      let passes = assuming-passes K a within.passed i o (rw (sym atoms) l) (rw (sym atoms) r) (has-none-zero (bit_and i o) (λ c. has-and c i o ∙ step c (ltb c n) refl)) in
      let still = assuming-settled K a settled i o M passes in
      ((demand3 K (assuming i o a)).yes (settled-within K (assuming i o a) still)).1 (λ none. none p k s)
    where
      -- it would be in p and out
      step : (c : ℕ) (b : Bool) → ltb c n ≡ b → (has c i && has c o) ≡ false
      step c true g = both (has c i) (has c o) refl refl
        where
          both : (x y : Bool) → has c i ≡ x → has c o ≡ y → (x && y) ≡ false
          both true true u v = absurd (true≢false (sym (k.has-trues c (affirmed-there c g) u) ∙ k.lacks-falses c (affirmed-there c g) v))
          both true false u v = refl
          both false y u v = refl
      step c false g = ap (λ b. b && has c o) (has-ge c n i l (ltb-false c n g))
