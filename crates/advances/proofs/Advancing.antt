-- A command on tables that stand with their counts. Assumes nothing.
use mathlib.Core.Path.{◌≡◌, sym, ap, ◌∙◌}
use mathlib.Core.List.{List}
use Prim.Native.Nat.{ℕ, ◌-◌, ◌≤◌, ◌<◌}
use native.Mathlib.Omega.{arith}
use lib.ListN.{length, length-append}
use Rattle.expression.specs.declared.Command.{Command}
use Rattle.expression.specs.Limits.{depth_limit}
use Rattle.expression.specs.Effects.{effect}
use Rattle.semantics.specs.Expressions.{Operations, act}
use Rattle.semantics.proofs.Effects.{act-does}
use Rattle.rows.specs.Parts.{zeros}
use Rattle.rows.proofs.Parts.{zeros-long}
use Rattle.entries.specs.declared.Carry.{Carry}
use Rattle.entries.specs.Carries.{Entry}
use Rattle.workspace.specs.Workspace.{stack_counts, counts_of, Acted}
use Rattle.stacks.specs.Stacks.{count_below, Applies, tallied}
use Rattle.stacks.proofs.Counts.{counts-long, count-newest, count-second, tally-does}
use Rattle.operands.specs.Operands.{Loaded}
use Rattle.operations.specs.Operations.{Meets}
use Rattle.advances.specs.Advances.{Stands, Advanced}

counts_all : {X : Type 0} (n : ℕ) (ts : List (List X)) → length ts ≤ n → length (counts_of n ts) ≡ n
unfolding counts_of
counts_all n ts l = length-append (stack_counts ts) (zeros (n - length ts)) ∙ omega (arith, counts-long ts, zeros-long (n - length ts))

module _ {carry : Carry} {d w p : ℕ} {ts : List (List Entry)} {beyond ws vals counts : List ℕ} (h : Stands carry d w p ts beyond ws vals counts) where
  deep : length ts ≤ depth_limit
  deep = omega (arith, h.holds.free, h.areas)

  pub eight : length counts ≡ depth_limit
  eight = ap length h.tallies ∙ counts_all depth_limit ts deep

  module _ (t : ℕ) (e : length ts ≡ t) where
    pub counts-reach : t ≤ length counts
    counts-reach = omega (arith, e, deep, eight)

    pub loaded : (n m : ℕ) → n ≡ count_below t 1 counts → m ≡ count_below t 2 counts → Loaded carry d w p t n m ts beyond ws vals
    loaded n m en em = record {
      holds = h.holds;
      tables = e;
      newer = sym (en ∙ ap (count_below t 1) h.tallies ∙ count-newest depth_limit t ts e);
      older = sym (em ∙ ap (count_below t 2) h.tallies ∙ count-second depth_limit t ts e);
    }

    module _ (c : Command) (m : Meets c d t) where
      applies : Applies (effect c) t depth_limit
      applies = (m.0, omega (arith, e, deep), omega (arith, m.1, h.areas))

      pub counts-apply : Applies (effect c) t (length counts)
      counts-apply = rw eight applies

      module _ (B : Operations (List Entry)) (a : ℕ) {r : ℕ} {ws' vals' counts' : List ℕ} (g : Acted carry d w p (act B a c ts) beyond r ws ws' vals') where
        pub advanced : (r ≤ p → counts' ≡ tallied (effect c) t r counts) → (p < r → counts' ≡ counts) → Advanced carry d w p (act B a c ts) beyond r ws counts ws' vals' counts'
        advanced told same = record {
          most = g.most;
          fault = g.fault;
          stands = λ l. record {
            holds = g.holds l;
            tallies = told l ∙ rw (h.tallies, sym (g.count l)) (tally-does depth_limit t (effect c) (act B a c) (act-does B a c) ts e applies);
            areas = h.areas;
          };
          same = λ l. (g.same l, same l);
        }
