-- A walk over tables under way, from where it began: what each place of the code knows. Assumes nothing.
use mathlib.Core.Path.{◌≡◌}
use mathlib.Core.List.{List, []}
use Prim.Native.Nat.{ℕ, ◌-◌, ◌≤◌}
use native.Mathlib.Omega.{arith}
use lib.ListN.{length}
use Rattle.std.specs.Prelude.{Ok}
use Rattle.labels.specs.Labels.{label_count}
use Rattle.expression.specs.declared.Counts.{Counts}
use Rattle.expression.specs.Checks.{Passed, check_bytes}
use Rattle.expression.proofs.Checks.{bytes-joined}
use Rattle.semantics.specs.AnswerSets.{Assumptions}
use Rattle.entries.specs.declared.Carry.{Carry}
use Rattle.entries.specs.Carries.{Entry}
use Rattle.leaves.specs.declared.Tables.{Tables}
use Rattle.leaves.specs.Leaves.{Wide}
use Rattle.leaves.proofs.Writing.{wide-two}
use Rattle.stretches.specs.declared.Stretch.{Stretch}
use Rattle.advances.specs.Advances.{Stands}
use Rattle.ahead.specs.Ahead.{Ahead}
use Rattle.walks.specs.Walks.{Reaches}
use Rattle.walks.proofs.Going.{Going, going-ends, ends-joined}
use Rattle.walks.proofs.Stretching.{going-ahead}

module _ (kind : Tables) (carry : Carry) (o : Assumptions) (d w p stop : ℕ) (s : List ℕ) where
  -- whatever tables the walk began on, none of them its own, the walk is at an offset after counts n
  abbrev pub Led : List ℕ → List ℕ → List ℕ → ℕ → Counts → List ℕ → List ℕ → List ℕ → Type 0
  Led ws₀ vals₀ counts₀ at n ws vals counts = (z : Counts) (beyond : List ℕ) → check_bytes label_count s ≡ Passed z → Stands carry d w p [] beyond ws₀ vals₀ counts₀
      → Going kind carry o w p stop s d z beyond at n ws vals counts

  module _ (wide : Wide kind w) (some : 1 ≤ p) (within : stop ≤ length s) where
    -- behind commands done at once
    pub led-ahead : {ws₀ vals₀ counts₀ ws vals counts ws' vals' counts' : List ℕ} {at : ℕ} {n : Counts} {r : Stretch} → Led ws₀ vals₀ counts₀ at n ws vals counts
        → ((ts : List (List Entry)) (beyond : List ℕ) → Stands carry d w p ts beyond ws vals counts → length ts ≡ n.depth → Ahead carry d w p stop at n s ts beyond r ws' vals' counts')
        → Led ws₀ vals₀ counts₀ r.next r.counts ws' vals' counts'
    led-ahead led run z beyond h b =
        let g = led z beyond h b in
        going-ahead kind carry o w p stop s (wide-two kind w wide) some within g (run g.stack beyond g.stands g.leading.deep)

    -- at the end
    pub led-ends : {z : Counts} {beyond ws vals counts : List ℕ} {at : ℕ} {n : Counts} → check_bytes label_count s ≡ Passed z → Going kind carry o w p stop s d z beyond at n ws vals counts → stop ≤ at
        → Reaches kind carry o d w p stop s beyond ws vals counts (Ok n.depth)
    led-ends {z} h g l = (
      g.stack,
      going-ends kind carry o w p stop s g.leading within l,
      g.stands,
      g.leading.deep,
      λ e. ends-joined kind carry o w p stop s g.leading within (bytes-joined label_count s z h).joined l e,
      λ m. g.leading.begun (omega (arith, l, m)),
    )
