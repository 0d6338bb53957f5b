-- Words of which the areas take a part, cleared: no tables stand there. Assumes nothing.
use mathlib.Core.Path.{◌≡◌, sym, ap, ◌∙◌}
use mathlib.Core.List.{List, [], ◌++◌, append_assoc}
use Prim.Native.Nat.{ℕ, ◌+◌, ◌-◌, ◌*◌, ◌≤◌}
use native.Mathlib.Omega.{arith}
use lib.ListN.{drop}
use Rattle.expression.specs.Limits.{depth_limit, area_count}
use Rattle.rows.specs.Parts.{zeros}
use Rattle.rows.proofs.Parts.{zeros-append}
use Rattle.entries.specs.declared.Carry.{Carry}
use Rattle.workspace.specs.Workspace.{workspace_of, Roomy, stack_counts, counts_of}
use Rattle.stacks.specs.Stacks.{cleared}
use Rattle.stacks.proofs.Clearing.{workspace-none, cleared-holds}
use Rattle.advances.specs.Advances.{Stands}

module _ (d w p need : ℕ) (ws : List ℕ) (within : d * (p * w) ≤ need) where
  -- what stands behind the areas
  abbrev pub behind : List ℕ
  behind = zeros (need - d * (p * w)) ++ drop need ws

  areas-clear : workspace_of d w p [] behind ≡ cleared need ws
  areas-clear =
      let k = d * (p * w) in
      workspace-none d w p behind ∙ sym (append_assoc (zeros k) (zeros (need - k)) (drop need ws))
      ∙ ap (λ (u : List ℕ). u ++ drop need ws) (zeros-append k (need - k) ∙ ap zeros (let z : k + (need - k) ≡ need = omega arith in z))

  pub stands-clear : (carry : Carry) (ws' vals counts : List ℕ) → ws' ≡ cleared need ws → counts ≡ zeros depth_limit → Roomy carry d p vals → 1 ≤ d → d ≤ area_count → Stands carry d w p [] behind ws' vals counts
  unfolding counts_of stack_counts
  stands-clear carry ws' vals counts e f r some few = record { holds = cleared-holds carry d w p behind ws' vals (e ∙ sym areas-clear) (omega arith) r; tallies = f; areas = few }

  pub all-clear : (ws' : List ℕ) → ws' ≡ workspace_of d w p [] behind → ws' ≡ cleared need ws
  all-clear ws' e = e ∙ areas-clear
