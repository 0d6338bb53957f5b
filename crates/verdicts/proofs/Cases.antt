-- What the verdict is, by what the checks and the test of the record find. Over K labels. Assumes nothing.
use Rattle.std.specs.Prelude.{Some, None}
use mathlib.Core.Path.{◌≡◌, refl}
use mathlib.Core.Bool.{cond}
use mathlib.Core.List.{List}
use Prim.Native.Nat.{ℕ}
use lib.ListN.{length}
use borrow.Author.Tests.{eq-eqb, ne_eqb}
use Rattle.expression.specs.Checks as checked
use Rattle.expression.specs.declared.Counts.{Counts}
use Rattle.expression.specs.declared.Outcome.TheVariants as outcome
use Rattle.expression.specs.Refusals.{bad_record}
use Rattle.expression.specs.Checks.{Request, check}
use Rattle.tables.specs.Definitions.{grounded_accepts}
use Rattle.decisions.specs.Decisions.{newest}
use Rattle.checks.specs.Requests.{request}
use Rattle.records.specs.declared.Record.{Record}
use Rattle.records.specs.Steps.{found, formed_at, conclusion, verdict}

module _ (K : ℕ) (a : Request) (r : Record) (ws : List ℕ) where
  pub verdict-refused : {n at : ℕ} → check K a ≡ checked.Refused n at → verdict K a r ws ≡ outcome.Refused n at
  unfolding verdict
  verdict-refused h = rw (h, verdict)

  module _ {z : Counts} (h : check K a ≡ checked.Passed z) where
    pub verdict-unformed : formed_at K a r ws ≡ None → verdict K a r ws ≡ outcome.Refused bad_record r.place
    unfolding verdict
    verdict-unformed e = rw (h, verdict, e)

    pub verdict-formed : {n : Counts} → formed_at K a r ws ≡ Some n → verdict K a r ws ≡ conclusion K a r ws
    unfolding verdict
    verdict-formed e = rw (h, verdict, e)

  pub conclusion-early : (r.place ≡ length a.bytes → ⊥) → conclusion K a r ws ≡ outcome.Refused bad_record r.place
  unfolding conclusion
  conclusion-early l = rw (ne_eqb r.place (length a.bytes) l)

  pub conclusion-ended : r.place ≡ length a.bytes → conclusion K a r ws ≡ cond (grounded_accepts K (newest (found K a r ws))) (outcome.Yes 0) outcome.No
  unfolding conclusion
  conclusion-ended e = rw (eq-eqb r.place (length a.bytes) e)

-- the assumptions are of no concern where no command acts
pub conclusion-any : (K : ℕ) (s : List ℕ) (p g room i o i' o' : ℕ) (r : Record) (ws : List ℕ) → conclusion K (request s p g room i o) r ws ≡ conclusion K (request s p g room i' o') r ws
unfolding conclusion
conclusion-any K s p g room i o i' o' r ws = refl
