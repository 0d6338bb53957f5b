-- `record_tests::formed_at`: the place, how many tables, and their form.
use mathlib.Core.Path.{sym, ap}
use mathlib.Core.Bool.{not}
use Prim.Native.Nat.{ℕ, ◌≤◌}
use native.Mathlib.Omega.{arith}
use lib.ListN.{length}
use borrow.Author.Tests.{not-true, not-false}
use Rattle.labels.specs.Labels.{label_count}
use Rattle.expression.specs.Checks.{Request, depth_of}
use Rattle.expression.specs.Limits.{depth_limit}
use Rattle.checks.specs.Requests.{request}
use Rattle.expression.proofs.Accepted.{Accepted}
use Rattle.checks.proofs.Passing.{accepted}
use Rattle.record_tests.proofs.Tests.{unlocated, miscounted, malformed, well-formed}
use Rattle.record_tests.proofs.Reached.{Here, located_here, here-within}
use Rattle.record_tests.proofs.Lengths.{eight}
use Rattle.record_tests.proofs.formed_at.Goals as goal

pub returns-in_err-n : goal.returns-in_err-n
returns-in_err-n c =
    let asked : ℕ → ℕ → Request = λ i o. request c.args.s.now c.args.terms.pair_limit c.args.terms.subset_limit (length c.args.ws.now) i o in
    λ i o. rw c.from_residual.ensures (sym (unlocated label_count (asked i o) c.args.state c.args.ws.now (sym c.in_err-n.ensures)))

pub returns-then-state-n : goal.returns-then-state-n
returns-then-state-n c =
    let asked : ℕ → ℕ → Request = λ i o. request c.args.s.now c.args.terms.pair_limit c.args.terms.subset_limit (length c.args.ws.now) i o in
    λ i o. sym (miscounted label_count (asked i o) c.args.state c.args.ws.now (sym c.in_ok-n.ensures) c.if-state-n.true)

pub overflow_add-terms : goal.overflow_add-terms
overflow_add-terms c =
    let asked : ℕ → ℕ → Request = λ i o. request c.args.s.now c.args.terms.pair_limit c.args.terms.subset_limit (length c.args.ws.now) i o in
    omega (arith, (accepted (asked c.requires.0 c.requires.1) c.requires.3).subsets.1)

pub are_found-requires : goal.are_found-requires
are_found-requires c =
    let asked : ℕ → ℕ → Request = λ i o. request c.args.s.now c.args.terms.pair_limit c.args.terms.subset_limit (length c.args.ws.now) i o in
    let A : Accepted label_count (asked c.requires.0 c.requires.1) c.requires.2 = accepted (asked c.requires.0 c.requires.1) c.requires.3 in
    let here : Here label_count c.args.s.now c.requires.2 c.args.state.place c.in_ok-n.n = located_here label_count c.args.s.now c.requires.2 c.args.state.place c.in_ok-n.n A.joined (sym c.in_ok-n.ensures) in
    let shallow : c.in_ok-n.n.depth ≤ depth_limit = here.1.1.depth in
    let deep : c.in_ok-n.n.depth ≤ depth_of label_count c.args.s.now = here-within label_count c.args.s.now c.requires.2 here A.deepest in
    let k = eight c.args.state _ c.well_formed.0 in
    let t = c.if-state-n.false in
    (omega arith, omega (arith, A.subsets.1), A.pairs.1, omega (arith, k, t, shallow), rw c.requires.4 (omega (arith, t, deep)), rw c.requires.4 (omega (arith, A.deepest, A.joined.limited.deepest)), rw c.requires.4 A.room)

pub returns-then-not-are_found : goal.returns-then-not-are_found
returns-then-not-are_found c =
    let asked : ℕ → ℕ → Request = λ i o. request c.args.s.now c.args.terms.pair_limit c.args.terms.subset_limit (length c.args.ws.now) i o in
    λ i o. sym (malformed label_count (asked i o) c.args.state c.args.ws.now (sym c.in_ok-n.ensures) c.if-state-n.false c.are_found.result c.requires.4 c.are_found.ensures (not-true c.are_found.result (ap not c.if-not-are_found.true)))

pub returns : goal.returns
returns c =
    let asked : ℕ → ℕ → Request = λ i o. request c.args.s.now c.args.terms.pair_limit c.args.terms.subset_limit (length c.args.ws.now) i o in
    λ i o. sym (well-formed label_count (asked i o) c.args.state c.args.ws.now (sym c.in_ok-n.ensures) c.if-state-n.false c.are_found.result c.requires.4 c.are_found.ensures (not-false c.are_found.result (ap not c.if-not-are_found.false)))
