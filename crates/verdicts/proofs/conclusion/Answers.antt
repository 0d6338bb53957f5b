-- `verdicts::conclusion`: before the end, or what is found in the final table.
use mathlib.Core.Path.{refl, sym}
use native.Mathlib.Omega.{arith}
use lib.ListN.{length}
use Rattle.labels.specs.Labels.{label_count}
use Rattle.expression.specs.Checks.{Request}
use Rattle.checks.specs.Requests.{asked as asked_of}
use Rattle.checks.proofs.Passing.{accepted}
use Rattle.verdicts.proofs.Cases.{conclusion-early}
use Rattle.record_tests.proofs.Lengths.{eight}
use Rattle.verdicts.proofs.Concluding.{first-within, first_rows, concludes}
use Rattle.verdicts.proofs.conclusion.Goals as goal

pub returns-then-state-s : goal.returns-then-state-s
returns-then-state-s c =
    let asked : Request = asked_of c.args.s.now c.args.terms (length c.args.ws.now) in
    rw c.at.ensures (sym (conclusion-early label_count asked c.args.state c.args.ws.now c.if-state-s.true))

pub overflow_add-terms : goal.overflow_add-terms
overflow_add-terms c = omega (arith, (accepted (asked_of c.args.s.now c.args.terms (length c.args.ws.now)) c.requires.passed.1).subsets.1)

pub least_accepting-found-requires : goal.least_accepting-found-requires
least_accepting-found-requires c =
    let asked : Request = asked_of c.args.s.now c.args.terms (length c.args.ws.now) in
    let k = eight c.args.state _ c.well_formed.0 in
    let l = c.if-state-s.false in
    (first-within asked c.args.state c.args.ws.now c.requires.passed.1 c.requires.formed.1 refl k l, first_rows asked c.args.state c.args.ws.now c.requires.passed.1 c.requires.formed.1 refl k l, omega arith)

pub returns : goal.returns
returns c =
    let asked : Request = asked_of c.args.s.now c.args.terms (length c.args.ws.now) in
    let k = eight c.args.state _ c.well_formed.0 in
    rw c.and.ensures (concludes asked c.args.state c.args.ws.now c.requires.passed.1 c.requires.formed.1 refl k c.if-state-s.false _ c.least_accepting-found.ensures)
