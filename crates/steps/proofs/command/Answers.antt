-- `steps::command`: there is none, or it acts and is refused or moves.
use mathlib.Core.Path.{◌≡◌, refl, sym, ap, ◌∙◌, subst}
use mathlib.Core.List.{[], map}
use Prim.Native.Nat.{ℕ, ◌+◌}
use native.Mathlib.Omega.{arith}
use lib.ListN.{length, drop}
use Rattle.labels.specs.Labels.{label_count}
use Rattle.expression.specs.declared.Command.{Command}
use Rattle.expression.specs.Limits.{areas_for}
use Rattle.expression.specs.Told.{read_of}
use Rattle.expression.specs.Checks.{Request, depth_of, need_of}
use Rattle.expression.specs.Commands.{Got, read_at}
use Rattle.entries.specs.declared.Carry.TheVariants.{Nothing}
use Rattle.advances.specs.Advances.{Stands, Advanced}
use Rattle.checks.specs.Requests.{asked as asked_of}
use Rattle.checks.proofs.Passing.{accepted}
use Rattle.records.specs.Steps.{found, move_to, command}
use Rattle.starts.proofs.Cases.{command-none, command-read, by-stays, by_all}
use Rattle.advances.proofs.Bare.{bare}
use Rattle.record_tests.proofs.Forming.{numbered, stands, bare-many, suits, meets, tables_after}
use Rattle.record_tests.proofs.Lengths.{eight}
use Rattle.steps.proofs.Moving.{made, meant, refused-follows, moved-follows}
use Rattle.steps.proofs.command.Goals as goal

pub returns-in_default : goal.returns-in_default
returns-in_default c =
    let asked : Request = asked_of c.args.s.now c.args.terms (length c.args.ws.now) in
    by-stays (command-none label_count asked c.args.state c.args.ws.now c.args.n (sym c.read_next.ensures ∙ ap read_of c.in_default.is)) _ refl

pub atom_at-atom-requires : goal.atom_at-atom-requires
atom_at-atom-requires c =
    let asked : Request = asked_of c.args.s.now c.args.terms (length c.args.ws.now) in
    numbered asked c.args.state c.args.ws.now c.requires.passed.1 c.requires.formed refl (eight c.args.state _ c.well_formed.0)

pub overflow_add-terms : goal.overflow_add-terms
overflow_add-terms c =
    let asked : Request = asked_of c.args.s.now c.args.terms (length c.args.ws.now) in
    omega (arith, (accepted asked c.requires.passed.1).subsets.1)

pub advance_here-k-requires-clause-le_w : goal.advance_here-k-requires-clause-le_w
advance_here-k-requires-clause-le_w c =
    let asked : Request = asked_of c.args.s.now c.args.terms (length c.args.ws.now) in
    let A = accepted asked c.requires.passed.1 in
    (omega (arith, A.subsets.0), omega (arith, A.subsets.1), A.pairs.0, A.pairs.1)

pub advance_here-k-requires-clause-suits : goal.advance_here-k-requires-clause-suits
advance_here-k-requires-clause-suits c =
    let asked : Request = asked_of c.args.s.now c.args.terms (length c.args.ws.now) in
    let passed = c.requires.passed.1 in
    let formed = c.requires.formed in
    let areas = c.requires.passed.2 in
    let k = eight c.args.state _ c.well_formed.0 in
    let action : Command = c.in-Ok.c in
    let next : ℕ = c.in-Ok.next in
    let read : read_at label_count c.args.s.now c.args.state.place ≡ Got action next = sym c.in-Ok.ensures in (
      suits asked c.args.state c.args.ws.now passed formed refl k action next read,
      meets asked c.args.state c.args.ws.now passed formed refl k action next read areas,
      (_, _, c.atom_at-atom.ensures),
      (_, _, stands asked c.args.state c.args.ws.now passed formed refl k areas, bare-many asked c.args.state c.args.ws.now passed formed refl k),
    )

pub fault_of-requires : goal.fault_of-requires
fault_of-requires c =
    let asked : Request = asked_of c.args.s.now c.args.terms (length c.args.ws.now) in
    (c.if-limit-k.true, (accepted asked c.requires.passed.1).pairs.1)

pub returns-then-limit-k : goal.returns-then-limit-k
returns-then-limit-k c =
    let asked : Request = asked_of c.args.s.now c.args.terms (length c.args.ws.now) in
    let action : Command = c.in-Ok.c in
    let next : ℕ = c.in-Ok.next in
    let standing : Stands Nothing c.args.areas (c.args.terms.subset_limit + 2) c.args.terms.pair_limit (map bare (found label_count asked c.args.state c.args.ws.now)) (drop (need_of label_count asked) c.args.ws.now) c.args.ws.now [] c.args.state.counts = stands asked c.args.state c.args.ws.now c.requires.passed.1 c.requires.formed refl (eight c.args.state _ c.well_formed.0) c.requires.passed.2 in
    let as_many : length (map bare (found label_count asked c.args.state c.args.ws.now)) ≡ c.args.state.tables = bare-many asked c.args.state c.args.ws.now c.requires.passed.1 c.requires.formed refl (eight c.args.state _ c.well_formed.0) in
    let Acted : ℕ → Type 0 = λ d. Advanced Nothing d (c.args.terms.subset_limit + 2) c.args.terms.pair_limit (made asked c.args.n.atoms action (found label_count asked c.args.state c.args.ws.now)) (drop (need_of label_count asked) c.args.ws.now) c.advance_here-k.result c.args.ws.now c.args.state.counts c.advance_here-k.new.ws [] c.advance_here-k.new.counts in
    let acted : Acted (areas_for (depth_of label_count c.args.s.now)) = subst Acted c.requires.passed.2 (c.advance_here-k.ensures _ _ c.atom_at-atom.ensures _ _ standing as_many) in
    let read : read_at label_count c.args.s.now c.args.state.place ≡ Got action next = sym c.in-Ok.ensures in
    let commands : command label_count asked c.args.n c.args.state c.args.ws.now ≡ move_to label_count asked next (meant asked c.args.n.atoms action (found label_count asked c.args.state c.args.ws.now)) c.args.state c.args.ws.now = command-read label_count asked c.args.state c.args.ws.now c.args.n read in
    rw c.at.ensures (by_all commands (refused-follows asked c.args.n.atoms action (found label_count asked c.args.state c.args.ws.now) acted next c.args.state c.if-limit-k.true _ c.fault_of.ensures))

pub returns : goal.returns
returns c =
    let asked : Request = asked_of c.args.s.now c.args.terms (length c.args.ws.now) in
    let action : Command = c.in-Ok.c in
    let next : ℕ = c.in-Ok.next in
    let read : read_at label_count c.args.s.now c.args.state.place ≡ Got action next = sym c.in-Ok.ensures in
    let standing : Stands Nothing c.args.areas (c.args.terms.subset_limit + 2) c.args.terms.pair_limit (map bare (found label_count asked c.args.state c.args.ws.now)) (drop (need_of label_count asked) c.args.ws.now) c.args.ws.now [] c.args.state.counts = stands asked c.args.state c.args.ws.now c.requires.passed.1 c.requires.formed refl (eight c.args.state _ c.well_formed.0) c.requires.passed.2 in
    let as_many : length (map bare (found label_count asked c.args.state c.args.ws.now)) ≡ c.args.state.tables = bare-many asked c.args.state c.args.ws.now c.requires.passed.1 c.requires.formed refl (eight c.args.state _ c.well_formed.0) in
    let Acted : ℕ → Type 0 = λ d. Advanced Nothing d (c.args.terms.subset_limit + 2) c.args.terms.pair_limit (made asked c.args.n.atoms action (found label_count asked c.args.state c.args.ws.now)) (drop (need_of label_count asked) c.args.ws.now) c.advance_here-k.result c.args.ws.now c.args.state.counts c.advance_here-k.new.ws [] c.advance_here-k.new.counts in
    let acted : Acted (areas_for (depth_of label_count c.args.s.now)) = subst Acted c.requires.passed.2 (c.advance_here-k.ensures _ _ c.atom_at-atom.ensures _ _ standing as_many) in
    let commands : command label_count asked c.args.n c.args.state c.args.ws.now ≡ move_to label_count asked next (meant asked c.args.n.atoms action (found label_count asked c.args.state c.args.ws.now)) c.args.state c.args.ws.now = command-read label_count asked c.args.state c.args.ws.now c.args.n read in
    let k = eight c.args.state _ c.well_formed.0 in
    let t = tables_after asked c.args.state c.args.ws.now c.requires.passed.1 c.requires.formed refl k action next read c.counted.result c.counted.ensures in
    by_all commands (moved-follows asked c.args.n.atoms action (found label_count asked c.args.state c.args.ws.now) acted next c.args.state c.if-limit-k.false refl c.counted.result.depth t)
