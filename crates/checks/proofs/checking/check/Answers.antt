-- `checking::check`: each way out passes the tests before it and takes its own. Assumes nothing.
use mathlib.Core.Path.{◌≡◌, sym, ap, ◌∙◌, subst}
use mathlib.Core.Bool.{not}
use mathlib.Core.List.{List, [], ◌∷◌}
use Prim.Native.Nat.{◌≤◌, ◌<◌}
use native.Mathlib.Omega.{arith}
use borrow.Author.Tests.{lt-ltb, le-ltb, eq-eqb, ne_eqb}
use Rattle.std.proofs.lemmas.Result.{err_from_is_err_and}
use Rattle.labels.specs.Labels.{label_count}
use Rattle.expression.specs.declared.Counts.{Counts}
use Rattle.expression.specs.Checks.{Checked, Passed, Request, Test, first_of, overlong_test, limits_test, cramped_test, clash_test, absent_test, checks, check, check_bytes}
use Rattle.expression.proofs.Checks.{refuses, passes, none_left, bytes-refuse, bytes-joined, bytes-pass, limits-tested}
use Rattle.checks.specs.declared.frames.Frame.{Frame}
use Rattle.checks.specs.Requests.{asked as asked_of}
use Rattle.checks.proofs.checking.check.Goals as goal

pub returns-then-s-gt-BYTE_LIMIT : goal.returns-then-s-gt-BYTE_LIMIT
unfolding check checks overlong_test
returns-then-s-gt-BYTE_LIMIT c = rw c.at.ensures (refuses _ _ _ (lt-ltb _ _ c.if-s-gt-BYTE_LIMIT.true))

pub returns-then-not-are_limits : goal.returns-then-not-are_limits
unfolding check checks limits_test overlong_test
returns-then-not-are_limits c =
    rw c.at-then-not-are_limits.ensures (
    passes _ _ _ _ (le-ltb _ _ c.if-s-gt-BYTE_LIMIT.false) (
    refuses _ _ _ (sym (ap not c.are_limits.ensures) ∙ ap not c.if-not-are_limits.true)))

pub returns-in_err-n : goal.returns-in_err-n
unfolding check checks limits_test overlong_test
returns-in_err-n c =
    let asked : Request = asked_of c.args.s.now c.args.terms c.args.room in
    let behind : (z : Counts) (ts : List Test) (x : Checked) → x ≡ first_of z ts → x ≡ first_of z (overlong_test asked.bytes ∷ limits_test asked.pair_limit asked.subset_limit ∷ ts) = λ z ts x h. passes _ _ _ x (le-ltb _ _ c.if-s-gt-BYTE_LIMIT.false) (passes _ _ _ x (sym (ap not c.are_limits.ensures) ∙ ap not c.if-not-are_limits.false) h) in
    let p = err_from_is_err_and c.from_residual.result c.from_residual.ensures.1 in
    rw (p.1, p.2) (behind _ _ _ (bytes-refuse _ _ _ _ _ (sym c.in_err-n.ensures)))

pub frame_for-requires : goal.frame_for-requires
frame_for-requires c =
    let asked : Request = asked_of c.args.s.now c.args.terms c.args.room in
    let counts : Counts = c.in_ok-n.n in
    let passed : check_bytes label_count asked.bytes ≡ Passed counts = sym c.in_ok-n.ensures in
    let l = limits-tested _ _ (sym c.are_limits.ensures ∙ c.if-not-are_limits.false) in
    ((bytes-joined _ _ _ passed).limited.deepest, l.0, l.1)

pub returns-then-room-frame_for : goal.returns-then-room-frame_for
unfolding check checks cramped_test limits_test overlong_test
returns-then-room-frame_for c =
    let asked : Request = asked_of c.args.s.now c.args.terms c.args.room in
    let behind : (z : Counts) (ts : List Test) (x : Checked) → x ≡ first_of z ts → x ≡ first_of z (overlong_test asked.bytes ∷ limits_test asked.pair_limit asked.subset_limit ∷ ts) = λ z ts x h. passes _ _ _ x (le-ltb _ _ c.if-s-gt-BYTE_LIMIT.false) (passes _ _ _ x (sym (ap not c.are_limits.ensures) ∙ ap not c.if-not-are_limits.false) h) in
    let counts : Counts = c.in_ok-n.n in
    let passed : check_bytes label_count asked.bytes ≡ Passed counts = sym c.in_ok-n.ensures in
    let later : Counts → List Test = λ z. let a = asked in cramped_test z.deepest a.pair_limit a.subset_limit a.room ∷ absent_test a.bytes z.atoms a.assumed_true a.assumed_false ∷ clash_test a.assumed_true a.assumed_false ∷ [] in
    let read : (x : Checked) → x ≡ first_of counts (later counts) → x ≡ check label_count asked = λ x h. behind _ _ x (bytes-pass _ _ later counts x passed h) in
    rw c.at-then-room-frame_for.ensures (read _ (refuses _ _ _ (lt-ltb _ _ (subst (λ (f : Frame). asked.room < f.need) c.frame_for.ensures c.if-room-frame_for.true))))

pub has_absent-requires : goal.has_absent-requires
has_absent-requires c =
    let asked : Request = asked_of c.args.s.now c.args.terms c.args.room in
    let counts : Counts = c.in_ok-n.n in
    let passed : check_bytes label_count asked.bytes ≡ Passed counts = sym c.in_ok-n.ensures in
    let l = (bytes-joined _ _ _ passed).limited.atoms in omega arith

pub returns-then-has_absent : goal.returns-then-has_absent
unfolding absent_test check checks cramped_test limits_test overlong_test
returns-then-has_absent c =
    let asked : Request = asked_of c.args.s.now c.args.terms c.args.room in
    let counts : Counts = c.in_ok-n.n in
    let behind : (z : Counts) (ts : List Test) (x : Checked) → x ≡ first_of z ts → x ≡ first_of z (overlong_test asked.bytes ∷ limits_test asked.pair_limit asked.subset_limit ∷ ts) = λ z ts x h. passes _ _ _ x (le-ltb _ _ c.if-s-gt-BYTE_LIMIT.false) (passes _ _ _ x (sym (ap not c.are_limits.ensures) ∙ ap not c.if-not-are_limits.false) h) in
    let passed : check_bytes label_count asked.bytes ≡ Passed counts = sym c.in_ok-n.ensures in
    let later : Counts → List Test = λ z. let a = asked in cramped_test z.deepest a.pair_limit a.subset_limit a.room ∷ absent_test a.bytes z.atoms a.assumed_true a.assumed_false ∷ clash_test a.assumed_true a.assumed_false ∷ [] in
    let read : (x : Checked) → x ≡ first_of counts (later counts) → x ≡ check label_count asked = λ x h. behind _ _ x (bytes-pass _ _ later counts x passed h) in
    let pins : List Test = let a = asked in absent_test a.bytes counts.atoms a.assumed_true a.assumed_false ∷ clash_test a.assumed_true a.assumed_false ∷ [] in
    let roomy : (x : Checked) → x ≡ first_of counts pins → x ≡ check label_count (asked) = λ x h. read x (passes _ _ _ x (le-ltb _ _ (subst (λ (f : Frame). f.need ≤ (asked).room) c.frame_for.ensures c.if-room-frame_for.false)) h) in
    rw c.at-then-has_absent.ensures (roomy _ (refuses _ _ _ (sym c.has_absent.ensures ∙ c.if-has_absent.true)))

pub returns-then-pins-ne0 : goal.returns-then-pins-ne0
unfolding absent_test check checks clash_test cramped_test limits_test overlong_test
returns-then-pins-ne0 c =
    let asked : Request = asked_of c.args.s.now c.args.terms c.args.room in
    let counts : Counts = c.in_ok-n.n in
    let behind : (z : Counts) (ts : List Test) (x : Checked) → x ≡ first_of z ts → x ≡ first_of z (overlong_test asked.bytes ∷ limits_test asked.pair_limit asked.subset_limit ∷ ts) = λ z ts x h. passes _ _ _ x (le-ltb _ _ c.if-s-gt-BYTE_LIMIT.false) (passes _ _ _ x (sym (ap not c.are_limits.ensures) ∙ ap not c.if-not-are_limits.false) h) in
    let passed : check_bytes label_count asked.bytes ≡ Passed counts = sym c.in_ok-n.ensures in
    let later : Counts → List Test = λ z. let a = asked in cramped_test z.deepest a.pair_limit a.subset_limit a.room ∷ absent_test a.bytes z.atoms a.assumed_true a.assumed_false ∷ clash_test a.assumed_true a.assumed_false ∷ [] in
    let read : (x : Checked) → x ≡ first_of counts (later counts) → x ≡ check label_count asked = λ x h. behind _ _ x (bytes-pass _ _ later counts x passed h) in
    let pins : List Test = let a = asked in absent_test a.bytes counts.atoms a.assumed_true a.assumed_false ∷ clash_test a.assumed_true a.assumed_false ∷ [] in
    let roomy : (x : Checked) → x ≡ first_of counts pins → x ≡ check label_count (asked) = λ x h. read x (passes _ _ _ x (le-ltb _ _ (subst (λ (f : Frame). f.need ≤ (asked).room) c.frame_for.ensures c.if-room-frame_for.false)) h) in
    rw c.at-then-pins-ne0.ensures (roomy _ (
    passes _ _ _ _ (sym c.has_absent.ensures ∙ c.if-has_absent.false) (
    refuses _ _ _ (ap not (ne_eqb _ _ c.if-pins-ne0.true)))))

pub returns : goal.returns
unfolding absent_test check checks clash_test cramped_test limits_test overlong_test
returns c =
    let asked : Request = asked_of c.args.s.now c.args.terms c.args.room in
    let counts : Counts = c.in_ok-n.n in
    let behind : (z : Counts) (ts : List Test) (x : Checked) → x ≡ first_of z ts → x ≡ first_of z (overlong_test asked.bytes ∷ limits_test asked.pair_limit asked.subset_limit ∷ ts) = λ z ts x h. passes _ _ _ x (le-ltb _ _ c.if-s-gt-BYTE_LIMIT.false) (passes _ _ _ x (sym (ap not c.are_limits.ensures) ∙ ap not c.if-not-are_limits.false) h) in
    let passed : check_bytes label_count asked.bytes ≡ Passed counts = sym c.in_ok-n.ensures in
    let later : Counts → List Test = λ z. let a = asked in cramped_test z.deepest a.pair_limit a.subset_limit a.room ∷ absent_test a.bytes z.atoms a.assumed_true a.assumed_false ∷ clash_test a.assumed_true a.assumed_false ∷ [] in
    let read : (x : Checked) → x ≡ first_of counts (later counts) → x ≡ check label_count asked = λ x h. behind _ _ x (bytes-pass _ _ later counts x passed h) in
    let pins : List Test = let a = asked in absent_test a.bytes counts.atoms a.assumed_true a.assumed_false ∷ clash_test a.assumed_true a.assumed_false ∷ [] in
    let roomy : (x : Checked) → x ≡ first_of counts pins → x ≡ check label_count (asked) = λ x h. read x (passes _ _ _ x (le-ltb _ _ (subst (λ (f : Frame). f.need ≤ (asked).room) c.frame_for.ensures c.if-room-frame_for.false)) h) in
    roomy _ (
    passes _ _ _ _ (sym c.has_absent.ensures ∙ c.if-has_absent.false) (
    passes _ _ _ _ (ap not (eq-eqb _ _ c.if-pins-ne0.false)) (none_left _)))
