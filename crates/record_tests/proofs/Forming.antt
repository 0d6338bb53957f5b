-- What a running record of the form asked for holds (01: 18): the tables stand in its words, and the commands before its place left as many. Assumes nothing.
use Rattle.std.specs.Prelude.{Option, Some, None}
use mathlib.Core.Path.{◌≡◌, refl, sym, ap, ap₂, ◌∙◌, subst}
use mathlib.Core.Bool.{Bool, true, false, cond}
use mathlib.Core.List.{List, [], ◌++◌, map}
use Prim.Native.Nat.{ℕ, ◌-◌, ◌*◌, ◌≤◌}
use native.Mathlib.Nat.{mul-le-mul_right}
use native.Mathlib.Omega.{arith}
use lib.Dec.{eqb}
use lib.ListN.{length, take, drop, length-drop, length-map, take-append-drop}
use lib.Seq.{length-take-le}
use borrow.Author.Tests.{eqb-true}
use Rattle.lists.proofs.Members.{and_both}
use Rattle.labels.specs.Labels.{label_count}
use Rattle.expression.specs.declared.Command.{Command}
use Rattle.expression.specs.declared.Counts.{Counts}
use Rattle.expression.specs.Limits.{atom_limit, depth_limit, row_words, areas_for}
use Rattle.expression.specs.Commands.{Got, Suits, read_at}
use Rattle.expression.specs.Reading.{depth_after, counted, capped}
use Rattle.expression.specs.Checks.{Passed, Request, check, depth_of, need_of}
use Rattle.expression.specs.Places.{locate}
use Rattle.expression.proofs.Totals.{counted-limited, capped-limited, passes-operands}
use Rattle.expression.proofs.Accepted.{Accepted, check-accepted}
use Rattle.semantics.specs.Expressions.{act}
use Rattle.semantics.proofs.Effects.{act-deep}
use Rattle.semantics.proofs.Readings.{read-suits}
use Rattle.tables.specs.Algebras.{tables}
use Rattle.tables.specs.Definitions.{Pair, pairs}
use Rattle.decisions.specs.Decisions.{assumed}
use Rattle.rows.specs.Parts.{zeros}
use Rattle.entries.specs.declared.Carry.TheVariants.{Nothing}
use Rattle.workspace.specs.Workspace.{stack_counts, counts_of}
use Rattle.operations.specs.Operations.{Meets}
use Rattle.advances.specs.Advances.{Stands}
use Rattle.forms.specs.Forms.{are_zero, are_tables}
use Rattle.forms.proofs.Found.{zero_is, found-counts, found-length, found-sound, found-words}
use Rattle.records.specs.declared.Record.{Record}
use Rattle.records.specs.Steps.{counts_in, found, is_formed, formed_at}
use Rattle.record_tests.proofs.Reached.{Here, located_here, here-within, here-passes, here-deepest}
use Rattle.advances.proofs.Bare.{bare, stands-bare}

-- the areas of t tables are within the words needed
pub areas-fit : (t d k : ℕ) (counts ws : List ℕ) → t ≤ length counts → t ≤ d → d * k ≤ length ws → length (take t counts) * k ≤ length (take (d * k) ws)
areas-fit t d k counts ws c l m = rw (length-take-le t counts c, length-take-le (d * k) ws m) (mul-le-mul_right k l)

-- the counts of tables, zeros behind them
counts-are : (t : ℕ) (counts : List ℕ) (us : List (List Pair)) → stack_counts us ≡ take t counts → length us ≡ t → length counts ≡ depth_limit → are_zero (drop t counts) ≡ true → counts ≡ counts_of depth_limit us
unfolding counts_of
counts-are t counts us e l eight z =
    sym (take-append-drop t counts)
    ∙ ap₂ (λ (x : List ℕ) (y : List ℕ). x ++ y) (sym e) (zero_is (drop t counts) z ∙ ap zeros (let q : length (drop t counts) ≡ depth_limit - length us = omega (arith, length-drop t counts, l, eight) in q))

module _ (a : Request) (r : Record) (ws : List ℕ) where
  abbrev w : ℕ
  w = row_words a.subset_limit

  abbrev p : ℕ
  p = a.pair_limit

  abbrev areas : ℕ
  areas = areas_for (depth_of label_count a.bytes)

  -- the test by its parts
  both-tests : (n : Counts) (x : Option Counts) → locate label_count a.bytes r.place ≡ x → formed_at label_count a r ws ≡ Some n → (x ≡ Some n) × (is_formed label_count a n r ws ≡ true)
  unfolding formed_at
  both-tests n None e h = let g : None ≡ Some n = rw (e, formed_at) at h in let q : ◌≡◌ {A = ℕ} 0 1 = cc g in absurd (omega arith)
  both-tests n (Some m) e h = step (is_formed label_count a m r ws) refl (rw (e, formed_at) at h)
    where
      step : (b : Bool) → is_formed label_count a m r ws ≡ b → cond b (Some m) None ≡ Some n → (Some m ≡ Some n) × (is_formed label_count a n r ws ≡ true)
      step true f g = let j : m ≡ n = cc g in (g, subst (λ (y : Counts). is_formed label_count a y r ws ≡ true) j f)
      step false f g = let q : ◌≡◌ {A = ℕ} 0 1 = cc g in absurd (omega arith)

  module _ {z n : Counts} (passed : check label_count a ≡ Passed z) (formed : formed_at label_count a r ws ≡ Some n) (room : a.room ≡ length ws) (eight : length r.counts ≡ depth_limit) where
    abbrev A : Accepted label_count a z
    A = check-accepted label_count a z passed

    pub located : locate label_count a.bytes r.place ≡ Some n
    located = (both-tests n (locate label_count a.bytes r.place) refl formed).0

    -- where the walk over the expression has come to
    pub here : Here label_count a.bytes z r.place n
    here = located_here label_count a.bytes z r.place n A.joined located

    tests : (r.tables ≡ n.depth) × (are_zero (drop r.tables r.counts) ≡ true) × (are_tables label_count w p (counts_in label_count a r) (take (need_of label_count a) ws) ≡ true)
    unfolding is_formed
    tests =
        let f = and_both (eqb r.tables n.depth) _ (both-tests n (locate label_count a.bytes r.place) refl formed).1 in
        let g = and_both (are_zero (drop r.tables r.counts)) _ f.1 in (eqb-true r.tables n.depth f.0, g.0, g.1)

    pub deep : r.tables ≡ n.depth
    deep = tests.0

    shallow : r.tables ≤ depth_of label_count a.bytes
    shallow = omega (arith, deep, here-within label_count a.bytes z here A.deepest)

    most : depth_of label_count a.bytes ≤ depth_limit
    most = omega (arith, A.deepest, A.joined.limited.deepest)

    -- the next atom has a number
    pub numbered : n.atoms ≤ atom_limit
    numbered = here.1.1.atoms

    many : length (counts_in label_count a r) ≡ r.tables
    many = length-take-le r.tables r.counts (omega (arith, shallow, most, eight))

    pub long : need_of label_count a ≤ length ws
    long = omega (arith, A.room, room)

    pub found-many : length (found label_count a r ws) ≡ r.tables
    found-many = found-length w p (counts_in label_count a r) ws ∙ many

    pub bare-many : length (map bare (found label_count a r ws)) ≡ r.tables
    bare-many = length-map (found label_count a r ws) bare ∙ found-many

    -- the tables found stand
    pub stands : {d : ℕ} → d ≡ areas → Stands Nothing d w p (map bare (found label_count a r ws)) (drop (need_of label_count a) ws) ws [] r.counts
    stands e =
        let few : length (counts_in label_count a r) ≤ areas = omega (arith, many, shallow) in
        rw e (stands-bare areas w p (found label_count a r ws) (drop (need_of label_count a) ws) ws r.counts
        (found-words w p label_count areas (counts_in label_count a r) ws tests.2 few long)
        (found-sound w p label_count areas (counts_in label_count a r) ws tests.2 few long)
        (omega (arith, found-many, shallow)) (omega (arith, most))
        (counts-are r.tables r.counts (found label_count a r ws) (found-counts w p (counts_in label_count a r) ws) found-many eight tests.1))

    -- ---- the command at its place

    module _ (c : Command) (next : ℕ) (read : read_at label_count a.bytes r.place ≡ Got c next) where
      pub suits : Suits label_count c
      suits = read-suits label_count a.bytes r.place c next read

      passes-depth : Meets c areas n.depth
      passes-depth = (passes-operands n c (here-passes label_count a.bytes z here read), omega (arith, here-deepest label_count a.bytes z here read, A.deepest))

      pub meets : {d : ℕ} → d ≡ areas → Meets c d r.tables
      meets e = rw (e, deep) passes-depth

      -- how many tables it leaves
      pub tables_after : (m : Counts) → m ≡ capped (counted n c) → m.depth ≡ length (act (tables (pairs label_count) (assumed a)) n.atoms c (found label_count a r ws))
      tables_after m e =
          let same : m ≡ counted n c = e ∙ capped-limited (counted n c) (counted-limited n c (here-passes label_count a.bytes z here read) here.1.1) in
          let deeper : (counted n c).depth ≡ depth_after n.depth c = unfold counted in refl in
          let B = tables (pairs label_count) (assumed a) in
          let l : length (found label_count a r ws) ≡ n.depth = found-many ∙ deep in
          ap (λ (x : Counts). x.depth) same ∙ deeper ∙ sym (act-deep B n.atoms c (found label_count a r ws) (rw l passes-depth.0) ∙ ap (λ (k : ℕ). depth_after k c) l)
