-- A walk over tables under way: what is left of the expression, from the tables at hand, leads to what the whole walk gives. Assumes nothing.
use mathlib.Core.Path.{◌≡◌, refl, sym, ap, ◌∙◌, subst}
use mathlib.Core.Bool.{Bool, true, false}
use mathlib.Core.List.{List, [], ◌∷◌, map}
use Prim.Native.Nat.{ℕ, ◌+◌, ◌-◌, ◌≤◌, ◌<◌}
use native.Mathlib.Omega.{arith}
use lib.Dec.{ltb}
use lib.ListN.{length}
use borrow.Author.Tests.{ltb-true, ltb-false}
use Rattle.labels.specs.Labels.{label_count}
use Rattle.expression.specs.declared.Command.{Command}
use Rattle.expression.specs.declared.Counts.{Counts}
use Rattle.expression.specs.Limits.{depth_limit}
use Rattle.expression.specs.Commands.{Got, Fault, Suits, read_at}
use Rattle.expression.specs.Effects.{effect, operands_by, depth_by}
use Rattle.expression.specs.Reading.{no_counts, new_atoms, depth_after, counted, capped, count_fault, Placed}
use Rattle.expression.proofs.Totals.{counted-limited, capped-limited, passes-operands, one_left}
use Rattle.expression.proofs.Checks.{Joined}
use Rattle.expression.proofs.Remaining.{Remains, remains-start, remains-next, remains-end, Next, next-deepest}
use Rattle.semantics.specs.Expressions.{Operations, act}
use Rattle.semantics.specs.AnswerSets.{Assumptions}
use Rattle.semantics.proofs.Effects.{act-deep}
use Rattle.semantics.proofs.Readings.{read-suits}
use Rattle.tables.specs.Algebras.{tables}
use Rattle.decisions.specs.Decisions.{stopped, walked, newest, walk, commands_in, pairs_fault}
use Rattle.entries.specs.declared.Carry.{Carry}
use Rattle.entries.specs.Carries.{Entry}
use Rattle.leaves.specs.declared.Tables.{Tables}
use Rattle.leaves.specs.Leaves.{table_algebra}
use Rattle.workspace.specs.Workspace.{pairs_of, fault_of}
use Rattle.stacks.specs.Stacks.{Counted}
use Rattle.stacks.proofs.Clearing.{holds-counted}
use Rattle.operations.specs.Operations.{Meets}
use Rattle.advances.specs.Advances.{Stands, Advanced}
use Rattle.advances.proofs.Steps.{walk-nil, walk-on, walk-stops, fault-none, fault-some}
use Rattle.walks.specs.Walks.{before, walk_to}
use Rattle.walks.proofs.Before.{before-nil, before_more, before-none}

module _ (kind : Tables) (carry : Carry) (o : Assumptions) (w p stop : ℕ) (s : List ℕ) where
  abbrev B : Operations (List Entry)
  B = tables (table_algebra kind carry) o

  abbrev f : List Entry → ℕ
  f t = pairs_fault p (w - 2) (pairs_of t)

  -- at an offset, after counts n, on a stack
  pub record Leading (z : Counts) (at : ℕ) (n : Counts) (stack : List (List Entry)) : Type 0 where
    pub rest : List Placed
    pub remains : Remains label_count s at n rest z
    pub deep : length stack ≡ n.depth
    pub begun : 0 < at → 1 ≤ n.depth
    pub leads : walk B f n.atoms (before stop rest) stack ≡ walk_to kind carry o w p stop s

  -- with the tables that stand
  pub record Going (d : ℕ) (z : Counts) (beyond : List ℕ) (at : ℕ) (n : Counts) (ws vals counts : List ℕ) : Type 0 where
    pub stack : List (List Entry)
    pub leading : Leading z at n stack
    pub stands : Stands carry d w p stack beyond ws vals counts

  pub going_start : {d : ℕ} (z : Counts) → Joined label_count s z → (beyond ws vals counts : List ℕ) → Stands carry d w p [] beyond ws vals counts → (n : Counts) → n ≡ no_counts → Going d z beyond 0 n ws vals counts
  unfolding walk_to no_counts commands_in
  going_start z j beyond ws vals counts h n e = record {
    stack = [];
    leading = record {
      rest = j.placed;
      remains = rw e (remains-start label_count s z j);
      deep = rw e;
      begun = λ l. absurd (omega arith);
      leads = rw (e, j.read);
    };
    stands = h;
  }

  module _ {z : Counts} {at : ℕ} {n : Counts} {stack : List (List Entry)} (g : Leading z at n stack) (ends : stop ≤ length s) where
    module _ (l : at < stop) where
      abbrev N : Next label_count s at n g.rest z
      N = remains-next label_count s at n g.rest z (omega arith) g.remains

      -- the command that was read is the one that remains
      pub not-fault : (x : ℕ) → read_at label_count s at ≡ Fault x → ⊥
      not-fault x e = let q : ◌≡◌ {A = ℕ} 0 1 = cc (N.read, e) in omega arith

      module _ (c : Command) (next : ℕ) (got : read_at label_count s at ≡ Got c next) where
        is-command : N.command ≡ c
        is-command = cc (N.read, got)

        is-next : N.next ≡ next
        is-next = cc (N.read, got)

        pub suits : Suits label_count c
        suits = read-suits label_count s at c next got

        operands : operands_by (effect c) ≤ n.depth
        operands = passes-operands n c (subst (λ x. count_fault n x ≡ 0) is-command N.passes)

        -- d areas are enough for the deepest stack
        pub meets : {d : ℕ} → z.deepest < d → Meets c d n.depth
        meets l = (operands, let k = subst (λ x. depth_by (effect x) n.depth ≤ z.deepest) is-command (next-deepest label_count s N) in omega arith)

        abbrev pub after : List (List Entry)
        after = act B n.atoms c stack

        -- the walk from here
        from-here : walk B f n.atoms (record { place = at; command = c } ∷ before stop N.rest) stack ≡ walk_to kind carry o w p stop s
        from-here =
            sym (ap (λ cs. walk B f n.atoms cs stack) (ap (before stop) (N.listed ∙ ap (λ x. record { place = at; command = x } ∷ N.rest) is-command) ∙ before_more stop at c N.rest l)) ∙ g.leads

        -- a command whose table exceeds no limit
        pub lead-on : f (newest after) ≡ 0 → (n' : Counts) → n' ≡ capped (counted n c) → Leading z next n' after
        lead-on none n' e =
            let same : n' ≡ counted n c = e ∙ capped-limited (counted n c) (counted-limited n c (subst (λ x. count_fault n x ≡ 0) is-command N.passes) g.remains.1) in
            let atoms : (counted n c).atoms ≡ n.atoms + new_atoms c = unfold counted in refl in
            let deeper : (counted n c).depth ≡ depth_after n.depth c = unfold counted in refl in
            record {
              rest = N.rest;
              remains = rw (same, sym is-command, sym is-next) N.after;
              deep = rw (same, deeper) (act-deep B n.atoms c stack (rw g.deep operands) ∙ ap (λ k. depth_after k c) g.deep);
              begun = λ l. rw (same, deeper) (one_left (effect c) n.depth operands);
              leads = rw (same, atoms) (sym (walk-on B f n.atoms at c (before stop N.rest) stack none) ∙ from-here);
            }

        module _ {d : ℕ} {beyond : List ℕ} {r : ℕ} {ws counts ws' vals' counts' : List ℕ} (a : Advanced carry d w p after beyond r ws counts ws' vals' counts') where
          pub going_on : r ≤ p → (n' : Counts) → n' ≡ capped (counted n c) → Going d z beyond next n' ws' vals' counts'
          going_on few n' e = record { stack = after; leading = lead-on (sym a.fault ∙ fault-none p r few) n' e; stands = a.stands few }

          pub going-stops : p < r → (k : ℕ) → k ≡ fault_of p r → walk_to kind carry o w p stop s ≡ stopped k at
          going-stops many k e = sym from-here ∙ walk-stops B f n.atoms at c (before stop N.rest) stack k (rw e (fault-some p r many)) (sym a.fault ∙ sym e)

          -- and the tables stand as before
          pub standing-still : {vals : List ℕ} → Stands carry d w p stack beyond ws vals counts → p < r → Counted d w p n.depth (map pairs_of stack) beyond counts' ws'
          standing-still h many = rw ((a.same many).0, (a.same many).1) (holds-counted depth_limit h.holds g.deep h.tallies)

    -- the end: no command starts before it
    none_before : stop ≤ at → before stop g.rest ≡ []
    none_before l = step (ltb at (length s)) refl
      where
        step : (b : Bool) → ltb at (length s) ≡ b → before stop g.rest ≡ []
        step true e = let N = remains-next label_count s at n g.rest z (ltb-true at (length s) e) g.remains in ap (before stop) N.listed ∙ before-none stop at N.command N.rest l
        step false e = ap (before stop) (remains-end label_count s at n g.rest z (ltb-false at (length s) e) g.remains).0 ∙ before-nil stop

    pub going-ends : stop ≤ at → walk_to kind carry o w p stop s ≡ walked stack
    going-ends l = sym g.leads ∙ ap (λ cs. walk B f n.atoms cs stack) (none_before l) ∙ walk-nil B f n.atoms stack

    -- which at the end of the bytes leaves one table
    pub ends-joined : z.depth ≡ 1 → stop ≤ at → stop ≡ length s → n.depth ≡ 1
    ends-joined one l e = ap (λ (x : Counts). x.depth) (remains-end label_count s at n g.rest z (omega arith) g.remains).1 ∙ one
