-- Commands done at once: the walk goes over them one by one, and none of their tables exceeds a limit. Assumes nothing.
use mathlib.Core.Path.{◌≡◌, refl, sym, ap, ◌∙◌, subst}
use mathlib.Core.List.{List, [], ◌∷◌}
use Prim.Native.Nat.{ℕ, ◌-◌, ◌≤◌, ◌<◌}
use native.Mathlib.Omega.{arith}
use lib.ListN.{length}
use Rattle.lists.specs.Lists.{All}
use Rattle.lists.specs.Sorted.{insert, insert_all, canon}
use Rattle.labels.specs.Labels.{label_count}
use Rattle.expression.specs.declared.Command.{Command}
use Rattle.expression.specs.declared.Command.TheVariants.{Atom, Rule, Union, Relabel, Connect, Name}
use Rattle.expression.specs.declared.Leaf.TheVariants as leaf
use Rattle.expression.specs.declared.Effect.{Effect}
use Rattle.expression.specs.declared.Effect.TheVariants.{Push, Unite, Change, Pass}
use Rattle.expression.specs.declared.Counts.{Counts}
use Rattle.expression.specs.Commands.{Got, read_at}
use Rattle.expression.specs.Effects.{effect}
use Rattle.expression.specs.Reading.{counted, capped}
use Rattle.expression.proofs.Commands.{read-ends}
use Rattle.expression.proofs.Totals.{capped-limited, pass-counted}
use Rattle.semantics.specs.Expressions.{Operations, act, unite_newest, change_newest}
use Rattle.semantics.specs.AnswerSets.{Assumptions}
use Rattle.semantics.proofs.Effects.{Does, act-does}
use Rattle.tables.specs.Triples.{mark_u}
use Rattle.tables.specs.Definitions.{pairs, flat}
use Rattle.tables.specs.Algebras.{tables}
use Rattle.values.specs.Values.{valued}
use Rattle.decisions.specs.Decisions.{newest, pairs_fault}
use Rattle.entries.specs.declared.Carry.{Carry}
use Rattle.entries.specs.Carries.{Entry, entry_algebra, carried_by}
use Rattle.making.specs.Making.{table_of_all}
use Rattle.leaves.specs.declared.Tables.{Tables}
use Rattle.leaves.specs.declared.Tables.TheVariants.{Plain, Pairs}
use Rattle.leaves.specs.Leaves.{algebra_of, table_algebra}
use Rattle.maps.specs.Maps.{batched_table, Small}
use Rattle.maps.proofs.Composing.{batch-more, rule-united, small-batched}
use Rattle.workspace.specs.Workspace.{Sound, pairs_of}
use Rattle.operands.specs.Operands.{united_table}
use Rattle.operations.proofs.Dispatch.{rule-acts, union-acts, relabel-acts, connect-acts}
use Rattle.stretches.specs.declared.Stretch.{Stretch}
use Rattle.stretches.specs.Stretches.{Passing, SpeltAs, Spelt, Chain, joined_counts, chain_counts}
use Rattle.ahead.specs.Ahead.{Ahead, stretched}
use Rattle.ahead.proofs.Keeping.{batched-sound, one-sound, kept-fault}
use Rattle.walks.proofs.Going.{Leading, Going, lead-on}

-- the first command, then the others
stretch-more : (carry : Carry) (c : Command) (cs : List Command) (x : List Entry) (us : List (List Entry)) → stretched carry cs (batched_table carry (c ∷ []) x ∷ us) ≡ stretched carry (c ∷ cs) (x ∷ us)
unfolding change_newest
stretch-more carry c [] x us = refl
stretch-more carry c (e ∷ cs) x us = ap (λ (y : List Entry). y ∷ us) (batch-more carry c (e ∷ cs) x)

-- a rule's table
rule-table : (kind : Tables) (carry : Carry) (g : ℕ) → table_of_all carry ((table_algebra kind carry).unmet g ∷ []) ≡ (entry_algebra label_count carry).unmet g ∷ []
unfolding table_of_all canon insert_all insert table_algebra algebra_of entry_algebra valued pairs flat
rule-table Plain carry g = refl
rule-table Pairs carry g = refl

-- commands go forward
passing-up : (s : List ℕ) (stop at end : ℕ) (cs : List Command) → Passing label_count s stop at end cs → at ≤ end
unfolding Passing
passing-up s stop at end [] h = omega (arith, h)
passing-up s stop at end (c ∷ cs) h =
    let r = passing-up s stop h.2.0 end cs h.2.2 in
    let u = read-ends label_count s at c h.2.0 h.2.1 in omega arith

pub chain-up : (s : List ℕ) (stop at end : ℕ) (cs : List Command) → Chain label_count s stop at end cs → at ≤ end
unfolding Chain
chain-up s stop at end [] h = omega (arith, h)
chain-up s stop at end (c ∷ cs) h =
    let r = chain-up s stop h.1.0 end cs h.1.2 in
    let u = spelt-up c h.1.0 h.1.1 in omega arith
  where
    as-up : (e : Effect) (c : Command) (next : ℕ) → SpeltAs label_count s stop e at c next → at < next
    as-up (Push leaf.Atom) c next h = absurd h
    as-up (Push leaf.Rule) c next (mid, r, (cs, end, passing, l, u)) =
        let a = read-ends label_count s at c mid r in
        let b = passing-up s stop mid end cs passing in
        let d = read-ends label_count s end Union next u in omega arith
    as-up Unite c next h = absurd h
    as-up Change c next h = (read-ends label_count s at c next h).0
    as-up Pass c next h = absurd h

    spelt-up : (c : Command) (next : ℕ) → Spelt label_count s stop at c next → at < next
    spelt-up c next h = as-up (effect c) c next h

module _ (kind : Tables) (carry : Carry) (o : Assumptions) (w p stop : ℕ) (s : List ℕ) (wide : 2 ≤ w) (room : 1 ≤ p) (ends : stop ≤ length s) where
  abbrev L : Counts → ℕ → Counts → List (List Entry) → Type 0
  L z at n ts = Leading kind carry o w p stop s z at n ts

  abbrev B : Operations (List Entry)
  B = tables (table_algebra kind carry) o

  unmet-sound : (r : ℕ) → Sound w p (pairs_of ((entry_algebra label_count carry).unmet r ∷ []))
  unfolding entry_algebra valued pairs
  unmet-sound r = one-sound carry w p wide room (mark_u label_count r) (carried_by carry).unit

  -- a command whose table can be kept
  on : {z : Counts} {at : ℕ} {n : Counts} {ts : List (List Entry)} → L z at n ts → at < stop → (c : Command) (next : ℕ) → read_at label_count s at ≡ Got c next
      → (us : List (List Entry)) → us ≡ act B n.atoms c ts → Sound w p (pairs_of (newest us)) → L z next (capped (counted n c)) us
  on {z} {at} {n} {ts} g l c next got us e h =
      subst (L z next (capped (counted n c))) (sym e) (lead-on kind carry o w p stop s g ends l c next got (subst (λ (x : List (List Entry)). pairs_fault p (w - 2) (pairs_of (newest x)) ≡ 0) e (kept-fault carry w p wide (newest us) h)) (capped (counted n c)) refl)

  -- commands that pass the tables by
  pass_on : {z : Counts} {n : Counts} {ts : List (List Entry)} (at end : ℕ) (cs : List Command) → L z at n ts → Passing label_count s stop at end cs → Sound w p (pairs_of (newest ts)) → L z end n ts
  unfolding Passing
  pass_on {z} {n} {ts} at end [] g h k = subst (λ (x : ℕ). L z x n ts) h g
  pass_on {z} {n} {ts} at end (c ∷ cs) g (l, e, (next, r, h)) k =
      let passed : act B n.atoms c ts ≡ ts = subst (λ (x : Effect). Does x (act B n.atoms c)) e (act-does B n.atoms c) ts in
      let same : capped (counted n c) ≡ n = ap capped (pass-counted n c e g.remains.1) ∙ capped-limited n g.remains.1 in
      pass_on next end cs (subst (λ (m : Counts). L z next m ts) same (on g l c next r ts (sym passed) k)) h k

  module _ {z : Counts} {at : ℕ} {n : Counts} {x : List Entry} {us : List (List Entry)} (g : L z at n (x ∷ us)) (l : at < stop) (h : Sound w p (pairs_of x)) (small : All (Small carry) x) where
    one : (c : Command) (next : ℕ) → Spelt label_count s stop at c next → L z next (joined_counts n c) (batched_table carry (c ∷ []) x ∷ us)
    unfolding joined_counts counted effect change_newest unite_newest
    one (Relabel i j) next e = on g l (Relabel i j) next e _ (relabel-acts kind carry o n.atoms i j refl (x ∷ us)) (batched-sound carry w p (Relabel i j ∷ []) x h)
    one (Connect k i j) next e = on g l (Connect k i j) next e _ (connect-acts kind carry o n.atoms k i j refl (x ∷ us)) (batched-sound carry w p (Connect k i j ∷ []) x h)
    one (Rule r) next (mid, got, (cs, end, passing, before, united)) =
        let pushed = on g l (Rule r) mid got (((entry_algebra label_count carry).unmet r ∷ []) ∷ x ∷ us) (ap (λ (t : List Entry). t ∷ x ∷ us) (sym (rule-table kind carry r)) ∙ rule-acts kind carry o n.atoms r refl (x ∷ us)) (unmet-sound r) in
        subst (λ (t : List Entry). L z next (joined_counts n (Rule r)) (t ∷ us)) (rule-united carry r x small)
        (on (pass_on mid end cs pushed passing (unmet-sound r)) before Union next united (united_table carry x ((entry_algebra label_count carry).unmet r ∷ []) ∷ us) (union-acts kind carry o _ refl (((entry_algebra label_count carry).unmet r ∷ []) ∷ x ∷ us)) (subst (λ (t : List Entry). Sound w p (pairs_of t)) (sym (rule-united carry r x small)) (batched-sound carry w p (Rule r ∷ []) x h)))
    one (Atom r) next e = absurd e
    one Union next e = absurd e
    one (Name x) next e = absurd e

  chain-leads : {z : Counts} {n : Counts} (cs : List Command) (at end : ℕ) (x : List Entry) (us : List (List Entry)) → L z at n (x ∷ us) → Sound w p (pairs_of x) → All (Small carry) x → Chain label_count s stop at end cs
      → L z end (chain_counts n cs) (stretched carry cs (x ∷ us))
  unfolding Chain chain_counts
  chain-leads {z = z} {n = n} [] at end x us g h small e = subst (λ k. L z k n (x ∷ us)) e g
  chain-leads {z = z} {n = n} (c ∷ cs) at end x us g h small e =
      subst (L z end (chain_counts (joined_counts n c) cs)) (stretch-more carry c cs x us)
      (chain-leads {n = joined_counts n c} cs e.1.0 end (batched_table carry (c ∷ []) x) us (one g e.0 h small c e.1.0 e.1.1) (batched-sound carry w p (c ∷ []) x h) (small-batched carry (c ∷ []) x small) e.1.2)

  -- from what stands before them to what stands after them
  pub going-ahead : {d : ℕ} {z n : Counts} {at : ℕ} {beyond ws vals counts ws' vals' counts' : List ℕ} {r : Stretch} (g : Going kind carry o w p stop s d z beyond at n ws vals counts)
      → Ahead carry d w p stop at n s g.stack beyond r ws' vals' counts' → Going kind carry o w p stop s d z beyond r.next r.counts ws' vals' counts'
  unfolding Chain chain_counts
  going-ahead {z = z} {n} {at} {r = r} g a = record {
    stack = stretched carry a.done g.stack;
    leading = subst (λ m. L z r.next m (stretched carry a.done g.stack)) (sym a.after) (go g.stack g.leading g.stands.holds.sound a.small a.none);
    stands = a.stands;
  }
    where
      go : (ts : List (List Entry)) → L z at n ts → All (λ t. Sound w p (pairs_of t)) ts → All (Small carry) (newest ts) → (length ts ≡ 0 → a.done ≡ []) → L z r.next (chain_counts n a.done) (stretched carry a.done ts)
      go (x ∷ us) l h small k = chain-leads a.done at r.next x us l h.0 small a.chain
      go [] l h small k = empty a.done a.chain (k refl)
        where
          empty : (cs : List Command) → Chain label_count s stop at r.next cs → cs ≡ [] → L z r.next (chain_counts n cs) (stretched carry cs [])
          empty [] c e = subst (λ k. L z k n []) c l
          empty (y ∷ cs) c e = absurd (omega (arith, ap (λ (t : List Command). length t) e))
