-- `rows::compare_words`: the first difference decides, else the lengths do.
use Rattle.std.proofs.Common.{◌∙◌, refl, sym, inl, inr, length, arith}
use Rattle.std.specs.declared.cmp.Ordering.TheVariants.{Less, Equal, Greater}
use Rattle.std.specs.Cmp.{nat_cmp_is}
use Rattle.rows.proofs.Words.{compare-here, compare-on, compare-ended}
use Rattle.rows.proofs.compare_words.Goals as goal

pub returns-then-x-y : goal.returns-then-x-y
returns-then-x-y c =
    let s = c.in-Some.ensures.steps in
    sym (c.loop-x.invariant.order ∙ rw (s.0, s.1) (compare-here _ _ _ _ Less (nat_cmp_is _ _ Less c.if-x-y.true) refl))

pub returns-then-y-x : goal.returns-then-y-x
returns-then-y-x c =
    let s = c.in-Some.ensures.steps in
    sym (c.loop-x.invariant.order ∙ rw (s.0, s.1) (compare-here _ _ _ _ Greater (nat_cmp_is _ _ Greater c.if-y-x.true) refl))

pub loop-x-preserved : goal.loop-x-preserved
loop-x-preserved c =
    let s = c.in-Some.ensures.steps in record {
      order = c.loop-x.invariant.order ∙ rw (s.0, s.1) (compare-on _ _ _ _ Equal (nat_cmp_is c.in-Some.x.now c.in-Some.y.now Equal (omega arith)) refl);
      lengths = omega (arith, rw (s.0, s.1) at c.loop-x.invariant.lengths);
    }

pub returns-then-a-b : goal.returns-then-a-b
returns-then-a-b c =
    nat_cmp_is _ _ Less c.if-a-b.true
    ∙ compare-ended _ _ _ _ c.loop-x.invariant.lengths (elim c.in-None.ensures.steps [ inl w ↦ inl w.1.0 | inr w ↦ inr w.1.0 ]) ∙ sym c.loop-x.invariant.order

pub returns-then-b-a : goal.returns-then-b-a
returns-then-b-a c =
    nat_cmp_is _ _ Greater c.if-b-a.true
    ∙ compare-ended _ _ _ _ c.loop-x.invariant.lengths (elim c.in-None.ensures.steps [ inl w ↦ inl w.1.0 | inr w ↦ inr w.1.0 ]) ∙ sym c.loop-x.invariant.order

pub returns : goal.returns
returns c =
    nat_cmp_is (length c.args.a.now) (length c.args.b.now) Equal (omega arith)
    ∙ compare-ended _ _ _ _ c.loop-x.invariant.lengths (elim c.in-None.ensures.steps [ inl w ↦ inl w.1.0 | inr w ↦ inr w.1.0 ]) ∙ sym c.loop-x.invariant.order
