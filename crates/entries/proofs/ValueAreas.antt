-- The values of one area among those of others: what is put there changes no other word. Assumes nothing.
use Rattle.std.proofs.Common.{◌≡◌, ℕ, ◌+◌, ◌-◌, ◌≤◌, List, length, drop, sym, ap, ◌∙◌, arith, take-take}
use Rattle.rows.specs.Parts.{part, put, zeros}
use Rattle.rows.proofs.Parts.{span, part-long, part-put, part_low, put-long, put-part, put-put, zeros-long}
use Rattle.entries.specs.declared.Carry.{Carry}
use Rattle.entries.specs.Carries.{in_words, values_in, Beside, Kept, value_area, OnlyArea}
use Rattle.entries.proofs.Keeping.{in-none, in-rising, values-by}

-- zeros are the words of no values
pub kept-zeros : (carry : Carry) (p : ℕ) (vals : List ℕ) → vals ≡ zeros (in_words carry p) → Kept carry p 0 vals
kept-zeros carry p vals e =
    rw (in-none carry) (e ∙ ap zeros (let z : in_words carry p ≡ in_words carry p - 0 = omega arith in z), ap length e ∙ zeros-long (in_words carry p))

-- an area came back as ys
pub record Back (carry : Carry) (p o : ℕ) (vals vals' ys : List ℕ) : Type 0 where
  pub long : length vals' ≡ length vals
  pub there : value_area carry p o vals' ≡ ys
  pub only : OnlyArea carry p o vals vals'

-- how long the range of an area is
pub area-span : (carry : Carry) (p o many : ℕ) → many ≡ in_words carry p → o + many - o ≡ in_words carry p
area-span carry p o many is = span o many ∙ is

module _ (carry : Carry) (p o : ℕ) where
  abbrev k : ℕ
  k = in_words carry p

  pub area-beside : (n : ℕ) (vals : List ℕ) → n ≤ p → o + in_words carry p ≤ length vals → Beside carry n (value_area carry p o vals)
  area-beside n vals l h = omega (arith, part-long o k vals h, in-rising carry n p l)

  -- the values of the first n rows
  pub area-values : (n : ℕ) (vals : List ℕ) → n ≤ p → values_in carry n (value_area carry p o vals) ≡ values_in carry n (drop o vals)
  area-values n vals l = values-by carry n (part o k vals) (drop o vals) (take-take (in_words carry n) k (drop o vals) (in-rising carry n p l))

  pub only-start : (vals : List ℕ) → OnlyArea carry p o vals vals
  only-start vals = sym (put-part o k vals)

  module _ (vals₀ vals : List ℕ) (h : OnlyArea carry p o vals₀ vals) (within : o + in_words carry p ≤ length vals₀) where
    -- once more
    pub only_then : (vals' : List ℕ) → length vals ≡ length vals₀ → OnlyArea carry p o vals vals' → OnlyArea carry p o vals₀ vals'
    only_then vals' long e =
        e ∙ ap (λ (t : List ℕ). put o k t (part o k vals')) h ∙ put-put o k vals₀ (part o k vals) (part o k vals') (omega arith) (part-long o k vals (omega (arith, long)))

    -- the words below are as they were
    pub only-low : (a l : ℕ) → a + l ≤ o → part a l vals ≡ part a l vals₀
    only-low a l low = ap (part a l) h ∙ part_low a l o k vals₀ (part o k vals) low (omega arith)

    -- an area lent as that many words: one below, and this one, which comes back as ys
    module _ (long : length vals ≡ length vals₀) (many : ℕ) (is : many ≡ in_words carry p) where
      pub lent-low : (a : ℕ) → a + in_words carry p ≤ o → part a (a + many - a) vals ≡ value_area carry p a vals₀
      lent-low a low = ap (λ (n : ℕ). part a n vals) (area-span carry p a many is) ∙ only-low a k low

      module _ (ys : List ℕ) (e : length ys ≡ length (part o (o + many - o) vals)) where
        abbrev after : List ℕ
        after = put o (o + many - o) vals ys

        same : after ≡ put o k vals ys
        same = ap (λ (n : ℕ). put o n vals ys) (area-span carry p o many is)

        as_many : length ys ≡ k
        as_many = e ∙ ap (λ (n : ℕ). length (part o n vals)) (area-span carry p o many is) ∙ part-long o k vals (omega (arith, long))

        there : part o k after ≡ ys
        there = ap (part o k) same ∙ part-put o k vals ys (omega (arith, long)) as_many

        pub lent_back : Back carry p o vals₀ (put o (o + many - o) vals ys) ys
        lent_back = record {
          long = ap length same ∙ put-long o k vals ys (omega (arith, long)) as_many ∙ long;
          there = there;
          only = only_then after long (same ∙ ap (put o k vals) (sym there));
        }
