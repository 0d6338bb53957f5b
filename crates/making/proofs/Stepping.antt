-- One candidate put into a table that is being made: it does not fit, the table is over already, or it goes in. Assumes nothing.
use mathlib.Core.Path.{◌≡◌, refl, sym, ap, ◌∙◌, subst}
use mathlib.Core.List.{List, [], ◌∷◌}
use Prim.Native.Nat.{ℕ, ◌+◌, ◌*◌, ◌≤◌, ◌<◌, min}
use native.Mathlib.Decide.{dec_le}
use native.Mathlib.Omega.{arith}
use lib.ListN.{length}
use Rattle.lists.specs.Sorted.{insert_all}
use Rattle.lists.proofs.Canon.{length-insert_all}
use Rattle.lists.specs.Lists.{All}
use Rattle.labels.specs.Labels.{label_count}
use Rattle.tables.specs.Definitions.{Pair}
use Rattle.candidates.specs.Candidates.{Readable, Made}
use Rattle.rows.specs.Parts.{part, put}
use Rattle.rows.specs.Rows.{Fit, Indexed}
use Rattle.rows.proofs.Parts.{part_low, part-put, put-put, put-long, part-long}
use Rattle.rows.proofs.Indexing.{padded-rows}
use Rattle.entries.specs.declared.Carry.{Carry}
use Rattle.entries.specs.Carries.{Entry, entry_algebra, Kept}
use Rattle.entries.specs.Entries.{entries_of, entered, Entered}
use Rattle.making.specs.Making.{entered_all, table_of_all, FitEntry, Making, Stepped}

-- one more of the candidates
entered-next : (carry : Carry) (x : Entry) (rest acc : List Entry) → entered_all carry rest (entered carry x acc) ≡ entered_all carry (x ∷ rest) acc
unfolding entered_all entered insert_all
entered-next carry x rest acc = refl

entered-longer : (carry : Carry) (xs acc : List Entry) → length acc ≤ length (entered_all carry xs acc)
unfolding entered_all
entered-longer carry xs acc = (length-insert_all (entry_algebra label_count carry).order (entry_algebra label_count carry).merge xs acc).0

-- what a table that is not over holds
module _ {carry : Carry} {w p to : ℕ} {cands rest : List Entry} {m : ℕ} {ws₀ ws index vals : List ℕ} (h : Making carry w p to cands rest m ws₀ ws index vals) (few : m ≤ p) where
  pub making-indexed : Indexed w p m (part to (p * w) ws) index
  making-indexed = subst (λ (n : ℕ). Indexed w p n (part to (p * w) ws) index) (let z : min m p ≡ m = omega arith in z) h.indexed

  pub making-kept : Kept carry p m vals
  making-kept = subst (λ (n : ℕ). Kept carry p n vals) (let z : min m p ≡ m = omega arith in z) h.kept

module _ {carry : Carry} {w p to : ℕ} {cands rest : List Entry} {x : Entry} {m : ℕ} {ws₀ ws index vals : List ℕ} (h : Making carry w p to cands (x ∷ rest) m ws₀ ws index vals) where
  pub step-wide : 2 ≤ w → (FitEntry w x → ⊥) → Stepped carry w p to cands rest (x ∷ []) (p + 2) ws₀ ws index vals
  step-wide g n = record {
    most = omega arith;
    same_length = h.as_long;
    made = λ l. absurd (omega arith);
    wide = λ l f. n f.0;
    scratch = h.frame;
    rows = padded-rows h.indexed g;
  }

  pub over-more : p < m → FitEntry w x → Making carry w p to cands rest m ws₀ ws index vals
  over-more l f = record {
    bound = h.bound;
    frame = h.frame;
    as_long = h.as_long;
    indexed = h.indexed;
    kept = h.kept;
    going = λ q. absurd (omega arith);
    over = h.over;
    fit = λ a. h.fit (f, a);
  }

  module _ (few : m ≤ p) (f : FitEntry w x) (within : to + p * w ≤ length ws) (r : ℕ) (area' ws' index' vals' : List ℕ)
      (e : Entered carry w p m r x (part to (p * w) ws) index vals area' index' vals') (put_in : ws' ≡ put to (p * w) ws area') (long : length area' ≡ p * w) where
    abbrev area : List ℕ
    area = part to (p * w) ws

    there : part to (p * w) ws' ≡ area'
    there = ap (part to (p * w)) put_in ∙ part-put to (p * w) ws area' (omega arith) long

    scratch : ws' ≡ put to (p * w) ws₀ (part to (p * w) ws')
    scratch =
        put_in ∙ ap (λ (t : List ℕ). put to (p * w) t area') h.frame
        ∙ put-put to (p * w) ws₀ (part to (p * w) ws) area' (omega (arith, h.as_long)) (part-long to (p * w) ws within) ∙ ap (put to (p * w) ws₀) (sym there)

    as_long : length ws' ≡ length ws₀
    as_long = ap length put_in ∙ put-long to (p * w) ws area' within long ∙ h.as_long

    going : entered_all carry rest (entered carry x (entries_of carry w m area index vals)) ≡ table_of_all carry cands
    going = entered-next carry x rest (entries_of carry w m area index vals) ∙ h.going few

    fits : r ≤ p → Making carry w p to cands rest r ws₀ ws' index' vals'
    fits l =
        let q : min r p ≡ r = omega arith in
        record {
          bound = omega arith;
          frame = scratch;
          as_long = as_long;
          indexed = rw (q, there) (e.indexed l);
          kept = rw q (e.kept l);
          going = λ k. rw (there, e.holds l) going;
          over = λ k. absurd (omega arith);
          fit = λ a. h.fit (f, a);
        }

    full : p < r → Making carry w p to cands rest r ws₀ ws' index' vals'
    full l =
        let s = e.same l in
        let q : min r p ≡ m = omega (arith, (e.full l).0) in
        record {
          bound = e.bound;
          frame = scratch;
          as_long = as_long;
          indexed = rw (q, there, s.0, s.1) (making-indexed h few);
          kept = rw (q, s.2) (making-kept h few);
          going = λ k. absurd (omega arith);
          over = λ k. subst (λ (t : List Entry). p < length t) going (omega (arith, (e.full l).1, entered-longer carry rest (entered carry x (entries_of carry w m area index vals))));
          fit = λ a. h.fit (f, a);
        }

    pub put-more : Making carry w p to cands rest r ws₀ ws' index' vals'
    put-more = made (dec_le r p)
      where
        made : Dec (r ≤ p) → Making carry w p to cands rest r ws₀ ws' index' vals'
        made (yes l) = fits l
        made (no l) = full (omega arith)

-- ---- a candidate row

-- it has more subsets than fit
pub made-unfit : {w r : ℕ} {x : Pair} {row : List ℕ} → Made w r x row → w < r + 2 → Fit w x → ⊥
unfolding Fit
made-unfit h l f = omega (arith, h.full l, f.1)

pub made-readable : {w r : ℕ} {x : Pair} {row : List ℕ} → Made w r x row → r + 2 ≤ w → length row ≡ w → Readable row
made-readable h l e = omega (arith, (h.fits l).0)

-- what lies below the table that is being made stays
pub same-below : {carry : Carry} {w p to : ℕ} {cands rest rest' : List Entry} {m r : ℕ} {ws₀ wsₛ ws indexₛ index valsₛ vals : List ℕ}
    → Making carry w p to cands rest m ws₀ wsₛ indexₛ valsₛ → Making carry w p to cands rest' r ws₀ ws index vals
    → (a k : ℕ) → a + k ≤ to → to ≤ length ws₀ → part a k ws ≡ part a k wsₛ
same-below {w} {p} {to} {ws₀} {wsₛ} {ws} h g a k l e =
    ap (part a k) g.frame ∙ part_low a k to (p * w) ws₀ (part to (p * w) ws) l e
    ∙ sym (ap (part a k) h.frame ∙ part_low a k to (p * w) ws₀ (part to (p * w) wsₛ) l e)

-- a table all of whose next candidates are in
pub stepped : {carry : Carry} {w p to : ℕ} {cands rest xs : List Entry} {r : ℕ} {ws₀ ws index vals : List ℕ} → 2 ≤ w → Making carry w p to cands rest r ws₀ ws index vals → Stepped carry w p to cands rest xs r ws₀ ws index vals
stepped g h = record {
  most = omega (arith, h.bound);
  same_length = h.as_long;
  made = λ l. h;
  wide = λ l a. absurd (omega (arith, h.bound));
  scratch = h.frame;
  rows = padded-rows h.indexed g;
}

-- a step that met a candidate which does not fit
pub stepped-wide : {carry : Carry} {w p to : ℕ} {cands rest rest' xs ys : List Entry} {r : ℕ} {ws₀ ws index vals : List ℕ} → p + 1 < r → (All (FitEntry w) ys → All (FitEntry w) xs)
    → Stepped carry w p to cands rest xs r ws₀ ws index vals → Stepped carry w p to cands rest' ys r ws₀ ws index vals
stepped-wide l f h = record {
  most = h.most;
  same_length = h.same_length;
  made = λ k. absurd (omega arith);
  wide = λ k a. h.wide l (f a);
  scratch = h.scratch;
  rows = h.rows;
}
