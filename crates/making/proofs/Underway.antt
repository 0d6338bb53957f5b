-- A loop that puts a command's candidates in one after the other: how far it is, and the rows that the candidates come from. Assumes nothing.
use mathlib.Core.Path.{◌≡◌, refl, sym, ap, ap₂, ◌∙◌, subst}
use mathlib.Core.List.{List, [], ◌∷◌, ◌++◌, append_assoc}
use Prim.Native.Nat.{ℕ, ◌+◌, ◌-◌, ◌*◌, ◌≤◌, ◌<◌}
use native.Mathlib.Omega.{arith}
use lib.ListN.{length, drop, get_or, drop_of_length-le}
use Rattle.lists.specs.Lists.{All}
use Rattle.values.specs.declared.Value.{Value}
use Rattle.values.specs.Values.{no_value}
use Rattle.candidates.specs.Candidates.{Readable}
use Rattle.rows.specs.Parts.{Apart, part, put}
use Rattle.rows.specs.Rows.{Rows, rows_in}
use Rattle.rows.proofs.Tables.{row_within}
use Rattle.entries.specs.declared.Carry.{Carry}
use Rattle.entries.specs.Carries.{Entry, in_words, values_in, Beside, value_area, OnlyArea}
use Rattle.entries.specs.Entries.{with_values}
use Rattle.entries.proofs.ValueAreas.{Back, area-beside, only_then, only-low, lent-low, lent_back}
use Rattle.making.specs.Making.{FitEntry, Making, Next, Puts, Steps, entry_at, entries_at}
use Rattle.making.proofs.Held.{entries-long, entry-at, entries_from, readable_row}
use Rattle.making.proofs.Stepping.{same-below, stepped, stepped-wide}

-- a table is being made at word `to`, its values at word `made`: of the candidates xs, those of `left` are left
pub record Underway (carry : Carry) (w p to made : ℕ) (xs left : List Entry) (m r : ℕ) (ws₀ index₀ vals₀ ws index vals : List ℕ) : Type 0 where
  pub begun : Next carry w p to m xs ws₀ index₀ (value_area carry p made vals₀)
  pub inside : (to + p * w ≤ length ws₀) × (made + in_words carry p ≤ length vals₀)
  pub long : length vals ≡ length vals₀
  pub only : OnlyArea carry p made vals₀ vals
  pub going : (cands rest : List Entry) (v₀ : List ℕ) → Making carry w p to cands (xs ++ rest) m v₀ ws₀ index₀ (value_area carry p made vals₀)
      → Making carry w p to cands (left ++ rest) r v₀ ws index (value_area carry p made vals)

module _ {carry : Carry} {w p to made : ℕ} {xs left : List Entry} {m r : ℕ} {ws₀ index₀ vals₀ ws index vals : List ℕ} (h : Underway carry w p to made xs left m r ws₀ index₀ vals₀ ws index vals) where
  abbrev begun-as : Making carry w p to h.begun.0 (xs ++ h.begun.1) m h.begun.2 ws₀ index₀ (value_area carry p made vals₀)
  begun-as = h.begun.3

  abbrev now : Making carry w p to h.begun.0 (left ++ h.begun.1) r h.begun.2 ws index (value_area carry p made vals)
  now = h.going h.begun.0 h.begun.1 h.begun.2 begun-as

  -- the words before those that the table is made in are as they were
  pub words-before : (a k : ℕ) → a + k ≤ to → part a k ws ≡ part a k ws₀
  words-before a k l = same-below begun-as now a k l (omega (arith, begun-as.as_long, h.inside.0))

  -- the values, where their area was lent and came back as `new`, and where a callee changed it
  pub lent : (many : ℕ) → many ≡ in_words carry p → (new : List ℕ) → length new ≡ length (part made (made + many - made) vals) → Back carry p made vals₀ (put made (made + many - made) vals new) new
  lent = lent_back carry p made vals₀ vals h.only h.inside.1 h.long

  pub changed : (vals' : List ℕ) → length vals' ≡ length vals → OnlyArea carry p made vals vals' → Back carry p made vals₀ vals' (value_area carry p made vals')
  changed vals' long only = record {
    long = long ∙ h.long;
    there = refl;
    only = only_then carry p made vals₀ vals h.only h.inside.1 vals' h.long only;
  }

  -- ys come next
  module _ (ys rest' : List Entry) (e : left ≡ ys ++ rest') where
    next : (cands rest : List Entry) (v₀ : List ℕ) → Making carry w p to cands (xs ++ rest) m v₀ ws₀ index₀ (value_area carry p made vals₀) → Making carry w p to cands (ys ++ (rest' ++ rest)) r v₀ ws index (value_area carry p made vals)
    next cands rest v₀ g =
        subst (λ (zs : List Entry). Making carry w p to cands zs r v₀ ws index (value_area carry p made vals)) (ap (λ (zs : List Entry). zs ++ rest) e ∙ append_assoc ys rest' rest) (h.going cands rest v₀ g)

    -- the area of the values as its k words
    module _ (k : ℕ) (ek : k ≡ in_words carry p) where
      pub next-left : Next carry w p to r ys ws index (part made k vals)
      next-left = rw ek (h.begun.0, rest' ++ h.begun.1, h.begun.2, next h.begun.0 h.begun.1 h.begun.2 begun-as)

      module _ {r' : ℕ} {ws' index' new vals' : List ℕ} (b : Back carry p made vals₀ vals' new) where
        pub then-puts : Puts carry w p to r ys r' ws index (part made k vals) ws' index' new → Underway carry w p to made xs rest' m r' ws₀ index₀ vals₀ ws' index' vals'
        then-puts s = record {
          begun = h.begun;
          inside = h.inside;
          long = b.long;
          only = b.only;
          going = λ cands rest v₀ g. rw b.there ((rw ek at s) cands (rest' ++ rest) v₀ (next cands rest v₀ g));
        }

        pub then-steps : r' ≤ p + 1 → Steps carry w p to r ys r' ws index (part made k vals) ws' index' new → Underway carry w p to made xs rest' m r' ws₀ index₀ vals₀ ws' index' vals'
        then-steps l s = then-puts (λ cands rest v₀ g. (s cands rest v₀ g).made l)

        -- one of them does not fit, and so not all of xs do
        pub then-wide : p + 1 < r' → (All (FitEntry w) xs → All (FitEntry w) ys) → Steps carry w p to r ys r' ws index (part made k vals) ws' index' new
            → Steps carry w p to m xs r' ws₀ index₀ (value_area carry p made vals₀) ws' index' (value_area carry p made vals')
        then-wide l f s = λ cands rest v₀ g. rw b.there (stepped-wide l f ((rw ek at s) cands (rest' ++ rest) v₀ (next cands rest v₀ g)))

  -- none is left
  module _ (e : left ≡ []) where
    pub all-put : Puts carry w p to m xs r ws₀ index₀ (value_area carry p made vals₀) ws index (value_area carry p made vals)
    all-put cands rest v₀ g = subst (λ (zs : List Entry). Making carry w p to cands (zs ++ rest) r v₀ ws index (value_area carry p made vals)) e (h.going cands rest v₀ g)

    pub all-stepped : 2 ≤ w → Steps carry w p to m xs r ws₀ index₀ (value_area carry p made vals₀) ws index (value_area carry p made vals)
    all-stepped l cands rest v₀ g = stepped l (all-put cands rest v₀ g)

-- n rows at word b, whose values stand at word o, before what is made
pub record Operand (carry : Carry) (w p to made b o n : ℕ) (ws vals : List ℕ) : Type 0 where
  pub rows : Rows w p n (part b (p * w) ws)
  pub before : b + p * w ≤ to
  pub apart : Apart o made (in_words carry p) (length vals)

module _ {carry : Carry} {w p to made b o n : ℕ} {xs left : List Entry} {m r : ℕ} {ws₀ index₀ vals₀ ws index vals : List ℕ}
    (d : Operand carry w p to made b o n ws₀ vals₀) (h : Underway carry w p to made xs left m r ws₀ index₀ vals₀ ws index vals) where
  abbrev values : List ℕ
  values = value_area carry p o vals₀

  pub beside : Beside carry n values
  beside = area-beside carry p o n vals₀ d.rows.room (omega (arith, d.apart.before, d.apart.within))

  pub within : b + p * w ≤ length ws₀
  within = omega (arith, d.before, h.inside.0)

  pub none-held : (j : ℕ) → n ≤ j → drop j (entries_at carry w p b n values ws₀) ≡ []
  none-held j l = drop_of_length-le (entries_at carry w p b n values ws₀) {i = j} (omega (arith, l, entries-long carry w p b n values ws₀ within d.rows beside))

  -- it is as it was
  pub area-same : part b (p * w) ws ≡ part b (p * w) ws₀
  area-same = words-before h b (p * w) d.before

  pub held-same : entries_at carry w p b n (value_area carry p o vals) ws ≡ entries_at carry w p b n values ws₀
  held-same =
      ap₂ (λ (area : List ℕ) (vs : List ℕ). with_values (rows_in w n area) (values_in carry n vs)) area-same
      (only-low carry p made vals₀ vals h.only h.inside.1 o (in_words carry p) d.apart.before)

  pub still : Operand carry w p to made b o n ws vals
  still = record {
    rows = subst (Rows w p n) (sym area-same) d.rows;
    before = d.before;
    apart = record { before = d.apart.before; within = omega (arith, h.long, d.apart.within) };
  }

  module _ (j : ℕ) (l : j < n) where
    pub row-before : b + j * w + w ≤ to
    row-before = omega (arith, row_within j p w (omega (arith, l, d.rows.room)), d.before)

    pub row-same : part (b + j * w) w ws ≡ part (b + j * w) w ws₀
    row-same = words-before h (b + j * w) w row-before

    pub row-readable : Readable (part (b + j * w) w ws)
    row-readable = subst Readable (sym row-same) (readable_row carry w p b n values ws₀ within d.rows beside j l)

    -- the value that the lent area has for it
    pub row-value : (many : ℕ) → many ≡ in_words carry p → (v : Value) → v ≡ get_or (values_in carry n (part o (o + many - o) vals)) j no_value → v ≡ get_or (values_in carry n values) j no_value
    row-value many is v e =
        e ∙ ap (λ (vs : List ℕ). get_or (values_in carry n vs) j no_value) (lent-low carry p made vals₀ vals h.only h.inside.1 h.long many is o d.apart.before)

    -- its entry is the next one
    pub next-held : (v : Value) → v ≡ get_or (values_in carry n values) j no_value → drop j (entries_at carry w p b n values ws₀) ≡ entry_at w (b + j * w) v ws ∷ drop (j + 1) (entries_at carry w p b n values ws₀)
    next-held v e =
        entries_from carry w p b n values ws₀ within d.rows beside j l
        ∙ ap (λ (x : Entry). x ∷ drop (j + 1) (entries_at carry w p b n values ws₀)) (entry-at carry w p b n values ws₀ within d.rows beside j l v e ws row-same)
