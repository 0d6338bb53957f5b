-- The words of a table's rows as a report has them, row by row. Assumes nothing.
use mathlib.Core.Path.{◌≡◌, refl, sym, ap, ap₂, ◌∙◌}
use mathlib.Core.List.{List, [], ◌∷◌, ◌++◌, append_assoc, append-nil}
use Prim.Native.Nat.{ℕ, suc, ◌+◌, ◌-◌, ◌*◌, ◌≤◌, ◌<◌}
use native.Mathlib.Numerals.{add-one}
use native.Mathlib.Omega.{arith}
use lib.ListN.{length, take, drop, get_or, length-append, drop_of_length-le}
use lib.Seq.{drop-cons, take_at, drop_at, take-take, get_or-take, get_or-drop, drop-drop}
use Rattle.lists.proofs.Members.{all-get}
use Rattle.tables.specs.Definitions.{Pair, own_triple, subsets}
use Rattle.rows.specs.Parts.{part, put, zeros}
use Rattle.rows.specs.Rows.{Fit, row_of, rows_in, Rows, slot}
use Rattle.rows.proofs.Parts.{span, part-part, part-long}
use Rattle.rows.proofs.Tables.{row_within, length-rows_in, slot_at}
use Rattle.leaves.specs.declared.Tables.{Tables}
use Rattle.leaves.specs.declared.Tables.TheVariants.{Plain, Pairs}
use Rattle.reports.specs.Reports.{entry_words, entry_length, report_of}

pub entry-long : (kind : Tables) (x : Pair) → length (entry_words kind x) ≡ entry_length kind (length (subsets x))
unfolding entry_words
entry-long Plain x = refl
entry-long Pairs x = omega arith

-- the front of a row is what is written of it
row-front : (kind : Tables) (w : ℕ) (x : Pair) → take (entry_length kind (length (subsets x))) (row_of w x) ≡ entry_words kind x
unfolding entry_words row_of
row-front Plain w x = refl
row-front Pairs w x =
    let two : 2 + length (subsets x) ≡ suc (suc (length (subsets x))) = omega arith in
    ap (λ (i : ℕ). take i (row_of w x)) two ∙ ap (λ (u : List ℕ). own_triple x ∷ length (subsets x) ∷ u) (take_at (subsets x) (zeros (w - (2 + length (subsets x)))) (length (subsets x)) refl)

entry-fits : (kind : Tables) (w : ℕ) (x : Pair) → 2 ≤ w → Fit w x → entry_length kind (length (subsets x)) ≤ w
unfolding Fit
entry-fits kind w [] l f = absurd (omega (arith, f.0))
entry-fits Plain w (q ∷ s) l f = omega arith
entry-fits Pairs w (q ∷ s) l f = omega (arith, f.1)

-- the k words at word `at` are those of the first of the pairs left, whose others are rest
pub record RowEntry (kind : Tables) (w at k : ℕ) (ws : List ℕ) (left rest : List Pair) : Type 0 where
  pub short : k ≤ w
  pub inside : at + w ≤ length ws
  pub counted : k + length (report_of kind rest) ≡ length (report_of kind left)
  pub words : part at k ws ++ report_of kind rest ≡ report_of kind left

module _ (kind : Tables) (w p a n : ℕ) (ws : List ℕ) (wide : 2 ≤ w) (within : a + p * w ≤ length ws) (t : Rows w p n (part a (p * w) ws)) where
  abbrev xs : List Pair
  xs = rows_in w n (part a (p * w) ws)

  long : length xs ≡ n
  long = length-rows_in w n (part a (p * w) ws)

  module _ (j : ℕ) (l : j < n) where
    abbrev x : Pair
    x = get_or xs j []

    fit : Fit w x
    fit = all-get (Fit w) [] xs j t.fit (omega (arith, long))

    pub row_inside : a + j * w + w ≤ length ws
    row_inside = omega (arith, row_within j p w (omega (arith, t.room)))

    row_is : part (a + j * w) w ws ≡ row_of w x
    row_is =
        sym (part-part a (p * w) (j * w) w ws (omega (arith, row_within j p w (omega (arith, t.room)))) within)
        ∙ ap (slot w j) t.words ∙ slot_at w p xs j t.fit (omega (arith, long, t.room)) (omega (arith, long))

    -- the second word of the row says how many subsets there are
    pub count-is : (i : ℕ) → i ≡ a + j * w + 1 → get_or ws i 0 ≡ length (subsets x)
    unfolding row_of
    count-is i e =
        ap (λ (k : ℕ). get_or ws k 0) e ∙ sym (get_or-drop (a + j * w) ws 1 0) ∙ sym (get_or-take w (drop (a + j * w) ws) 1 0 (omega arith)) ∙ ap (λ (u : List ℕ). get_or u 1 0) row_is

    module _ (k : ℕ) (ek : k ≡ entry_length kind (length (subsets x))) where
      pub entry-within : k ≤ w
      entry-within = omega (arith, ek, entry-fits kind w x wide fit)

      pub words_are : part (a + j * w) k ws ≡ entry_words kind x
      words_are =
          sym (take-take k w (drop (a + j * w) ws) entry-within) ∙ ap (take k) row_is ∙ ap (λ (i : ℕ). take i (row_of w x)) ek ∙ row-front kind w x

      pub words_long : length (entry_words kind x) ≡ k
      words_long = entry-long kind x ∙ sym ek

    pub report-next : report_of kind (drop j xs) ≡ entry_words kind x ++ report_of kind (drop (j + 1) xs)
    unfolding report_of
    report-next = let e : drop j xs ≡ x ∷ drop (j + 1) xs = rw (add-one j) (drop-cons xs j [] (omega (arith, long))) in ap (report_of kind) e

    -- the row, whose second word says how many words its entry takes
    pub row_entry : (k : ℕ) → k ≡ entry_length kind (get_or ws (a + j * w + 1) 0) → RowEntry kind w (a + j * w) k ws (drop j xs) (drop (j + 1) xs)
    row_entry k e =
        let ek = e ∙ ap (entry_length kind) (count-is _ refl) in
        record {
          short = entry-within k ek;
          inside = row_inside;
          counted = omega (arith, words_long k ek, simp length-append at (ap length report-next));
          words = rw (words_are k ek) (sym report-next);
        }

  pub report-done : (j : ℕ) → j ≤ n → (j < n → ⊥) → report_of kind (drop j xs) ≡ []
  unfolding report_of
  report-done j l g = ap (report_of kind) (drop_of_length-le xs {i = j} (omega (arith, long)))

-- ---- what is written so far, and one entry more

pub written-more : (to k : ℕ) (done new out out₀ : List ℕ) → length done ≡ to → out ≡ done ++ drop to out₀ → length new ≡ k → put to k out new ≡ (done ++ new) ++ drop (to + k) out₀
written-more to k done new out out₀ e h l =
    ap (λ (u : List ℕ). put to k u new) h
    ∙ rw (take_at done (drop to out₀) to e, drop_at done (drop to out₀) to e, drop-drop k to out₀) (sym (append_assoc done new (drop (to + k) out₀)))

pub all-copied : (part src new : List ℕ) → length src ≡ length part → new ≡ src ++ drop (length src) part → new ≡ src
all-copied part src new e h = h ∙ ap (λ (u : List ℕ). src ++ u) (drop_of_length-le part {i = length src} (omega (arith, e))) ∙ append-nil src

-- of the pairs xs the first j are written, over the front `to` words of out₀
pub record Written (kind : Tables) (xs : List Pair) (j to : ℕ) (out₀ out : List ℕ) : Type 0 where
  pub done : List ℕ
  pub as_long : length done ≡ to
  pub over : out ≡ done ++ drop to out₀
  pub left : done ++ report_of kind (drop j xs) ≡ report_of kind xs

module _ {kind : Tables} {xs : List Pair} {j to : ℕ} {out₀ out : List ℕ} (h : Written kind xs j to out₀ out) where
  module _ {w at k : ℕ} {ws : List ℕ} (e : RowEntry kind w at k ws (drop j xs) (drop (j + 1) xs)) (room : length (report_of kind xs) ≤ length out₀) where
    pub entry-fits_out : to + k ≤ length out₀
    entry-fits_out = omega (arith, e.counted, h.as_long, room, simp length-append at (ap length h.left))

    -- the words copied over a part of `out`, as ranges give the two
    pub written-next : length out ≡ length out₀ → (new : List ℕ) → new ≡ part at (at + k - at) ws ++ drop (length (part at (at + k - at) ws)) (part to (to + k - to) out)
        → Written kind xs (j + 1) (to + k) out₀ (put to (to + k - to) out new)
    written-next same new f =
        let src = part-long at k ws (omega (arith, e.inside, e.short)) in
        let dst = part-long to k out (omega (arith, entry-fits_out, same)) in
        let is : new ≡ part at k ws = all-copied (part to k out) (part at k ws) new (src ∙ sym dst) (rw (span at k, span to k) at f) in
        record {
          done = h.done ++ part at k ws;
          as_long = length-append h.done (part at k ws) ∙ omega (arith, h.as_long, src);
          over = rw (span to k, is) (written-more to k h.done (part at k ws) out out₀ h.as_long h.over src);
          left = append_assoc h.done (part at k ws) (report_of kind (drop (j + 1) xs)) ∙ ap (λ (u : List ℕ). h.done ++ u) e.words ∙ h.left;
        }

  pub written-all : report_of kind (drop j xs) ≡ [] → out ≡ report_of kind xs ++ drop (length (report_of kind xs)) out₀
  written-all e =
      let all : h.done ≡ report_of kind xs = sym (append-nil h.done) ∙ ap (λ (u : List ℕ). h.done ++ u) (sym e) ∙ h.left in
      h.over ∙ ap₂ (λ (u : List ℕ) (i : ℕ). u ++ drop i out₀) all (sym h.as_long ∙ ap length all)

pub pairs-length : (kind : Tables) (n : ℕ) → kind ≡ Pairs → 2 + n ≡ entry_length kind n
pairs-length Plain n e = let q : ◌≡◌ {A = ℕ} 0 1 = cc in absurd (omega arith)
pairs-length Pairs n e = refl
