-- One entry united with each entry of a table: the candidates in their order, as the words give them. Assumes nothing.
use mathlib.Core.Path.{◌≡◌, refl, sym, ap, ap₂, ◌∙◌, subst}
use mathlib.Core.List.{List, [], ◌∷◌, ◌++◌, map}
use Prim.Native.Nat.{ℕ, ◌+◌, ◌-◌, ◌*◌, ◌≤◌, ◌<◌}
use native.Mathlib.Omega.{arith}
use lib.ListN.{length, drop, get_or}
use Rattle.lists.specs.Lists.{All, products}
use Rattle.lists.proofs.Members.{all_drop, map-drop, products_at, all_products}
use Rattle.labels.specs.Labels.{label_count}
use Rattle.tables.specs.Definitions.{pairs, unite_pairs}
use Rattle.values.specs.declared.Value.{Value}
use Rattle.values.specs.Values.{valued, no_value}
use Rattle.candidates.specs.Candidates.{pair_of}
use Rattle.rows.specs.Parts.{part}
use Rattle.entries.specs.declared.Carry.{Carry}
use Rattle.entries.specs.declared.Carry.TheVariants.{Nothing, First, Consequences}
use Rattle.entries.specs.Carries.{carried_by, Keeps, in_words, values_in, value_area, Entry, entry_algebra}
use Rattle.entries.proofs.Entering.{none}
use Rattle.making.specs.Making.{FitEntry, entry_at, entries_at}
use Rattle.making.proofs.Held.{entries-long, entry-at}
use Rattle.making.proofs.Underway.{Underway, Operand, words-before, within, beside, row-same, held-same, row-value, next-held}
use Rattle.unions.specs.Unions.{united_at, united_with}

-- one entry with each of the n entries of the area at word b: the j-th of them is next
module _ {carry : Carry} {w p to made b o n : ℕ} {cands left : List Entry} {m r : ℕ} {ws₀ index₀ vals₀ ws index vals : List ℕ}
    (d : Operand carry w p to made b o n ws₀ vals₀) (h : Underway carry w p to made cands left m r ws₀ index₀ vals₀ ws index vals) (j : ℕ) (l : j < n) where
  abbrev bs : List Entry
  bs = entries_at carry w p b n (value_area carry p o vals₀) ws₀

  module _ (ra : ℕ) (low : ra + w ≤ to) (va : Value) where
    abbrev unite : Entry → Entry
    unite = (entry_algebra label_count carry).united (entry_at w ra va ws₀)

    module _ (many : ℕ) (is : many ≡ in_words carry p) (vb : Value) (eb : vb ≡ get_or (values_in carry n (part o (o + many - o) vals)) j no_value) (v : Value) (ev : v ≡ (carried_by carry).together va vb) where
      pub next-is : map unite (drop j bs) ≡ united_at w ra (b + j * w) v ws ∷ map unite (drop (j + 1) bs)
      unfolding entry_algebra valued pairs
      next-is =
          ap (map unite) (next-held d h j l vb (row-value d h j l many is vb eb))
          ∙ (λ i. record { item = unite_pairs (pair_of (sym (words-before h ra w low) i)) (pair_of (part (b + j * w) w ws)); value = sym ev i } ∷ map unite (drop (j + 1) bs))

      -- where all candidates fit, so does this one
      pub fit_next : All (FitEntry w) (map unite bs) → All (FitEntry w) (united_at w ra (b + j * w) v ws ∷ [])
      fit_next a = ((subst (All (FitEntry w)) (sym (map-drop unite j bs) ∙ next-is) (all_drop (FitEntry w) j (map unite bs) a)).0, tt)

-- the na entries of one table with each of the nb of another: those of the i-th are next
module _ {carry : Carry} {w p to made a oa na b ob nb : ℕ} {cands left : List Entry} {m r : ℕ} {ws₀ index₀ vals₀ ws index vals : List ℕ}
    (d : Operand carry w p to made a oa na ws₀ vals₀) (g : Operand carry w p to made b ob nb ws₀ vals₀) (h : Underway carry w p to made cands left m r ws₀ index₀ vals₀ ws index vals)
    (i : ℕ) (l : i < na)
    (many : ℕ) (is : many ≡ in_words carry p) (va : Value) (ev : va ≡ get_or (values_in carry na (part oa (oa + many - oa) vals)) i no_value) where
  abbrev xs : List Entry
  xs = entries_at carry w p a na (value_area carry p oa vals₀) ws₀

  abbrev ys : List Entry
  ys = entries_at carry w p b nb (value_area carry p ob vals₀) ws₀

  abbrev united : Entry → Entry → Entry
  united = (entry_algebra label_count carry).united

  within-as : i < length xs
  within-as = omega (arith, entries-long carry w p a na (value_area carry p oa vals₀) ws₀ (within d h) d.rows (beside d h))

  here : get_or xs i none ≡ entry_at w (a + i * w) va ws
  here = entry-at carry w p a na (value_area carry p oa vals₀) ws₀ (within d h) d.rows (beside d h) i l va (row-value d h i l many is va ev) ws (row-same d h i l)

  pub products-next : products united (drop i xs) ys ≡ united_with carry w p (a + i * w) va b ob nb vals ws ++ products united (drop (i + 1) xs) ys
  products-next =
      products_at united none xs ys i within-as
      ∙ ap₂ {C = List Entry} (λ x zs. map (united x) zs ++ products united (drop (i + 1) xs) ys) here (sym (held-same g h))

  pub fit_row : All (FitEntry w) (products united xs ys) → All (FitEntry w) (united_with carry w p (a + i * w) va b ob nb vals ws)
  fit_row f = rw (held-same g h, sym here) (all_products united (FitEntry w) none xs ys i f within-as)

pub no-products : (f : Entry → Entry → Entry) (us vs : List Entry) → us ≡ [] → products f us vs ≡ []
unfolding products
no-products f us vs e = ap (λ (l : List Entry). products f l vs) e

-- the value of two entries together is one that words keep
pub keeps-together : (carry : Carry) (a b : Value) → Keeps carry ((carried_by carry).together a b)
keeps-together Nothing a b = refl
keeps-together First a b = refl
keeps-together Consequences a b = tt
