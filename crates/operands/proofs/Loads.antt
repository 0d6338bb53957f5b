-- What a workspace that holds a stack of tables gives to a command: room, scratch, and its operands. Assumes nothing.
use mathlib.Core.Path.{◌≡◌, sym, ap, ◌∙◌, subst}
use mathlib.Core.List.{List, [], ◌∷◌, map}
use Prim.Native.Nat.{ℕ, ◌+◌, ◌-◌, ◌*◌, ◌≤◌, ◌<◌}
use native.Mathlib.Omega.{arith}
use lib.ListN.{length, take, drop, length-drop, length-map}
use lib.Seq.{take_all}
use Rattle.lists.specs.Lists.{All}
use Rattle.decisions.specs.Decisions.{newest}
use Rattle.rows.specs.Parts.{Apart, part, zeros}
use Rattle.rows.specs.Rows.{Rows, rows_in, table_of}
use Rattle.entries.specs.declared.Carry.{Carry}
use Rattle.entries.specs.Carries.{Entry, in_words, values_in, Kept, value_area}
use Rattle.entries.proofs.Keeping.{in-most}
use Rattle.entries.proofs.ValueAreas.{kept-zeros, area-values}
use Rattle.making.specs.Making.{entries_at}
use Rattle.workspace.specs.Workspace.{Sound, pairs_of, values_of, values_from, Roomy}
use Rattle.workspace.proofs.Areas.{workspace-long, area-newest, area-second, area-free, scratch-free}
use Rattle.rows.proofs.Tables.{row_within}
use Rattle.workspace.proofs.Acting.{sound-pairs, operand_rows, operand-pairs, operand-entries}
use Rattle.operands.specs.Operands.{Loaded}

-- ---- room for values

-- p values take few words
pub few_words : (carry : Carry) (p : ℕ) → p ≤ 1024 → in_words carry p ≤ 2048
few_words carry p l = omega (arith, in-most carry p)

-- the words from o on
pub rest-is : (o : ℕ) (xs : List ℕ) → take (length xs - o) (drop o xs) ≡ drop o xs
rest-is o xs = take_all (length xs - o) (drop o xs) (simp length-drop (omega arith))

-- the values of table i lie apart from those that are made, in the last of d areas
pub values-apart : {carry : Carry} {d p : ℕ} {vals : List ℕ} → Roomy carry d p vals → (i : ℕ) → i + 1 < d → (o made : ℕ) → o ≡ values_from carry p i → made ≡ values_from carry p (d - 1)
    → Apart o made (in_words carry p) (length vals)
values-apart {carry} {d} {p} h i l o made eo em = record {
  before = omega (arith, eo, em, row_within i (d - 1) (in_words carry p) (omega arith));
  within = omega (arith, em, h.room, row_within (d - 1) d (in_words carry p) (omega arith));
}

-- none of which is there yet
pub none_made : {carry : Carry} {d p : ℕ} {vals : List ℕ} → Roomy carry d p vals → (made : ℕ) → made ≡ values_from carry p (d - 1) → Kept carry p 0 (value_area carry p made vals)
none_made {carry} {p = p} {vals = vals} h made em = kept-zeros carry p (value_area carry p made vals) (rw em h.clear)

-- ---- the words

module _ {carry : Carry} {d w p t n m : ℕ} {ts : List (List Entry)} {beyond ws vals : List ℕ} (h : Loaded carry d w p t n m ts beyond ws vals) where
  abbrev k : ℕ
  k = p * w

  stack-sound : All (Sound w p) (map pairs_of ts)
  stack-sound = sound-pairs w p ts h.holds.sound

  deep : length (map pairs_of ts) ≡ t
  deep = length-map ts pairs_of ∙ h.tables

  pub below : t < d
  below = omega (arith, h.holds.free, h.tables)

  within : d * k ≤ length ws
  within = let e = ap length h.holds.words ∙ workspace-long w p d beyond (map pairs_of ts) stack-sound (omega (arith, deep, below)) in omega arith

  pub inside : (i : ℕ) → i < d → i * k + k ≤ length ws
  inside i l = omega (arith, row_within i d k l, within)

  -- the area behind area i begins where it ends
  pub area-behind : (i j : ℕ) → i + 1 ≡ j → i * k + k ≡ j * k
  area-behind i j e = let z : i * k + k ≡ (i + 1) * k = omega arith in z ∙ ap (λ (l : ℕ). l * k) e

  pub scratch-zero : part ((d - 1) * k) k ws ≡ zeros k
  scratch-zero = ap (part ((d - 1) * k) k) h.holds.words ∙ scratch-free w p d beyond (d - 1) (map pairs_of ts) stack-sound (omega (arith, below)) (omega (arith, deep, below))

  pub free-zero : part (t * k) k ws ≡ zeros k
  free-zero =
      ap (λ (j : ℕ). part (j * k) k ws) (sym deep) ∙ ap (part (length (map pairs_of ts) * k) k) h.holds.words ∙ area-free w p d beyond (map pairs_of ts) stack-sound (omega (arith, deep, below))

-- ---- operands

-- table i of the workspace is x
pub record Stands (carry : Carry) (w p i : ℕ) (x : List Entry) (ws vals : List ℕ) : Type 0 where
  pub area : part (i * (p * w)) (p * w) ws ≡ table_of w p (pairs_of x)
  pub sound : Sound w p (pairs_of x)
  pub values : values_in carry (length x) (drop (values_from carry p i) vals) ≡ values_of x

module _ {carry : Carry} {d w p t n m : ℕ} {beyond ws vals : List ℕ} where
  pub newer-stands : (ts : List (List Entry)) → Loaded carry d w p t n m ts beyond ws vals → 1 ≤ t → Stands carry w p (t - 1) (newest ts) ws vals
  newer-stands [] h one = absurd (omega (arith, h.tables))
  newer-stands (x ∷ us) h one =
      let i : length us ≡ t - 1 = omega (arith, h.tables) in
      let l = length-map us pairs_of in
      subst (λ (j : ℕ). Stands carry w p j x ws vals) i (record {
        area =
            ap (λ (j : ℕ). part (j * (p * w)) (p * w) ws) (sym l) ∙ ap (part (length (map pairs_of us) * (p * w)) (p * w)) h.holds.words
            ∙ area-newest w p d beyond (map pairs_of us) (sound-pairs w p us h.holds.sound.1) (omega (arith, l, h.holds.free)) (pairs_of x) h.holds.sound.0;
        sound = h.holds.sound.0;
        values = h.holds.values.0;
      })

  pub older-stands : (ts : List (List Entry)) → Loaded carry d w p t n m ts beyond ws vals → 2 ≤ t → Stands carry w p (t - 2) (newest (drop 1 ts)) ws vals
  older-stands [] h two = absurd (omega (arith, h.tables))
  older-stands (b ∷ []) h two = absurd (omega (arith, h.tables))
  older-stands (b ∷ a ∷ us) h two =
      let i : length us ≡ t - 2 = omega (arith, h.tables) in
      let l = length-map us pairs_of in
      subst (λ (j : ℕ). Stands carry w p j a ws vals) i (record {
        area =
            ap (λ (j : ℕ). part (j * (p * w)) (p * w) ws) (sym l) ∙ ap (part (length (map pairs_of us) * (p * w)) (p * w)) h.holds.words
            ∙ area-second w p d beyond (map pairs_of us) (sound-pairs w p us h.holds.sound.1.1) (pairs_of a) (pairs_of b) h.holds.sound.1.0 h.holds.sound.0 (omega (arith, l, h.holds.free));
        sound = h.holds.sound.1.0;
        values = h.holds.values.1.0;
      })

-- its rows and its entries, by where they begin
module _ {carry : Carry} {w p i : ℕ} {x : List Entry} {ws vals : List ℕ} (h : Stands carry w p i x ws vals) (at n : ℕ) (e : at ≡ i * (p * w)) (many : length x ≡ n) where
  there : part at (p * w) ws ≡ table_of w p (pairs_of x)
  there = ap (λ (j : ℕ). part j (p * w) ws) e ∙ h.area

  pub stands-rows : Rows w p n (part at (p * w) ws)
  stands-rows = operand_rows carry w p at n x ws vals h.sound there many

  pub stands-pairs : rows_in w n (part at (p * w) ws) ≡ pairs_of x
  stands-pairs = operand-pairs carry w p at n x ws vals h.sound there many

  pub stands-few : n ≤ p
  stands-few = omega (arith, h.sound.few, length-map x (λ (y : Entry). y.item), many)

  pub stands-entries : (o : ℕ) → o ≡ values_from carry p i → entries_at carry w p at n (drop o vals) ws ≡ x
  stands-entries o eo = operand-entries carry w p at n x ws (drop o vals) h.sound there many (rw (eo, sym many) h.values)

  pub stands-area : (o : ℕ) → o ≡ values_from carry p i → entries_at carry w p at n (value_area carry p o vals) ws ≡ x
  stands-area o eo = operand-entries carry w p at n x ws (value_area carry p o vals) h.sound there many (area-values carry p o n vals stands-few ∙ rw (eo, sym many) h.values)
