-- A workspace that holds no table, and a stack cleared table by table, the newest first. Assumes nothing.
use mathlib.Core.Path.{◌≡◌, refl, sym, ap, ◌∙◌, subst}
use mathlib.Core.List.{List, [], ◌∷◌, ◌++◌, map}
use Prim.Native.Nat.{ℕ, suc, ◌+◌, ◌-◌, ◌*◌, ◌≤◌, ◌<◌}
use native.Mathlib.Nat.{sub-zero, sub_self, mul-le-mul_right}
use native.Mathlib.Omega.{arith}
use lib.ListN.{length, drop, get_or, length-drop, length-map, drop_of_length-le}
use lib.Seq.{drop-cons}
use Rattle.lists.specs.Lists.{All}
use Rattle.lists.proofs.Members.{all_drop}
use Rattle.tables.specs.Definitions.{Pair}
use Rattle.rows.specs.Parts.{part, put, zeros}
use Rattle.rows.specs.Rows.{table_of, Rows}
use Rattle.rows.proofs.Tables.{row_within, rows_of}
use Rattle.entries.specs.declared.Carry.{Carry}
use Rattle.entries.specs.Carries.{Entry}
use Rattle.workspace.specs.Workspace.{stack_words, workspace_of, Sound, pairs_of, Roomy, Holds, stack_counts, counts_of}
use Rattle.workspace.proofs.Areas.{workspace-long, area-newest, popped}
use Rattle.workspace.proofs.Acting.{sound-pairs}
use Rattle.stacks.specs.Stacks.{Counted}
use Rattle.stacks.proofs.Counts.{counts-within, count_at}

-- ---- no table

pub workspace-none : (d w p : ℕ) (beyond : List ℕ) → workspace_of d w p [] beyond ≡ zeros (d * (p * w)) ++ beyond
unfolding workspace_of stack_words
workspace-none d w p beyond = ap (λ (j : ℕ). zeros (j * (p * w)) ++ beyond) (sub-zero d)

pub cleared-holds : (carry : Carry) (d w p : ℕ) (beyond ws vals : List ℕ) → ws ≡ workspace_of d w p [] beyond → 0 < d → Roomy carry d p vals → Holds carry d w p [] beyond ws vals
cleared-holds carry d w p beyond ws vals e l r = record {
  words = e;
  sound = tt;
  free = l;
  values = tt;
  roomy = r;
}

-- ---- the stack that is held, by its pairs

stack-pairs : (ts : List (List Entry)) → stack_counts (map pairs_of ts) ≡ stack_counts ts
unfolding stack_counts
stack-pairs [] = refl
stack-pairs (t ∷ ts) = rw (length-map t (λ (x : Entry). x.item), stack-pairs ts)

pub counts-pairs : (n : ℕ) (ts : List (List Entry)) → counts_of n (map pairs_of ts) ≡ counts_of n ts
unfolding counts_of
counts-pairs n ts = rw (length-map ts pairs_of, stack-pairs ts)

-- what clearing the tables asks for
pub holds-counted : {carry : Carry} {d w p t : ℕ} {ts : List (List Entry)} {beyond counts ws vals : List ℕ} (n : ℕ) → Holds carry d w p ts beyond ws vals → length ts ≡ t → counts ≡ counts_of n ts
    → Counted d w p t (map pairs_of ts) beyond counts ws
holds-counted {w = w} {p = p} {ts = ts} n h e k = record {
  words = h.words;
  sound = sound-pairs w p ts h.sound;
  within = omega (arith, h.free, length-map ts pairs_of);
  tables = length-map ts pairs_of ∙ e;
  room = n;
  tallies = k ∙ sym (counts-pairs n ts);
}

-- ---- the tables cleared, the newest first

module _ {d w p t : ℕ} {ts : List (List Pair)} {beyond counts ws : List ℕ} (h : Counted d w p t ts beyond counts ws) where
  abbrev k : ℕ
  k = p * w

  -- the i oldest tables
  abbrev pub oldest : ℕ → List (List Pair)
  oldest i = drop (t - i) ts

  pub all_left : ws ≡ workspace_of d w p (oldest t) beyond
  all_left = h.words ∙ ap (λ (j : ℕ). workspace_of d w p (drop j ts) beyond) (sym (sub_self t))

  pub none_left : oldest 0 ≡ []
  none_left = drop_of_length-le ts {i = t - 0} (omega (arith, h.tables))

  pub counts-room : t ≤ length counts
  counts-room = rw h.tallies (subst (λ (j : ℕ). j ≤ length (counts_of h.room ts)) h.tables (counts-within h.room ts))

  pub stack-room : t * k ≤ length ws
  stack-room =
      let few : t ≤ d = omega (arith, h.tables, h.within) in
      omega (arith, mul-le-mul_right k few, ap length h.words ∙ workspace-long w p d beyond ts h.sound h.within)

  -- the newest of i tables cleared
  module _ (i j : ℕ) (q : suc j ≡ i) (l : i ≤ t) where
    abbrev table : List Pair
    table = get_or ts (t - i) []

    split : oldest i ≡ table ∷ oldest j
    split = drop-cons ts (t - i) [] (omega (arith, h.tables)) ∙ ap (λ (m : ℕ). table ∷ drop m ts) (let z : suc (t - i) ≡ t - j = omega arith in z)

    deep : length (oldest j) ≡ j
    deep = length-drop (t - j) ts ∙ omega (arith, h.tables)

    below : length (oldest j) < d
    below = omega (arith, deep, h.tables, h.within)

    both : Sound w p table × All (Sound w p) (oldest j)
    both = subst (All (Sound w p)) split (all_drop (Sound w p) (t - i) ts h.sound)

    count-is : get_or counts j 0 ≡ length table
    count-is =
        ap (λ (u : List ℕ). get_or u j 0) h.tallies ∙ ap (λ (m : ℕ). get_or (counts_of h.room ts) m 0) (let z : j ≡ length ts - suc (t - i) = omega (arith, h.tables) in z)
        ∙ count_at h.room ts (t - i) (omega (arith, h.tables))

    module _ (us : List ℕ) (e : us ≡ workspace_of d w p (oldest i) beyond) where
      whole : us ≡ workspace_of d w p (table ∷ oldest j) beyond
      whole = e ∙ ap (λ (vs : List (List Pair)). workspace_of d w p vs beyond) split

      pub area-within : j * k + k ≤ length us
      area-within = omega (arith, row_within j d k (omega (arith, deep, below)), ap length whole ∙ workspace-long w p d beyond (table ∷ oldest j) both below)

      area : part (j * k) k us ≡ table_of w p table
      area =
          ap (λ (m : ℕ). part (m * k) k us) (sym deep) ∙ ap (part (length (oldest j) * k) k) whole
          ∙ area-newest w p d beyond (oldest j) both.1 below table both.0

      pub area-rows : Rows w p (get_or counts j 0) (part (j * k) k us)
      area-rows = (rows_of w p (get_or counts j 0) table (part (j * k) k us) area (sym count-is) (omega (arith, count-is, both.0.few)) both.0.fit).0

      pub one_less : put (j * k) k us (zeros k) ≡ workspace_of d w p (oldest j) beyond
      one_less =
          ap (λ (m : ℕ). put (m * k) k us (zeros k)) (sym deep) ∙ ap (λ (v : List ℕ). put (length (oldest j) * k) k v (zeros k)) whole
          ∙ popped w p d beyond (oldest j) both.1 below table both.0
