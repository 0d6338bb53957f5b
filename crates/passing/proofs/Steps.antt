-- A step over a name moves only the place (02, Item 1): no count and no word changes, and it is not refused. Assumes nothing.
use Rattle.std.specs.Prelude.{Some}
use mathlib.Core.Path.{◌≡◌, refl, sym, ap, ◌∙◌, subst}
use mathlib.Core.List.{List, [], ◌∷◌, map}
use Prim.Native.Nat.{ℕ, ◌-◌, zero-le}
use native.Mathlib.Omega.{arith}
use lib.ListN.{length, drop}
use Rattle.lists.specs.Lists.{All}
use Rattle.lists.specs.Sorted.{Rising}
use Rattle.labels.specs.Labels.{label_count}
use Rattle.expression.specs.declared.Command.TheVariants.{Name}
use Rattle.expression.specs.declared.Counts.{Counts}
use Rattle.expression.specs.Limits.{depth_limit, row_words, areas_for}
use Rattle.expression.specs.Commands.{Got, read_at}
use Rattle.expression.specs.Checks.{Passed, Request, check, depth_of, need_of}
use Rattle.semantics.specs.Expressions.{act}
use Rattle.tables.specs.Definitions.{Pair}
use Rattle.decisions.specs.Decisions.{pairs_fault, newest}
use Rattle.entries.specs.declared.Carry.TheVariants.{Nothing}
use Rattle.workspace.specs.Workspace.{workspace_of, Sound, counts_of}
use Rattle.workspace.proofs.Faults.{no-fault}
use Rattle.workspace.proofs.Acting.{sound-pairs}
use Rattle.stacks.proofs.Clearing.{counts-pairs}
use Rattle.advances.specs.Advances.{Stands}
use Rattle.advances.proofs.Steps.{fault-none}
use Rattle.advances.proofs.Bare.{bare, bare-tables}
use Rattle.records.specs.declared.Record.{Record}
use Rattle.records.specs.Steps.{found, formed_at, moves, step}
use Rattle.records.specs.declared.Answer.TheVariants.{Moved}
use Rattle.record_tests.proofs.Forming.{found-many, stands}
use Rattle.starts.proofs.Cases.{step-formed, command-read, move-done}

-- ---- the newest of tables that can be kept exceeds no limit

none-sound : (w p : ℕ) → Sound w p []
unfolding Rising
none-sound w p = record { few = zero-le; fit = tt; rising = tt; ordered = tt }

newest-sound : (w p : ℕ) (ts : List (List Pair)) → All (Sound w p) ts → Sound w p (newest ts)
newest-sound w p [] h = none-sound w p
newest-sound w p (t ∷ ts) h = h.0

sound-fault : (P G : ℕ) (t : List Pair) → Sound (row_words G) P t → pairs_fault P G t ≡ 0
sound-fault P G t h =
    ap (λ (g : ℕ). pairs_fault P g t) (let e : G ≡ row_words G - 2 = omega arith in e) ∙ sym (no-fault (row_words G) P (length t) (omega arith) t h refl) ∙ fault-none P (length t) h.few

pub none-fault : (P G : ℕ) → pairs_fault P G [] ≡ 0
none-fault P G = sound-fault P G [] (none-sound (row_words G) P)

-- ---- a record of the form asked for

module _ (a : Request) (r : Record) (ws : List ℕ) {z n : Counts} (passed : check label_count a ≡ Passed z) (formed : formed_at label_count a r ws ≡ Some n) (room : a.room ≡ length ws) (eight : length r.counts ≡ depth_limit) where
  abbrev w : ℕ
  w = row_words a.subset_limit

  abbrev p : ℕ
  p = a.pair_limit

  abbrev areas : ℕ
  areas = areas_for (depth_of label_count a.bytes)

  abbrev ts : List (List Pair)
  ts = found label_count a r ws

  S : Stands Nothing areas w p (map bare ts) (drop (need_of label_count a) ws) ws [] r.counts
  S = stands a r ws passed formed room eight refl

  -- the record and the words are those of the tables found
  counts-are : counts_of depth_limit ts ≡ r.counts
  counts-are = sym (S.tallies ∙ sym (counts-pairs depth_limit (map bare ts)) ∙ ap (counts_of depth_limit) (bare-tables ts))

  words_are : workspace_of areas w p ts (drop (need_of label_count a) ws) ≡ ws
  words_are = sym (S.holds.words ∙ ap (λ (us : List (List Pair)). workspace_of areas w p us (drop (need_of label_count a) ws)) (bare-tables ts))

  -- and exceed no limit
  within : pairs_fault p a.subset_limit (newest ts) ≡ 0
  within = sound-fault p a.subset_limit (newest ts) (newest-sound w p ts (subst (All (Sound w p)) (bare-tables ts) (sound-pairs w p (map bare ts) S.holds.sound)))

  -- a move with the same tables
  still : (next : ℕ) → moves label_count a next ts ws ≡ record { state = record { place = next; tables = r.tables; counts = r.counts }; answer = Moved; words = ws }
  unfolding moves
  still next = rw (found-many a r ws passed formed room eight, counts-are, words_are)

-- for a record of eight counts and all words of the workspace, as every call has
pub step-passes : (a : Request) {z : Counts} → check label_count a ≡ Passed z → (r : Record) (ws : List ℕ) → length r.counts ≡ depth_limit → a.room ≡ length ws
    → {n : Counts} → formed_at label_count a r ws ≡ Some n → {x next : ℕ} → read_at label_count a.bytes r.place ≡ Got (Name x) next
    → step label_count a r ws ≡ record { state = record { place = next; tables = r.tables; counts = r.counts }; answer = Moved; words = ws }
unfolding act
step-passes a passed r ws eight room {n} formed {x} {next} read =
    step-formed label_count a r ws passed formed ∙ command-read label_count a r ws n read
    ∙ move-done label_count a r ws next (found label_count a r ws) (within a r ws passed formed room eight) ∙ still a r ws passed formed room eight next
