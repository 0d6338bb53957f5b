-- The table that a report asks for, from a walk over tables of pairs with values. Assumes nothing.
use Rattle.std.specs.Prelude.{Option}
use mathlib.Core.Path.{◌≡◌, refl, sym, ap, ◌∙◌, fun_ext}
use mathlib.Core.Bool.{Bool, true, false}
use mathlib.Core.List.{List, [], ◌∷◌, map}
use Prim.Native.Nat.{ℕ, ◌+◌, ◌-◌, ◌*◌, ◌≤◌, ◌<◌}
use native.Mathlib.Omega.{arith}
use lib.Dec.{ltb}
use lib.ListN.{length, length-map}
use borrow.Author.Tests.{ltb-true, lt-ltb, le-ltb}
use Rattle.lists.proofs.Members.{and_both}
use Rattle.labels.specs.Labels.{label_count}
use Rattle.expression.specs.declared.Counts.{Counts}
use Rattle.expression.specs.Places.{locate}
use Rattle.expression.specs.Refusals.{offset}
use Rattle.expression.specs.Reading.{Placed, reading}
use Rattle.expression.specs.Limits.{area_count}
use Rattle.expression.specs.Checks.{Checked, Passed, Refused as Stopped, Request, check, need_of}
use Rattle.semantics.specs.AnswerSets.{by_masks}
use Rattle.tables.specs.Algebras.{Algebra, tables}
use Rattle.tables.specs.Definitions.{Pair, pairs, flat, triples}
use Rattle.tables.proofs.Answers.{pairs-lawful}
use Rattle.tables.proofs.Morphisms.{tables-map, single, single-morphism}
use Rattle.values.proofs.Items.{item-morphism}
use Rattle.decisions.specs.Decisions.{assumed, commands_in, newest, Walked, stopped, walked, walk, pairs_fault, plain_fault}
use Rattle.decisions.proofs.Carried.{map_walked, walk-map, single-fault}
use Rattle.entries.specs.declared.Carry.TheVariants.{Nothing}
use Rattle.entries.specs.Carries.{Entry, carried_by}
use Rattle.checks.specs.declared.frames.Frame.{Frame}
use Rattle.checks.specs.Frames.{frame_of}
use Rattle.checks.proofs.Passing.{frame-need, frame-limits, frame-deep, frame-fits, plain_fits}
use Rattle.leaves.specs.declared.Tables.{Tables}
use Rattle.leaves.specs.declared.Tables.TheVariants.{Plain, Pairs}
use Rattle.leaves.specs.Leaves.{algebra_of, table_algebra, Wide}
use Rattle.workspace.specs.Workspace.{pairs_of}
use Rattle.walks.specs.Walks.{Enough, before, walk_to}
use Rattle.reports.specs.Reports.{entry_words, report_of}
use Rattle.stacks.specs.Stacks.{cleared}
use Rattle.reporting.specs.Reporting.{is_before, starts_at, Asked, refused_at, newest_in, asked_table, report_answer, report_buffer, words_reported}
use Rattle.report_calls.specs.ReportCalls.{narrowed, subsets_of, entries_asked}

-- a table carried along a map answers and writes the same, where the words are the same
module _ {X Y : Type 0} (h : X → Y) (f : List X → List ℕ) (g : List Y → List ℕ) (same : (t : List X) → f t ≡ g (map h t)) where
  newest-mapped : (us : List (List X)) → newest (map (map h) us) ≡ map h (newest us)
  newest-mapped [] = refl
  newest-mapped (t ∷ us) = refl

  pub answer-mapped : (room at : ℕ) (v : Walked X) → report_answer f room at (newest_in v) ≡ report_answer g room at (newest_in (map_walked h v))
  unfolding map_walked
  answer-mapped room at (stopped n p) = refl
  answer-mapped room at (walked us) = rw (newest-mapped us, same (newest us), length-map (newest us) h)

  pub buffer-mapped : (out : List ℕ) (v : Walked X) → report_buffer f out (newest_in v) ≡ report_buffer g out (newest_in (map_walked h v))
  unfolding map_walked
  buffer-mapped out (stopped n p) = refl
  buffer-mapped out (walked us) = rw (newest-mapped us, same (newest us))

-- a plain table is its own report
pub plain-words : (t : List ℕ) → t ≡ report_of Plain (map single t)
unfolding report_of entry_words
plain-words [] = refl
plain-words (q ∷ t) = ap (λ (u : List ℕ). q ∷ u) (plain-words t)

flat_keeps : (K : ℕ) (x y : Pair) → (flat K).merge x y ≡ y
unfolding flat
flat_keeps K x y = refl

module _ (a : Request) (at : ℕ) where
  abbrev fault_of : Tables → List Entry → ℕ
  fault_of kind t = pairs_fault a.pair_limit (subsets_of kind a.subset_limit) (pairs_of t)

  abbrev cs : List Placed
  cs = before (at + 1) (commands_in (reading label_count a.bytes))

  -- the walk over tables of pairs is that over tables with values, its values dropped
  pub pairs-walk : walk (tables (pairs label_count) (assumed a)) (pairs_fault a.pair_limit a.subset_limit) 0 cs []
      ≡ map_walked (λ (x : Entry). x.item) (walk (tables (table_algebra Pairs Nothing) (assumed a)) (λ t. pairs_fault a.pair_limit a.subset_limit (pairs_of t)) 0 cs [])
  unfolding table_algebra algebra_of
  pairs-walk = walk-map (tables-map (item-morphism (pairs label_count) (carried_by Nothing) (pairs-lawful label_count).keeps) (assumed a)) (pairs_fault a.pair_limit a.subset_limit) 0 cs []

  -- and the plain walk, as pairs without subsets
  pub plain_walk : map_walked single (walk (tables (triples label_count) (assumed a)) (plain_fault a.pair_limit) 0 cs [])
      ≡ map_walked (λ (x : Entry). x.item) (walk (tables (table_algebra Plain Nothing) (assumed a)) (λ t. pairs_fault a.pair_limit 0 (pairs_of t)) 0 cs [])
  unfolding table_algebra algebra_of
  plain_walk =
      ap (λ (f : List ℕ → ℕ). map_walked single (walk (tables (triples label_count) (assumed a)) f 0 cs [])) (fun_ext (λ t. sym (single-fault a.pair_limit 0 t)))
      ∙ sym (walk-map (tables-map (single-morphism label_count) (assumed a)) (pairs_fault a.pair_limit 0) 0 cs [])
      ∙ walk-map (tables-map (item-morphism (flat label_count) (carried_by Nothing) (flat_keeps label_count)) (assumed a)) (pairs_fault a.pair_limit 0) 0 cs []

  -- ---- a check refuses, or no command starts there

  module _ {X : Type 0} (A : Algebra X) (f : List X → ℕ) where
    pub asked-refused : {n p : ℕ} → check label_count a ≡ Stopped n p → asked_table A f label_count a at ≡ refused_at n p
    unfolding asked_table
    asked-refused h = rw (h, asked_table)

    module _ {z : Counts} (passed : check label_count a ≡ Passed z) where
      pub asked-nowhere : starts_at label_count a.bytes at ≡ false → asked_table A f label_count a at ≡ refused_at offset at
      unfolding asked_table
      asked-nowhere h = rw (passed, asked_table, h)

      pub asked-walk : starts_at label_count a.bytes at ≡ true → asked_table A f label_count a at ≡ newest_in (walk (tables A (assumed a)) f 0 cs [])
      unfolding asked_table
      asked-walk h = rw (passed, asked_table, h)

  pub words-refused : {n p : ℕ} (ws : List ℕ) → check label_count a ≡ Stopped n p → ws ≡ words_reported label_count a at ws
  unfolding words_reported
  words-refused ws h = rw (h, words_reported)

  module _ {z : Counts} (passed : check label_count a ≡ Passed z) (ws : List ℕ) where
    pub words-nowhere : starts_at label_count a.bytes at ≡ false → ws ≡ words_reported label_count a at ws
    unfolding words_reported
    words-nowhere h = rw (passed, words_reported, h)

    pub words-cleared : starts_at label_count a.bytes at ≡ true → {n : ℕ} → n ≡ need_of label_count a → cleared n ws ≡ words_reported label_count a at ws
    unfolding words_reported
    words-cleared h e = rw (passed, words_reported, h, e)

  pub entries-refused : (kind : Tables) {n p : ℕ} → check label_count a ≡ Stopped n p → entries_asked kind label_count a at ≡ refused_at n p
  entries-refused kind h = asked-refused (table_algebra kind Nothing) (fault_of kind) h

  pub entries-nowhere : (kind : Tables) {z : Counts} → check label_count a ≡ Passed z → starts_at label_count a.bytes at ≡ false → entries_asked kind label_count a at ≡ refused_at offset at
  entries-nowhere kind passed h = asked-nowhere (table_algebra kind Nothing) (fault_of kind) passed h

  -- what holds of refusals, and of the newest of two walks, holds of what is asked by them
  pub asked-alike : {X Y : Type 0} (A : Algebra X) (f : List X → ℕ) (B : Algebra Y) (g : List Y → ℕ) (R : Asked X → Asked Y → Type 0)
      → ((n p : ℕ) → R (refused_at n p) (refused_at n p)) → R (newest_in (walk (tables A (assumed a)) f 0 cs [])) (newest_in (walk (tables B (assumed a)) g 0 cs []))
      → R (asked_table A f label_count a at) (asked_table B g label_count a at)
  asked-alike {X} {Y} A f B g R refuses walks = by (check label_count a) refl
    where
      starts : {z : Counts} → check label_count a ≡ Passed z → (b : Bool) → starts_at label_count a.bytes at ≡ b → R (asked_table A f label_count a at) (asked_table B g label_count a at)
      starts passed true h = rw (asked-walk A f passed h, asked-walk B g passed h) walks
      starts passed false h = rw (asked-nowhere A f passed h, asked-nowhere B g passed h) (refuses offset at)

      by : (c : Checked) → check label_count a ≡ c → R (asked_table A f label_count a at) (asked_table B g label_count a at)
      by (Passed z) h = starts h (starts_at label_count a.bytes at) refl
      by (Stopped n p) h = rw (asked-refused A f h, asked-refused B g h) (refuses n p)

  -- ---- what is asked of tables with values is answered and written as what is asked of those without

  abbrev words_of : Tables → List Entry → List ℕ
  words_of kind x = report_of kind (pairs_of x)

  abbrev W : Tables → Walked Entry
  W kind = walk (tables (table_algebra kind Nothing) (assumed a)) (fault_of kind) 0 cs []

  -- its frame walks as it is asked
  pub walks-asked : (kind : Tables) (f : Frame) {z : Counts} → f ≡ narrowed kind (frame_of z.deepest a.pair_limit a.subset_limit) → check label_count a ≡ Passed z → starts_at label_count a.bytes at ≡ true
      → newest_in (walk_to kind Nothing (by_masks a.assumed_true a.assumed_false) f.width f.limit (at + 1) a.bytes) ≡ entries_asked kind label_count a at
  unfolding walk_to assumed
  walks-asked Plain f e passed starts = rw e (sym (asked-walk (table_algebra Plain Nothing) (fault_of Plain) passed starts))
  walks-asked Pairs f e passed starts =
      ap (λ (x : Frame). newest_in (walk_to Pairs Nothing (by_masks a.assumed_true a.assumed_false) x.width x.limit (at + 1) a.bytes)) e
      ∙ ap (λ (g : ℕ). newest_in (walk (tables (table_algebra Pairs Nothing) (assumed a)) (λ t. pairs_fault a.pair_limit g (pairs_of t)) 0 cs [])) (let z : a.subset_limit + 2 - 2 ≡ a.subset_limit = omega arith in z)
      ∙ sym (asked-walk (table_algebra Pairs Nothing) (fault_of Pairs) passed starts)

  pub pairs-answer : (room : ℕ) → report_answer (words_of Pairs) room at (entries_asked Pairs label_count a at) ≡ report_answer (report_of Pairs) room at (asked_table (pairs label_count) (pairs_fault a.pair_limit a.subset_limit) label_count a at)
  pairs-answer room =
      asked-alike (table_algebra Pairs Nothing) (fault_of Pairs) (pairs label_count) (pairs_fault a.pair_limit a.subset_limit)
      (λ (x : Asked Entry) (y : Asked Pair). report_answer (words_of Pairs) room at x ≡ report_answer (report_of Pairs) room at y) (λ n p. refl)
      (answer-mapped (λ (x : Entry). x.item) (words_of Pairs) (report_of Pairs) (λ t. refl) room at (W Pairs) ∙ ap (λ (v : Walked Pair). report_answer (report_of Pairs) room at (newest_in v)) (sym pairs-walk))

  pub pairs-buffer : (out : List ℕ) → report_buffer (words_of Pairs) out (entries_asked Pairs label_count a at) ≡ report_buffer (report_of Pairs) out (asked_table (pairs label_count) (pairs_fault a.pair_limit a.subset_limit) label_count a at)
  pairs-buffer out =
      asked-alike (table_algebra Pairs Nothing) (fault_of Pairs) (pairs label_count) (pairs_fault a.pair_limit a.subset_limit)
      (λ (x : Asked Entry) (y : Asked Pair). report_buffer (words_of Pairs) out x ≡ report_buffer (report_of Pairs) out y) (λ n p. refl)
      (buffer-mapped (λ (x : Entry). x.item) (words_of Pairs) (report_of Pairs) (λ t. refl) out (W Pairs) ∙ ap (λ (v : Walked Pair). report_buffer (report_of Pairs) out (newest_in v)) (sym pairs-walk))

  -- the plain walk
  abbrev T : Walked ℕ
  T = walk (tables (triples label_count) (assumed a)) (plain_fault a.pair_limit) 0 cs []

  pub plain-answer : (room : ℕ) → report_answer (words_of Plain) room at (entries_asked Plain label_count a at) ≡ report_answer (λ t. t) room at (asked_table (triples label_count) (plain_fault a.pair_limit) label_count a at)
  plain-answer room =
      asked-alike (table_algebra Plain Nothing) (fault_of Plain) (triples label_count) (plain_fault a.pair_limit)
      (λ (x : Asked Entry) (y : Asked ℕ). report_answer (words_of Plain) room at x ≡ report_answer (λ t. t) room at y) (λ n p. refl)
      (answer-mapped (λ (x : Entry). x.item) (words_of Plain) (report_of Plain) (λ t. refl) room at (W Plain) ∙ ap (λ (v : Walked Pair). report_answer (report_of Plain) room at (newest_in v)) (sym plain_walk)
      ∙ sym (answer-mapped single (λ t. t) (report_of Plain) plain-words room at T))

  pub plain-buffer : (out : List ℕ) → report_buffer (words_of Plain) out (entries_asked Plain label_count a at) ≡ report_buffer (λ t. t) out (asked_table (triples label_count) (plain_fault a.pair_limit) label_count a at)
  plain-buffer out =
      asked-alike (table_algebra Plain Nothing) (fault_of Plain) (triples label_count) (plain_fault a.pair_limit)
      (λ (x : Asked Entry) (y : Asked ℕ). report_buffer (words_of Plain) out x ≡ report_buffer (λ t. t) out y) (λ n p. refl)
      (buffer-mapped (λ (x : Entry). x.item) (words_of Plain) (report_of Plain) (λ t. refl) out (W Plain) ∙ ap (λ (v : Walked Pair). report_buffer (report_of Plain) out (newest_in v)) (sym plain_walk)
      ∙ sym (buffer-mapped single (λ t. t) (report_of Plain) plain-words out T))

-- the frame of a kind fits its tables
module _ (a : Request) {z : Counts} (passed : check label_count a ≡ Passed z) (f : Frame) where
  pub kind-wide : (kind : Tables) → f ≡ narrowed kind (frame_of z.deepest a.pair_limit a.subset_limit) → Wide kind f.width × (f.width ≤ 1026) × (1 ≤ f.limit) × (f.limit ≤ 1024)
  kind-wide Plain e = let l = frame-limits a passed _ refl in rw e (omega arith, omega arith, l.2, l.3)
  kind-wide Pairs e = frame-limits a passed f e

  pub kind-enough : (kind : Tables) → f ≡ narrowed kind (frame_of z.deepest a.pair_limit a.subset_limit) → Enough f.areas a.bytes × (f.need ≤ a.room) × (f.areas * (f.limit * f.width) ≤ f.need) × (f.areas ≤ area_count)
  kind-enough Plain e = let t = plain_fits a passed _ refl in rw e (frame-deep a passed _ refl, t.0, t.1, t.2)
  kind-enough Pairs e = let t = frame-fits a passed f e in (frame-deep a passed f e, t.0, t.1, t.2)

  pub kind-need : (kind : Tables) → f ≡ narrowed kind (frame_of z.deepest a.pair_limit a.subset_limit) → f.need ≡ need_of label_count a
  kind-need Plain e = rw e (frame-need a passed _ refl)
  kind-need Pairs e = frame-need a passed f e

-- ---- where commands start

pub starts-past : (K : ℕ) (s : List ℕ) (at : ℕ) → length s ≤ at → false ≡ starts_at K s at
unfolding starts_at
starts-past K s at l = rw (le-ltb at (length s) l)

pub starts_by : (K : ℕ) (s : List ℕ) (at : ℕ) → at < length s → (x : Option Counts) → locate K s at ≡ x → is_before x ≡ starts_at K s at
unfolding starts_at
starts_by K s at l x e = rw (lt-ltb at (length s) l, e)

pub starts-within : (K : ℕ) (s : List ℕ) (at : ℕ) → starts_at K s at ≡ true → at < length s
unfolding starts_at
starts-within K s at h = ltb-true at (length s) (and_both (ltb at (length s)) (is_before (locate K s at)) h).0
