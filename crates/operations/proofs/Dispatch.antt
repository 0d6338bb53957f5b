-- What each command makes of a stack, as the definition's operations say it. Assumes nothing.
use mathlib.Core.Path.{◌≡◌, refl, sym, ap, ◌∙◌, subst}
use mathlib.Core.List.{List, [], ◌∷◌, map}
use Prim.Native.Nat.{ℕ, ◌+◌, ◌≤◌, ◌<◌}
use native.Mathlib.Omega.{arith}
use lib.ListN.{length, length-map}
use Rattle.labels.specs.Labels.{label_count}
use Rattle.expression.specs.declared.NewAtom.{NewAtom}
use Rattle.expression.specs.declared.Command.{Command}
use Rattle.expression.specs.declared.Command.TheVariants.{Atom, Rule, Union, Relabel, Connect, Name}
use Rattle.expression.specs.declared.Kind.{Kind}
use Rattle.expression.specs.Commands.{Suits}
use Rattle.expression.specs.Effects.{effect}
use Rattle.semantics.specs.Expressions.{link, act, unite_newest, change_newest}
use Rattle.semantics.specs.AnswerSets.{Assumptions}
use Rattle.tables.specs.Algebras.{tables}
use Rattle.tables.specs.Definitions.{pairs, flat, map_pair}
use Rattle.batches.specs.Batches.{Joins, step_triple, step, reversed, steps, cleaned, batch_pair}
use Rattle.values.specs.Values.{valued}
use Rattle.entries.specs.declared.Carry.{Carry}
use Rattle.entries.specs.Carries.{Entry, entry_algebra}
use Rattle.making.specs.Making.{table_of_all}
use Rattle.leaves.specs.declared.Atom.{Atom as Leaf}
use Rattle.leaves.specs.declared.Tables.{Tables}
use Rattle.leaves.specs.declared.Tables.TheVariants.{Plain, Pairs}
use Rattle.leaves.specs.Leaves.{algebra_of, table_algebra, atom_at, leaf_entries}
use Rattle.leaf_tables.proofs.Leaves.{atom-operation, rule-operation}
use Rattle.maps.proofs.Mapping.{by}
use Rattle.maps.proofs.Composing.{half, link-halves}
use Rattle.workspace.specs.Workspace.{pairs_of, Acted}
use Rattle.workspace.proofs.Faults.{no-fault}
use Rattle.operands.specs.Operands.{Loaded, Acts, united_table}
use Rattle.operations.specs.Operations.{Meets, pushed, mapped_table}

-- the same stack
pub acts-as : {carry : Carry} {d w p t n m : ℕ} {f g : List (List Entry) → List (List Entry)} {r : ℕ} {ws vals ws' vals' : List ℕ} → ((ts : List (List Entry)) → f ts ≡ g ts)
    → Acts carry d w p t n m f r ws vals ws' vals' → Acts carry d w p t n m g r ws vals ws' vals'
acts-as {carry} {d} {w} {p} {r = r} {ws = ws} {ws' = ws'} {vals' = vals'} e h = λ ts beyond l. subst (λ us. Acted carry d w p us beyond r ws ws' vals') (e ts) (h ts beyond l)

-- nothing done: the newest table is within the limits, since an area keeps it
pub pass-acts : {carry : Carry} {d w p t n m : ℕ} {ws vals : List ℕ} → 2 ≤ w → 1 ≤ t → Acts carry d w p t n m (λ ts. ts) n ws vals ws vals
pass-acts {carry} {d} {w} {p} {t} {n} {m} {ws} {vals} wide one = passed
  where
    passed : (ts : List (List Entry)) (beyond : List ℕ) → Loaded carry d w p t n m ts beyond ws vals → Acted carry d w p ts beyond n ws ws vals
    passed [] beyond l = absurd (omega (arith, l.tables))
    passed (x ∷ us) beyond l =
        let e : length (pairs_of x) ≡ n = length-map x (λ (y : Entry). y.item) ∙ l.newer in
        let few : n ≤ p = omega (arith, e, l.holds.sound.0.few) in
        record { most = omega arith; fault = no-fault w p n wide (pairs_of x) l.holds.sound.0 e; count = λ h. l.newer; holds = λ h. l.holds; same = λ h. absurd (omega arith) }

module _ (kind : Tables) (carry : Carry) (o : Assumptions) (a : ℕ) where
  abbrev act-on : Command → List (List Entry) → List (List Entry)
  act-on c ts = act (tables (table_algebra kind carry) o) a c ts

  pub atom-acts : {x : Leaf} → x ≡ atom_at carry o a → (g : NewAtom) {c : Command} → c ≡ Atom g → (ts : List (List Entry)) → pushed (table_of_all carry (leaf_entries kind x g)) ts ≡ act-on c ts
  unfolding act
  atom-acts h g e ts = rw (e, h) (ap {B = List (List Entry)} (λ t. t ∷ ts) (atom-operation kind carry o a g))

  pub rule-acts : (g : ℕ) {c : Command} → c ≡ Rule g → (ts : List (List Entry)) → pushed (table_of_all carry ((table_algebra kind carry).unmet g ∷ [])) ts ≡ act-on c ts
  unfolding act
  rule-acts g e ts = rw e (ap {B = List (List Entry)} (λ t. t ∷ ts) (rule-operation kind carry o g))

union-is : (kind : Tables) (carry : Carry) (o : Assumptions) (x y : List Entry) → united_table carry x y ≡ (tables (table_algebra kind carry) o).union_op x y
unfolding tables table_of_all entry_algebra table_algebra algebra_of valued pairs flat
union-is Plain carry o x y = refl
union-is Pairs carry o x y = refl

relabel-is : (kind : Tables) (carry : Carry) (o : Assumptions) (i j : ℕ) (x : List Entry) → mapped_table carry (Relabel i j) x ≡ (tables (table_algebra kind carry) o).relabel_op i j x
unfolding tables table_of_all entry_algebra table_algebra algebra_of valued pairs flat batch_pair cleaned steps reversed step step_triple map_pair
relabel-is Plain carry o i j x = refl
relabel-is Pairs carry o i j x = refl

half_is : (kind : Tables) (carry : Carry) (o : Assumptions) (k : Kind) (i j : ℕ) (x : List Entry) → table_of_all carry (map (by (half k i j)) x) ≡ (tables (table_algebra kind carry) o).connect_op k i j x
unfolding tables table_of_all entry_algebra table_algebra algebra_of valued pairs flat cleaned step step_triple map_pair
half_is Plain carry o k i j x = refl
half_is Pairs carry o k i j x = refl

link-is : (kind : Tables) (carry : Carry) (o : Assumptions) (k : Kind) (i j : ℕ) (x : List Entry) → mapped_table carry (Connect k i j) x ≡ link (tables (table_algebra kind carry) o) k i j x
link-is kind carry o k i j x =
    sym (link-halves carry k i j x)
    ∙ half_is kind carry o k j i (table_of_all carry (map (by (half k i j)) x))
    ∙ ap ((tables (table_algebra kind carry) o).connect_op k j i) (half_is kind carry o k i j x)

module _ {Y : Type 0} where
  unite-by : {f g : Y → Y → Y} → ((x y : Y) → f x y ≡ g x y) → (ys : List Y) → unite_newest f ys ≡ unite_newest g ys
  unfolding unite_newest
  unite-by e [] = refl
  unite-by e (b ∷ []) = refl
  unite-by e (b ∷ a ∷ ys) = ap {B = List Y} (λ y. y ∷ ys) (e a b)

  change-by : {f g : Y → Y} → ((x : Y) → f x ≡ g x) → (ys : List Y) → change_newest f ys ≡ change_newest g ys
  unfolding change_newest
  change-by e [] = refl
  change-by e (y ∷ ys) = ap {B = List Y} (λ x. x ∷ ys) (e y)

module _ (kind : Tables) (carry : Carry) (o : Assumptions) (a : ℕ) where
  pub union-acts : {c : Command} → c ≡ Union → (ts : List (List Entry)) → unite_newest (united_table carry) ts ≡ act (tables (table_algebra kind carry) o) a c ts
  unfolding act
  union-acts e ts = rw e (unite-by (union-is kind carry o) ts)

  pub relabel-acts : (i j : ℕ) {c : Command} → c ≡ Relabel i j → (ts : List (List Entry)) → change_newest (mapped_table carry c) ts ≡ act (tables (table_algebra kind carry) o) a c ts
  unfolding act
  relabel-acts i j e ts = rw e (change-by (relabel-is kind carry o i j) ts)

  pub connect-acts : (k : Kind) (i j : ℕ) {c : Command} → c ≡ Connect k i j → (ts : List (List Entry)) → change_newest (mapped_table carry c) ts ≡ act (tables (table_algebra kind carry) o) a c ts
  unfolding act
  connect-acts k i j e ts = rw e (change-by (link-is kind carry o k i j) ts)

  pub name-acts : (at : ℕ) {c : Command} → c ≡ Name at → (ts : List (List Entry)) → ts ≡ act (tables (table_algebra kind carry) o) a c ts
  unfolding act
  name-acts at e ts = rw e

-- ---- what each command meets

module _ {c : Command} (d t : ℕ) where
  pub atom-meets : {a : NewAtom} → c ≡ Atom a → Suits label_count c → Meets c d t → (a.label < label_count) × (t + 1 < d)
  unfolding Suits effect
  atom-meets e s m = let s' = rw e at s in let m' = rw e at m in (s', m'.1)

  pub rule-meets : {g : ℕ} → c ≡ Rule g → Suits label_count c → Meets c d t → (g < label_count) × (t + 1 < d)
  unfolding Suits effect
  rule-meets e s m = let s' = rw e at s in let m' = rw e at m in (s', m'.1)

  pub union-meets : c ≡ Union → Meets c d t → 2 ≤ t
  unfolding effect
  union-meets e m = let m' = rw e at m in m'.0

  pub relabel-meets : {i j : ℕ} → c ≡ Relabel i j → Meets c d t → 1 ≤ t
  unfolding effect
  relabel-meets e m = let m' = rw e at m in m'.0

  pub connect-meets : {k : Kind} {i j : ℕ} → c ≡ Connect k i j → Meets c d t → 1 ≤ t
  unfolding effect
  connect-meets e m = let m' = rw e at m in m'.0

  pub name_meets : {at : ℕ} → c ≡ Name at → Meets c d t → 1 ≤ t
  unfolding effect
  name_meets e m = let m' = rw e at m in m'.0

-- a relabel and a connect may be in a batch
module _ {c : Command} where
  pub relabel-joins : {i j : ℕ} → c ≡ Relabel i j → Joins c
  unfolding effect
  relabel-joins e = rw e tt

  pub connect-joins : {k : Kind} {i j : ℕ} → c ≡ Connect k i j → Joins c
  unfolding effect
  connect-joins e = rw e tt
