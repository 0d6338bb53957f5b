-- Several commands on a pair at once: relabels, links and unions with a rule, over K labels; and a rule with its connects as one word. Assumes nothing.
use Rattle.std.specs.Prelude.{Bool, cond, not, ◌||◌, List, [], ◌∷◌, map, ℕ, ◌+◌, ◌-◌, ◌*◌, ◌/◌, ◌%◌, ◌^◌, ◌<◌, min, eqb, ltb}
use Rattle.std.specs.Int.Bits.{bit_and, bit_or}
use Rattle.lists.specs.Sorted.{set_of}
use Rattle.labels.specs.Labels.{label_count}
use Rattle.labels.specs.Sets.{without}
use Rattle.expression.specs.declared.Kind.TheVariants.{Head, Positive, Negative}
use Rattle.expression.specs.declared.Command.{Command}
use Rattle.expression.specs.declared.Command.TheVariants.{Atom, Rule, Union, Relabel, Connect, Name}
use Rattle.expression.specs.declared.Leaf.TheVariants as leaf
use Rattle.expression.specs.declared.Effect.{Effect}
use Rattle.expression.specs.declared.Effect.TheVariants.{Push, Unite, Change, Pass}
use Rattle.expression.specs.Effects.{effect}
use Rattle.tables.specs.Triples.{mark_u, relabel_triple, connect_triple}
use Rattle.tables.specs.Definitions.{Pair, own_triple, subsets}
use Rattle.batches.specs.declared.Judge.{Judge}

-- how many words a batch has at most
abbrev pub batch_limit : ℕ
batch_limit = 64

-- the commands of a batch: those that change the newest table, and a rule, which stands for the union with it
abbrev pub JoinsBy : Effect → Type 0
JoinsBy (Push leaf.Atom) = ⊥
JoinsBy (Push leaf.Rule) = Unit {0}
JoinsBy Unite = ⊥
JoinsBy Change = Unit {0}
JoinsBy Pass = ⊥

abbrev pub Joins : Command → Type 0
Joins c = JoinsBy (effect c)

-- a word has digits in base 2 ^ K: to take one out is no division. The label in the lowest of them; a number that is no label stands for the last one
unfoldable pub label_in : ℕ → ℕ → ℕ
label_in K x = min (x % 2 ^ K) (K - 1)

-- the command that a word stands for: its form and two labels
unfoldable pub formed : ℕ → ℕ → ℕ → Command
formed f i j =
    cond (eqb f 0) (Rule j)
    (cond (eqb f 1) (Relabel i j)
    (cond (eqb f 2) (Connect Head i j)
    (cond (eqb f 3) (Connect Positive i j)
    (Connect Negative i j))))

unfoldable pub command_of : ℕ → ℕ → Command
command_of K w = formed (w / 2 ^ K / 2 ^ K) (label_in K (w / 2 ^ K)) (label_in K w)

abbrev pub commands_of : List ℕ → List Command
commands_of ops = map (command_of label_count) ops

-- a rule judged at once is met: q has one of the labels of its negative atoms in T, or r has one of its marks
unfoldable pub is_met : Judge → ℕ → ℕ → Bool
is_met j q r = not (eqb (bit_and q j.negative) 0) || not (eqb (bit_and r j.marks) 0)

module _ (K : ℕ) where
  -- what a command makes of a triple r, where q is the interpretation's own; of a link the first half, by which atoms of label i are put into rules of label j
  unfoldable pub step_triple : Command → ℕ → ℕ → ℕ
  step_triple (Rule g) q r = bit_or r (mark_u K g)
  step_triple (Relabel i j) q r = relabel_triple K i j r
  step_triple (Connect k i j) q r = connect_triple K k i j q r
  step_triple (Atom g) q r = r
  step_triple Union q r = r
  step_triple (Name at) q r = r

  -- and of an own triple with others behind it, in no order
  unfoldable pub step : Command → List ℕ → List ℕ
  step c x = step_triple c (own_triple x) (own_triple x) ∷ map (step_triple c (own_triple x)) (subsets x)

  -- 02, Item 11: the other half of a link, by which atoms of label j are put into rules of label i
  unfoldable pub reversed : Command → List ℕ → List ℕ
  reversed (Rule g) x = x
  reversed (Relabel i j) x = x
  reversed (Connect k i j) x = step (Connect k j i) x
  reversed (Atom g) x = x
  reversed Union x = x
  reversed (Name at) x = x

  unfoldable pub steps : List Command → List ℕ → List ℕ
  steps [] x = x
  steps (c ∷ cs) x = steps cs (reversed c (step c x))

  -- the pair of an own triple with others behind it
  unfoldable pub cleaned : List ℕ → Pair
  cleaned x = own_triple x ∷ set_of (subsets x)

  -- what commands make of a pair
  unfoldable pub batch_pair : List Command → Pair → Pair
  batch_pair cs x = cleaned (steps cs x)

  -- ---- a rule with its connects, and the relabel behind them, at once

  -- a rule's label g is out of U where the rule is met, else in U, and is relabelled h then
  unfoldable pub settled : ℕ → ℕ → Bool → ℕ → ℕ
  settled g h met r = relabel_triple K g h (cond met (without (2 * K + g) r) (bit_or r (mark_u K g)))

  -- what the rule makes of a triple; where it leaves what has its label, the label after is put into U at most
  unfoldable pub judge_triple : Judge → ℕ → ℕ → ℕ
  judge_triple j q r =
      cond (eqb j.leaves 0)
      (settled j.label j.after (is_met j q r) r)
      (cond (is_met j q r) r (bit_or r (mark_u K j.after)))

  -- its numbers are those of a word
  abbrev pub Fits : Judge → Type 0
  Fits j = (j.marks < 2 ^ (2 * K)) × (j.negative < 2 ^ K) × (j.label < K) × (j.after < K) × (j.leaves < 2)

  -- its word, from judges_from on: the marks, the labels of negative atoms, its label, the one after, and whether what has its label is left
  abbrev pub judges_from : ℕ
  judges_from = 2 ^ (5 * K)

  unfoldable pub judge_of : ℕ → Judge
  judge_of w = record {
    marks = w % 2 ^ (2 * K);
    negative = w / 2 ^ (2 * K) % 2 ^ K;
    label = label_in K (w / 2 ^ (3 * K));
    after = label_in K (w / 2 ^ (4 * K));
    leaves = w / 2 ^ (5 * K) / 2 % 2;
  }

  -- what a word makes of a triple: it is that of a rule judged at once, or stands for a command
  unfoldable pub word_triple : ℕ → ℕ → ℕ → ℕ
  word_triple w q r = cond (ltb w judges_from) (step_triple (command_of K w) q r) (judge_triple (judge_of w) q r)

  unfoldable pub word_step : ℕ → List ℕ → List ℕ
  word_step w x = word_triple w (own_triple x) (own_triple x) ∷ map (word_triple w (own_triple x)) (subsets x)

  unfoldable pub word_steps : List ℕ → List ℕ → List ℕ
  word_steps [] x = x
  word_steps (w ∷ ws) x = word_steps ws (word_step w x)

  -- what words make of a pair
  unfoldable pub words_pair : List ℕ → Pair → Pair
  words_pair ws x = cleaned (word_steps ws x)
