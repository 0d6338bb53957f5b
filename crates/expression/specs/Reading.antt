-- A whole expression read (01, Outcomes: 5 to 11 at the first faulty command), over K labels. Assumes nothing.
use Rattle.std.specs.Prelude.{true, false, cond, List, [], ◌∷◌, ℕ, zero, suc, ◌+◌, min, max, ltb, leb, length}
use Rattle.expression.specs.declared.Command.{Command}
use Rattle.expression.specs.declared.Leaf.{Leaf}
use Rattle.expression.specs.declared.Leaf.TheVariants as leaf
use Rattle.expression.specs.declared.Effect.{Effect}
use Rattle.expression.specs.declared.Effect.TheVariants.{Push, Unite, Change, Pass}
use Rattle.expression.specs.declared.Counts.{Counts}
use Rattle.expression.specs.Limits.{atom_limit, rule_limit, depth_limit, count_limit}
use Rattle.expression.specs.Refusals.{crowded, deep, bare}
use Rattle.expression.specs.Commands.{Got, Fault, read_at}
use Rattle.expression.specs.Effects.{effect, operands_by, depth_by, atoms_by, rules_by}

-- the counts before the first command
unfoldable pub no_counts : Counts
no_counts = record { atoms = 0; rules = 0; depth = 0; deepest = 0 }

abbrev pub new_atoms : Command → ℕ
new_atoms c = atoms_by (effect c)

-- how many operands the stack has after a command on n of them
abbrev pub depth_after : ℕ → Command → ℕ
depth_after n c = depth_by (effect c) n

abbrev pub counted_by : Counts → Effect → Counts
counted_by n e = record {
  atoms = n.atoms + atoms_by e;
  rules = n.rules + rules_by e;
  depth = depth_by e n.depth;
  deepest = max n.deepest (depth_by e n.depth);
}

unfoldable pub counted : Counts → Command → Counts
counted n c = counted_by n (effect c)

-- counts as words of 64 bits hold them: an expression that is too long for memory would have more
unfoldable pub capped : Counts → Counts
capped n = record {
  atoms = min n.atoms count_limit;
  rules = min n.rules count_limit;
  depth = min n.depth count_limit;
  deepest = min n.deepest count_limit;
}

-- a leaf: 9, then 10
abbrev pub leaf_fault : Counts → Leaf → ℕ
leaf_fault n leaf.Atom = cond (leb atom_limit n.atoms) crowded (cond (leb depth_limit n.depth) deep 0)
leaf_fault n leaf.Rule = cond (leb rule_limit n.rules) crowded (cond (leb depth_limit n.depth) deep 0)

-- tests 9 to 11 of an effect after such counts, in order; 0 where it passes
abbrev pub fault_by : Counts → Effect → ℕ
fault_by n (Push l) = leaf_fault n l
fault_by n Unite = cond (ltb n.depth (operands_by Unite)) bare 0
fault_by n Change = cond (ltb n.depth (operands_by Change)) bare 0
fault_by n Pass = cond (ltb n.depth (operands_by Pass)) bare 0

unfoldable pub count_fault : Counts → Command → ℕ
count_fault n c = fault_by n (effect c)

-- a command with its place
pub record Placed : Type 0 where
  pub place : ℕ
  pub command : Command

-- the first faulty command's refusal and place, or all commands and what they leave
pub data Reading : Type 0 where
  faulty : ℕ → ℕ → Reading
  whole : List Placed → Counts → Reading

unfoldable pub behind : Placed → Reading → Reading
behind p (faulty n at) = faulty n at
behind p (whole cs z) = whole (p ∷ cs) z

-- from an offset on; k bounds the number of commands left
unfoldable pub read_from : ℕ → ℕ → List ℕ → ℕ → Counts → Reading
read_from K zero s at n = whole [] n
read_from K (suc k) s at n =
    elim (ltb at (length s)) [
      | false ↦ whole [] n
      | true ↦
          elim (read_at K s at) [
            | Fault f ↦ faulty f at
            | Got c next ↦
                elim (count_fault n c) [
                  | zero ↦ behind (record { place = at; command = c }) (read_from K k s next (counted n c))
                  | suc f ↦ faulty (suc f) at
                ]
          ]
    ]

unfoldable pub reading : ℕ → List ℕ → Reading
reading K s = read_from K (length s) s 0 no_counts
