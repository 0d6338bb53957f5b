-- An expression with its names taken out (02, Item 1), over K labels. Assumes nothing.
use Rattle.std.specs.Prelude.{List, [], ◌∷◌, ◌++◌, ℕ, zero, suc, ◌-◌, length, take, drop}
use Rattle.expression.specs.declared.Command.{Command}
use Rattle.expression.specs.declared.Command.TheVariants.{Atom, Rule, Union, Relabel, Connect, Name}
use Rattle.expression.specs.declared.Outcome.{Outcome}
use Rattle.expression.specs.declared.Outcome.TheVariants.{Yes, No, Refused}
use Rattle.expression.specs.Commands.{Got, Fault, read_at}
use Rattle.expression.specs.Checks.{Request}
use Rattle.decisions.specs.Decisions.{Verdict, affirmed, denied, refused}

-- what a command adds to a list; a name nothing
unfoldable pub unless_name : {X : Type 0} → Command → List X → List X
unless_name (Name at) xs = []
unless_name (Atom g) xs = xs
unless_name (Rule g) xs = xs
unless_name Union xs = xs
unless_name (Relabel i j) xs = xs
unless_name (Connect k i j) xs = xs

-- the commands that are no names
unfoldable pub without_names : List Command → List Command
without_names [] = []
without_names (c ∷ cs) = unless_name c (c ∷ []) ++ without_names cs

-- the bytes from an offset on without those of names; k bounds the number of commands left. What is no command stays
unfoldable pub unnamed_from : ℕ → ℕ → List ℕ → ℕ → List ℕ
unnamed_from K zero s at = drop at s
unnamed_from K (suc k) s at =
    elim (read_at K s at) [ Fault f ↦ drop at s | Got c next ↦ unless_name c (take (next - at) (drop at s)) ++ unnamed_from K k s next ]

unfoldable pub unnamed : ℕ → List ℕ → List ℕ
unnamed K s = unnamed_from K (length s) s 0

-- the same request of the bytes without names
abbrev pub unnaming : ℕ → Request → Request
unnaming K a = record {
  bytes = unnamed K a.bytes;
  pair_limit = a.pair_limit;
  subset_limit = a.subset_limit;
  room = a.room;
  assumed_true = a.assumed_true;
  assumed_false = a.assumed_false;
}

-- places apart: bytes that are taken out move what stands behind them
unfoldable pub placeless : Verdict → Verdict
placeless affirmed = affirmed
placeless denied = denied
placeless (refused n at) = refused n 0

unfoldable pub placeless_outcome : Outcome → Outcome
placeless_outcome (Yes m) = Yes m
placeless_outcome No = No
placeless_outcome (Refused n at) = Refused n 0
