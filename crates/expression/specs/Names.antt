-- The last name that a copy got (02, Item 1), over K labels. Assumes nothing.
use Rattle.std.specs.Prelude.{◌≡◌, Bool, false, cond, List, [], ◌∷◌, ◌++◌, map, ℕ, ◌+◌, eqb, take, drop}
use Rattle.lists.specs.Lists.{All}
use Rattle.expression.specs.declared.NewAtom.{NewAtom}
use Rattle.expression.specs.declared.Command.{Command}
use Rattle.expression.specs.declared.Command.TheVariants.{Atom, Rule, Union, Relabel, Connect, Name}
use Rattle.expression.specs.declared.Leaf.{Leaf}
use Rattle.expression.specs.declared.Leaf.TheVariants as leaf
use Rattle.expression.specs.declared.Effect.{Effect}
use Rattle.expression.specs.declared.Effect.TheVariants.{Push, Unite, Change, Pass}
use Rattle.expression.specs.Checks as checked
use Rattle.expression.specs.declared.Outcome.{Outcome}
use Rattle.expression.specs.declared.Outcome.TheVariants as outcome
use Rattle.expression.specs.Limits.{name_length}
use Rattle.expression.specs.Effects.{effect}
use Rattle.expression.specs.Reading.{new_atoms, Reading, faulty, whole, reading}
use Rattle.expression.specs.Checks.{Checked, check_sheet}

-- what an atom is called: its name's first byte is at an offset, it has no name, or a refusal with its number and place
pub data Naming : Type 0 where
  Named : ℕ → Naming
  Nameless : Naming
  Refused : ℕ → ℕ → Naming

-- whether a leaf is atom c, where n atoms came before it
abbrev pub is_atom : ℕ → ℕ → Leaf → Bool
is_atom c n leaf.Atom = eqb n c
is_atom c n leaf.Rule = false

-- whether the newest leaf is atom c after an effect; b says whether it was before
abbrev pub newest_by : ℕ → ℕ → Bool → Effect → Bool
newest_by c n b (Push l) = is_atom c n l
newest_by c n b Unite = b
newest_by c n b Change = b
newest_by c n b Pass = b

-- what atom c is called after a command: a name replaces what it was called if it is the newest leaf
unfoldable pub called_by : Bool → Naming → Command → Naming
called_by b r (Name at) = cond b (Named at) r
called_by b r (Atom g) = r
called_by b r (Rule g) = r
called_by b r Union = r
called_by b r (Relabel i j) = r
called_by b r (Connect k i j) = r

-- after all commands, where n atoms came before them
unfoldable pub called_from : ℕ → ℕ → Bool → Naming → List Command → Naming
called_from c n b r [] = r
called_from c n b r (d ∷ ds) = called_from c (n + new_atoms d) (newest_by c n b (effect d)) (called_by b r d) ds

unfoldable pub called : ℕ → List Command → Naming
called c cs = called_from c 0 false Nameless cs

-- in a whole reading; a faulty one names nothing
unfoldable pub called_in : ℕ → Reading → Naming
called_in c (faulty n at) = Nameless
called_in c (whole cs z) = called c (map (λ p. p.command) cs)

-- what is asked after the checks
abbrev pub unless_refused : Checked → Naming → Naming
unless_refused (checked.Passed z) r = r
unless_refused (checked.Refused n at) r = Refused n at

-- 1, then 5 to 12, then the name
unfoldable pub name_of : ℕ → List ℕ → ℕ → Naming
name_of K s c = unless_refused (check_sheet K s) (called_in c (reading K s))

-- its bytes, a part of the expression's own; none where there is no name
abbrev pub bytes_named : List ℕ → Naming → List ℕ
bytes_named s (Named at) = take name_length (drop at s)
bytes_named s Nameless = []
bytes_named s (Refused n at) = []

-- the three words of a host: 1 and where the name begins, 0, or the refusal
abbrev pub naming_outcome : Naming → Outcome
naming_outcome (Named at) = outcome.Yes at
naming_outcome Nameless = outcome.No
naming_outcome (Refused n at) = outcome.Refused n at

-- ---- the same in the words of the list of commands

-- how many atoms commands bring
unfoldable pub atoms_in : List Command → ℕ
atoms_in [] = 0
atoms_in (d ∷ ds) = new_atoms d + atoms_in ds

abbrev pub NoLeafBy : Effect → Type 0
NoLeafBy (Push l) = ⊥
NoLeafBy Unite = Unit {0}
NoLeafBy Change = Unit {0}
NoLeafBy Pass = Unit {0}

-- of these commands the last that brings a leaf brings atom c
pub record Newest (c : ℕ) (cs : List Command) : Type 0 where
  pub atom : NewAtom
  pub earlier : List Command
  pub later : List Command
  pub parts : cs ≡ earlier ++ (Atom atom ∷ later)
  pub number : atoms_in earlier ≡ c
  pub no_leaf : All (λ d. NoLeafBy (effect d)) later

-- a name that begins at `at` is given to atom c, with these commands before it and these behind it
pub record NameGot (c at : ℕ) (cs earlier later : List Command) : Type 0 where
  pub parts : cs ≡ earlier ++ (Name at ∷ later)
  pub newest : Newest c earlier

-- the last one
pub record LastName (c at : ℕ) (cs : List Command) : Type 0 where
  pub earlier : List Command
  pub later : List Command
  pub got : NameGot c at cs earlier later
  pub last : (at' : ℕ) (mid rest : List Command) → later ≡ mid ++ (Name at' ∷ rest) → Newest c (earlier ++ (Name at ∷ mid)) → ⊥
