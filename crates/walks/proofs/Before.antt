-- The commands that start before an offset, one by one. Assumes nothing.
use mathlib.Core.Path.{◌≡◌, refl}
use mathlib.Core.List.{List, [], ◌∷◌}
use Prim.Native.Nat.{ℕ, ◌≤◌, ◌<◌}
use borrow.Author.Tests.{lt-ltb, le-ltb}
use Rattle.expression.specs.declared.Command.{Command}
use Rattle.expression.specs.Reading.{Placed}
use Rattle.walks.specs.Walks.{before}

pub before_more : (stop at : ℕ) (c : Command) (cs : List Placed) → at < stop → before stop (record { place = at; command = c } ∷ cs) ≡ record { place = at; command = c } ∷ before stop cs
unfolding before
before_more stop at c cs l = rw (lt-ltb at stop l)

pub before-none : (stop at : ℕ) (c : Command) (cs : List Placed) → stop ≤ at → before stop (record { place = at; command = c } ∷ cs) ≡ []
unfolding before
before-none stop at c cs l = rw (le-ltb at stop l)

pub before-nil : (stop : ℕ) → before stop [] ≡ []
unfolding before
before-nil stop = refl
