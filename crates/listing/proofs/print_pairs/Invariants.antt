-- `print_pairs`: from where it stands on, as many pairs are written as are left to print. Assumes nothing.
use Rattle.std.proofs.Common.{◌-◌}
use Rattle.listing.specs.Listing.{PairsFrom}
use Rattle.listing.proofs.print_pairs.Given as goal

abbrev pub invariant-loop : goal.invariant-loop
invariant-loop g l = PairsFrom l.at (l.n - l.counter) l.words
