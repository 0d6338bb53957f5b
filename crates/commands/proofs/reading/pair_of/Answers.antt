-- `reading::pair_of`: each arm's byte picks the command. Assumes nothing.
use borrow.Author.Tests.{ne_eqb}
use Rattle.expression.specs.Commands.{command_of}
use Rattle.expression.proofs.Commands.{pair-byte}
use Rattle.commands.proofs.reading.pair_of.Goals as goal

pub returns-in-49 : goal.returns-in-49
unfolding command_of
returns-in-49 c = rw c.in-49.is

pub returns-in-65 : goal.returns-in-65
unfolding command_of
returns-in-65 c = rw c.in-65.is

pub returns-in-66 : goal.returns-in-66
unfolding command_of
returns-in-66 c = rw c.in-66.is

pub returns-in_default : goal.returns-in_default
unfolding command_of
returns-in_default c =
    let none = c.in_default.in_default-own.rest in
    let other = pair-byte _ c.requires in
    simp (other.0, other.1, other.2, other.3, ne_eqb _ _ none.0.0.1, ne_eqb _ _ none.0.1, ne_eqb _ _ none.1)
