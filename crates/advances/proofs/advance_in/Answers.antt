-- `advances::advance_in`: the front of the row is lent, and no word of values.
use Rattle.advances.proofs.Bare.{stands-any, advanced-any}
use Rattle.advances.proofs.advance_in.Goals as goal

pub advance-requires-clause-some_stand : goal.advance-requires-clause-some_stand
advance-requires-clause-some_stand c =
    (c.requires.suits.3.0, c.requires.suits.3.1, stands-any _ _ c.requires.suits.3.2, c.requires.suits.3.3)

pub returns : goal.returns
returns c =
    λ o a x ts beyond h e. advanced-any _ _ (c.advance.ensures o a x ts beyond (stands-any _ _ h) e)
