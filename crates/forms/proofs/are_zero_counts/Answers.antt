-- `forms::are_zero_counts`: std's test of every element. Assumes nothing.
use Rattle.std.proofs.Common.{rules, eqb}
use Rattle.std.proofs.lemmas.Iterator.{YieldsList-from_slice}
use Rattle.std.proofs.lemmas.Iterator.Search.{all_from_yields_List}
use borrow.Author.Tests.{tests}
use Rattle.lists.specs.Lists.{every}
use Rattle.forms.specs.Forms.{are_zero}
use Rattle.forms.proofs.are_zero_counts.Goals as goal

pub returns : goal.returns
unfolding are_zero every
returns c = all_from_yields_List (λ x. eqb x 0) _ _ _ c.all.ensures.ran (YieldsList-from_slice c.args.counts.now cc) (λ x b q k. search (rules, tests))
