-- `answers::some_met`: std's test of every element.
use Rattle.std.proofs.Common.{rules}
use Rattle.std.proofs.lemmas.Iterator.{YieldsList-from_slice}
use Rattle.std.proofs.lemmas.Iterator.Search.{any_from_yields_List}
use borrow.Author.Tests.{tests}
use Rattle.lists.specs.Lists.{some}
use Rattle.labels.specs.Labels.{label_count}
use Rattle.tables.specs.Triples.{all_met}
use Rattle.answers.proofs.some_met.Goals as goal

pub returns : goal.returns
unfolding all_met some
returns c = any_from_yields_List (all_met label_count) _ _ _ c.any.ensures.ran (YieldsList-from_slice c.args.triples.now cc) (λ x b q k. search (rules, tests))
