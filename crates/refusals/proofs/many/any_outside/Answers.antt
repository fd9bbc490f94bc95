-- What the chain finds is the first address outside. Assumes nothing.
use Rattle.std.proofs.Common.{rules, ◌∙◌, leb}
use borrow.Author.Tests.{tests}
use Rattle.std.proofs.lemmas.Iterator.{YieldsList-from_slice}
use Rattle.std.proofs.lemmas.Iterator.Search.{any_from_yields_List}
use Rattle.refusals.proofs.Listing.{any-outside}
use Rattle.refusals.proofs.many.any_outside.Goals as goal

pub returns : goal.returns
returns c =
    let a = c.args in
    any_from_yields_List (leb a.p) _ _ c.any.result c.any.ensures.ran (YieldsList-from_slice a.asked.now cc) (λ x b q k. search (rules, tests))
    ∙ any-outside a.p a.asked.now
