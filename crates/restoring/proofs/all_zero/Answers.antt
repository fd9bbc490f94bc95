-- What the search of the bytes says of each. Assumes nothing.
use Rattle.std.proofs.Common.{rules, tests, ◌∙◌}
use Rattle.std.proofs.lemmas.Iterator.{YieldsList-from_slice}
use Rattle.std.proofs.lemmas.Iterator.Search.{all_from_yields_List}
use Rattle.tables.specs.Sound.{is_zero}
use Rattle.restoring.specs.FoundLaws.{each-passes}
use Rattle.restoring.proofs.all_zero.Goals as goal

pub returns : goal.returns
returns c =
    all_from_yields_List is_zero _ _ c.all.result c.all.ensures.ran (YieldsList-from_slice c.args.t.now c.iter.ensures.rest) (λ x b q k. search (rules, tests))
    ∙ each-passes is_zero c.args.t.now
