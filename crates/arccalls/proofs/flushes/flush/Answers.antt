-- A flush of at most m, where the numbers are such that m can be asked. Assumes nothing.
use mathlib.Core.Path.{◌∙◌}
use Rattle.refusals.specs.Given.{counters_of}
use Rattle.arcrefusals.specs.Given.{arc_lent}
use Rattle.arccalls.specs.BaseLaws.{called-full}
use Rattle.arccalls.proofs.flushes.flush.Goals as goal

pub returns : goal.returns
returns c =
    let a = c.args in
    c.flush_some.ensures
    ∙ called-full a.a (arc_lent a.a a.disk.now a.flash.now a.addresses.now a.blocks.now a.lists.now (counters_of a.c))
    c.rows_of.result c.rows_of.ensures
