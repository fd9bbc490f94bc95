-- Its words are all zero: `zero-print`. Assumes nothing.
use mathlib.Core.Path.{ap, ◌∙◌}
use Rattle.tables.specs.Find.{all}
use Rattle.tables.specs.Sound.{is_zero}
use Rattle.tables.proofs.Zeros.{zero-print}
use Rattle.tables.proofs.row.no_fingerprint.Goals as goal

pub returns : goal.returns
returns c =
    let p = c.block_fingerprint-g in
    rw (c.words_are.ensures, c.word8-z.ensures) (zero-print p.result.now p.ensures.1) ∙ ap (all is_zero) p.ensures.0
