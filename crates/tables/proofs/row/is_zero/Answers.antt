-- Its words are all zero: `zero_row_lem`. Assumes nothing.
use mathlib.Core.Path.{ap, ◌∙◌}
use Rattle.tables.specs.Find.{all}
use Rattle.tables.specs.Sound.{is_zero}
use Rattle.tables.proofs.Zeros.{zero_row_lem}
use Rattle.tables.proofs.row.is_zero.Goals as goal

pub returns : goal.returns
returns c =
    let p = c.part-s in
    rw (c.words_are.ensures, c.word8-z.ensures) (zero_row_lem p.result.now p.ensures.1) ∙ ap (all is_zero) p.ensures.0
