-- All of a row of zeros is written over: `pasted-whole`. Assumes nothing.
use mathlib.Core.Path.{refl, ◌∙◌}
use Rattle.tables.specs.Rows.{zeros}
use Rattle.tables.specs.ShiftLaws.{pasted-whole}
use Rattle.tables.proofs.row.copy.Goals as goal

pub returns : goal.returns
unfolding zeros
returns c =
    let l = c.part.ensures.1 in
    c.write.ensures ∙ rw l (pasted-whole (zeros 40) c.part.result.now 40 refl l) ∙ c.part.ensures.0
