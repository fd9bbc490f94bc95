-- The row is written over row n: `pushed`. Assumes nothing.
use Rattle.tables.specs.ShiftLaws.{pushed}
use mathlib.Core.Path.{◌∙◌}
use native.Mathlib.Omega.{arith}
use Rattle.tables.proofs.shift.push_row.Goals as goal

pub returns : goal.returns
returns c =
    let a = c.args in
    c.write.ensures ∙ pushed a.t.now a.row.now a.n (omega arith)
