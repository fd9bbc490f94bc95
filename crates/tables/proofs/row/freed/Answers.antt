-- The row with its first 32 and its last four bytes cleared: `cleared`. Assumes nothing.
use Prim.Native.Nat.{ℕ, ◌*◌}
use mathlib.Core.Path.{ap, ◌∙◌}
use mathlib.Core.List.{List}
use native.Mathlib.Omega.{arith}
use lib.Seq.{paste}
use Rattle.tables.specs.Rows.{zeros, row_at}
use Rattle.tables.specs.RowLaws.{length_part}
use Rattle.tables.specs.ShiftLaws.{cleared}
use Rattle.tables.proofs.row.freed.Goals as goal

pub returns : goal.returns
returns c =
    let a = c.args in
    c.clear-2.ensures
    ∙ ap (λ (x : List ℕ). paste x 36 (zeros 4) 4) (c.clear.ensures ∙ ap (λ (x : List ℕ). paste x 0 (zeros 32) 32) c.copy-row.ensures)
    ∙ cleared (row_at a.t.now a.k) (length_part a.t.now (a.k * 40) 40 (omega arith))
