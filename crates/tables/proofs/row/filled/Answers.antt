-- The row with its first 32 and its last four bytes written over: `fill-made`. Assumes nothing.
use Rattle.tables.specs.ShiftLaws.{fill-made}
use Rattle.tables.specs.RowLaws.{length_part}
use Rattle.tables.specs.Rows.{zeros, row_at}
use Prim.Native.Nat.{ℕ, ◌*◌}
use mathlib.Core.Path.{ap, ◌∙◌}
use mathlib.Core.List.{List}
use native.Mathlib.Omega.{arith}
use lib.ListN.{length, set}
use lib.Seq.{paste}
use Rattle.tables.proofs.row.filled.Goals as goal

pub returns : goal.returns
returns c =
    let a = c.args in
    let g = a.g.now in
    ap (λ (x : List ℕ). set x 36 1)
    (c.clear.ensures
    ∙ ap (λ (x : List ℕ). paste x 36 (zeros 4) 4) (c.write.ensures ∙ ap (λ (x : List ℕ). paste x 0 g (length g)) c.copy-row.ensures))
    ∙ fill-made (row_at a.t.now a.k) g (length_part a.t.now (a.k * 40) 40 (omega arith)) (omega arith)
