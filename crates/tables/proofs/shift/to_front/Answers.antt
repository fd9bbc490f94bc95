-- The row is kept aside, freed, the earlier ones move up, and it is written first: `fronted`. Assumes nothing.
use Prim.Native.Nat.{ℕ, ◌*◌}
use mathlib.Core.Path.{◌≡◌, ap, ◌∙◌}
use mathlib.Core.List.{List}
use native.Mathlib.Omega.{arith}
use lib.ListN.{length}
use lib.Seq.{paste}
use Rattle.tables.specs.Rows.{row_at}
use Rattle.tables.specs.RowLaws.{length_part}
use Rattle.tables.specs.ShiftLaws.{fronted, length-freed}
use Rattle.tables.specs.Operations.{freed_row}
use Rattle.tables.proofs.shift.to_front.Goals as goal

pub returns : goal.returns
returns c =
    let a = c.before.before.before.before.before.before.before.before.before.before.args in
    let t = a.t.now in
    let l : length (row_at t a.i) ≡ 40 = length_part t (a.i * 40) 40 (omega arith) in
    c.write.ensures
    ∙ rw (c.freed-freed.ensures, length-freed (row_at t a.i) l)
    (ap (λ (s : List ℕ). paste s 0 (freed_row (row_at t a.i)) 40) c.move_up.ensures ∙ fronted t a.d a.i (omega arith) (omega arith))
