-- The byte is that of the row. Assumes nothing.
use native.Mathlib.Omega.{arith}
use Rattle.tables.specs.RowLaws.{get_d-row_at}
use Rattle.tables.specs.Records.{read_address}
use Rattle.tables.proofs.row.is_dirty.Goals as goal

pub returns : goal.returns
unfolding read_address
returns c =
    let a = c.args in
    rw (get_d-row_at a.t.now a.k 36 (omega arith))
