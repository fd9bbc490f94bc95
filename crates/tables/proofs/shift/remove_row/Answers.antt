-- The row that becomes the last is zero. Assumes nothing.
use Rattle.tables.specs.Rows.{zeros}
use Rattle.tables.specs.Operations.{row_out}
use Rattle.tables.proofs.shift.remove_row.Goals as goal

pub returns : goal.returns
unfolding row_out zeros
returns c = c.replace.ensures
