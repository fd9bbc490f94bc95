-- One write of zeros. Assumes nothing.
use Rattle.tables.specs.Rows.{zeros}
use Rattle.area.proofs.clear_header.Goals as goal

pub returns : goal.returns
unfolding zeros
returns c = c.write.ensures
