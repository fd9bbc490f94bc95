-- Zeros where no row is held. Assumes nothing.
use Rattle.std.proofs.Common.{refl, le-ltb}
use Rattle.tables.specs.Rows.{zeros}
use Rattle.reports.proofs.row_bytes.Goals as goal

pub returns-then-n-k-clause-value : goal.returns-then-n-k-clause-value
unfolding zeros
returns-then-n-k-clause-value c = rw (le-ltb _ _ c.if-n-k.true) refl
