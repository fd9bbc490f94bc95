-- The dirty byte of row k is written. Assumes nothing.
use mathlib.Core.Path.{refl}
use Rattle.tables.specs.Operations.{row_cleaned}
use Rattle.tables.proofs.row.set_clean.Goals as goal

pub returns : goal.returns
unfolding row_cleaned
returns c = refl
