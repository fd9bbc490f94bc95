-- A part that is written over is a `paste`. Assumes nothing.
use Rattle.std.proofs.Common.{rules}
use Rattle.std.proofs.lemmas.Slice.{overwrites}
use Rattle.tables.specs.Rows.{zeros}
use Rattle.tables.proofs.moves.clear.Goals as goal

pub returns : goal.returns
unfolding zeros
returns c = search (rules, overwrites)
