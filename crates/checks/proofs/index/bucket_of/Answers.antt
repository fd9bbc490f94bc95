-- The bucket of two bytes. Assumes nothing.
use Rattle.std.proofs.Common.{arith}
use Rattle.tables.specs.Index.{bucket}
use Rattle.checks.proofs.index.bucket_of.Goals as goal

pub returns : goal.returns
unfolding bucket
returns c = (omega (arith, c.from_le_bytes.ensures, c.from.ensures), omega (arith, c.from.ensures))
