-- `hash::put_length` meets its contract.
-- Assumes nothing.
use Rattle.std.proofs.Common.{arith}
use Rattle.hash.specs.Sha256.{bytes64}
use Rattle.hash.proofs.Laws.{written}
use Rattle.hash.proofs.put_length.Goals as goal

pub returns : goal.returns
unfolding bytes64
returns c = rw (c.copy_from_slice.ensures.after, c.to_be_bytes.ensures) (written c.args.last (bytes64 c.args.bits) c.args.at _ (omega arith) (omega arith))
