-- `hash::ch` meets its contract: three operations have the value of `Ch`.
-- Assumes nothing.
use Rattle.std.proofs.Common.{arith}
use Rattle.hash.specs.Sha256.{Ch}
use Rattle.hash.proofs.Bits.{ch-short}
use Rattle.hash.proofs.ch.Goals as goal

pub returns : goal.returns
unfolding Ch
returns c = ch-short 32 c.args.x c.args.y c.args.z (omega arith) (omega arith) (omega arith)
