-- `hash::big_sigma0` meets its contract: rotations by 9, 11 and 2, each of the one before, make those of `Σ0`.
-- Assumes nothing.
use Rattle.std.proofs.Common.{arith}
use Rattle.hash.proofs.Bits.{sigma0-short}
use Rattle.hash.proofs.big_sigma0.Goals as goal

pub returns : goal.returns
returns c =
    rw (c.rotate_right-3.ensures, c.rotate_right-2.ensures, c.rotate_right.ensures) (sigma0-short c.args.x (omega arith))
