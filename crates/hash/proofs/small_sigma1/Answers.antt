-- `hash::small_sigma1` meets its contract: its rotations are those of `σ1`.
-- Assumes nothing.
use Rattle.std.proofs.Common.{refl}
use Rattle.hash.specs.Sha256.{σ1}
use Rattle.hash.proofs.small_sigma1.Goals as goal

pub returns : goal.returns
unfolding σ1
returns c = rw (c.rotate_right-2.ensures, c.rotate_right.ensures) refl
