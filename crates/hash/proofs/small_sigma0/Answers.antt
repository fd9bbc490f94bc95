-- `hash::small_sigma0` meets its contract: its rotations are those of `σ0`.
-- Assumes nothing.
use Rattle.hash.specs.Sha256.{σ0}
use Rattle.hash.proofs.small_sigma0.Goals as goal

pub returns : goal.returns
unfolding σ0
returns c = cc
