-- `hash::big_sigma1` meets its contract: its rotations are those of `Σ1`.
-- Assumes nothing.
use Rattle.hash.specs.Sha256.{Σ1}
use Rattle.hash.proofs.big_sigma1.Goals as goal

pub returns : goal.returns
unfolding Σ1
returns c = cc
