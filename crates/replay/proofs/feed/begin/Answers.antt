-- The record is that of no box; the rest is as written. Assumes nothing.
use mathlib.Core.Path.{refl}
use Rattle.replay.proofs.feed.begin.Goals as goal

pub returns : goal.returns
returns c = rw c.empty_box-b.ensures refl
