-- The sum that is not too large for the type, to at most C. Assumes nothing.
use Rattle.arclists.specs.AdaptLaws.{sum-smaller}
use Rattle.arclists.proofs.adapt.raised.Goals as goal

pub returns : goal.returns
returns c = sum-smaller _ _ _ _ c.ranges.top.fits c.saturating_add.ensures c.min.ensures
