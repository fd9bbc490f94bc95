-- The range is that of the definition. Assumes nothing.
use mathlib.Core.Path.{ap}
use mathlib.Core.Bool.{not}
use Rattle.std.proofs.Common.{rules}
use Rattle.refusals.proofs.limit_unfit.Goals as goal

pub returns : goal.returns
returns c = ap not c.within.ensures
