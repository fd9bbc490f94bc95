-- The search of the mark at the front is a comparison. Assumes nothing.
use Rattle.std.proofs.Common.{◌∙◌}
use Rattle.std.specs.Prelude.{take}
use Rattle.image.specs.Area.{mark}
use Rattle.area.specs.ByteLaws.{same-turned}
use Rattle.area.proofs.has_mark.Goals as goal

pub returns : goal.returns
returns c = c.starts_with.ensures.value ∙ same-turned (take 3 c.args.area.now) mark
