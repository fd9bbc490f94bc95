-- The part of the slice is the block. Assumes nothing.
use Rattle.std.proofs.Common.{ap, ◌∙◌}
use Rattle.std.proofs.Math.ListN.{length}
use Rattle.block.specs.Laws.{part-is, length_part}
use Rattle.block.proofs.part.Goals as goal

pub returns : goal.returns
returns c =
    let e = part-is _ _ _ in
    (e, ap length e ∙ length_part _ _ _ c.requires)
