-- A part that is copied over is a splice. Assumes nothing.
use Rattle.block.specs.Laws.{put-mid}
use Rattle.block.proofs.put.Goals as goal

pub returns : goal.returns
returns c = put-mid _ _ _ _ c.copy_from_slice.ensures.after
