-- The copy gives the label. Assumes nothing.
use Rattle.std.proofs.Common.{rules}
use Rattle.open.proofs.with_label.Goals as goal

pub returns : goal.returns
returns c = rw c.copy_from_slice.ensures.after
