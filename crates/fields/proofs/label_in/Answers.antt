-- The part copied is the label. Assumes nothing.
use mathlib.Core.Path.{◌∙◌}
use Rattle.block.specs.Laws.{part-is}
use Rattle.fields.proofs.label_in.Goals as goal

pub returns : goal.returns
returns c =
    let a = c.args in
    c.copy_from_slice.ensures.after ∙ part-is 72 64 a.state.now
