-- The part is the word. Assumes nothing.
use mathlib.Core.Path.{◌∙◌}
use Rattle.lines.proofs.words.is.Goals as goal

pub returns : goal.returns
returns c =
    rw (c.start-from.ensures.1 ∙ c.end-to.ensures.2) c.equal.ensures
