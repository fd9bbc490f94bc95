-- The test is that of the definition. Assumes nothing.
use mathlib.Core.Path.{sym, ◌∙◌}
use Rattle.lines.specs.Lines.{of_one}
use Rattle.lines.proofs.parse.one.Goals as goal

pub returns-then-is : goal.returns-then-is
unfolding of_one
returns-then-is c = rw (sym c.is.ensures ∙ c.if-is.true)

pub returns : goal.returns
unfolding of_one
returns c = rw (sym c.is.ensures ∙ c.if-is.false)
