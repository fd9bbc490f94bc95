-- No number, or the tests of the first word in turn. Assumes nothing.
use mathlib.Core.Path.{sym, ◌∙◌}
use Rattle.lines.specs.Lines.{of_two}
use Rattle.lines.proofs.parse.two.Goals as goal

pub returns-in_err-a : goal.returns-in_err-a
unfolding of_two
returns-in_err-a c = rw (sym c.in_err-a.ensures.value) c.from_residual.ensures

pub returns-then-is : goal.returns-then-is
unfolding of_two
returns-then-is c = rw (sym c.in_ok-a.ensures.value, sym c.is.ensures ∙ c.if-is.true)

pub returns-then-is-2 : goal.returns-then-is-2
unfolding of_two
returns-then-is-2 c = rw (sym c.in_ok-a.ensures.value, sym c.is.ensures ∙ c.if-is.false, sym c.is-2.ensures ∙ c.if-is-2.true)

pub returns : goal.returns
unfolding of_two
returns c = rw (sym c.in_ok-a.ensures.value, sym c.is.ensures ∙ c.if-is.false, sym c.is-2.ensures ∙ c.if-is-2.false)
