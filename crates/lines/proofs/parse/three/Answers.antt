-- No number, no byte, or the tests of the first word in turn. Assumes nothing.
use mathlib.Core.Path.{sym, ◌∙◌}
use Rattle.lines.specs.Lines.{of_three}
use Rattle.lines.proofs.parse.three.Goals as goal

pub returns-in_err-a : goal.returns-in_err-a
unfolding of_three
returns-in_err-a c = rw (sym c.in_err-a.ensures.value) c.from_residual.ensures

pub returns-in_err-x : goal.returns-in_err-x
unfolding of_three
returns-in_err-x c = rw (sym c.in_ok-a.ensures.value, sym c.in_err-x.ensures.value) c.from_residual-in_err-x.ensures

pub returns-then-is : goal.returns-then-is
unfolding of_three
returns-then-is c = rw (sym c.in_ok-a.ensures.value, sym c.in_ok-x.ensures.value, sym c.is.ensures ∙ c.if-is.true)

pub returns-then-is-2 : goal.returns-then-is-2
unfolding of_three
returns-then-is-2 c = rw (sym c.in_ok-a.ensures.value, sym c.in_ok-x.ensures.value, sym c.is.ensures ∙ c.if-is.false, sym c.is-2.ensures ∙ c.if-is-2.true)

pub returns-then-is-3 : goal.returns-then-is-3
unfolding of_three
returns-then-is-3 c = rw (sym c.in_ok-a.ensures.value, sym c.in_ok-x.ensures.value, sym c.is.ensures ∙ c.if-is.false, sym c.is-2.ensures ∙ c.if-is-2.false, sym c.is-3.ensures ∙ c.if-is-3.true)

pub returns : goal.returns
unfolding of_three
returns c = rw (sym c.in_ok-a.ensures.value, sym c.in_ok-x.ensures.value, sym c.is.ensures ∙ c.if-is.false, sym c.is-2.ensures ∙ c.if-is-2.false, sym c.is-3.ensures ∙ c.if-is-3.false)
