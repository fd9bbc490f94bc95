-- Another first word, or a number that is missing, or all four. Assumes nothing.
use mathlib.Core.Path.{sym, ◌∙◌}
use Rattle.lines.specs.Lines.{of_five}
use Rattle.lines.proofs.parse.five.Goals as goal

pub returns-then-not-is : goal.returns-then-not-is
unfolding of_five
returns-then-not-is c = rw (sym c.is.ensures ∙ c.if-not-is.true)

pub returns-in_err-b : goal.returns-in_err-b
unfolding of_five
returns-in_err-b c = rw (sym c.is.ensures ∙ c.if-not-is.false, sym c.in_err-b.ensures.value) c.from_residual.ensures

pub returns-in_err-p : goal.returns-in_err-p
unfolding of_five
returns-in_err-p c = rw (sym c.is.ensures ∙ c.if-not-is.false, sym c.in_ok-b.ensures.value, sym c.in_err-p.ensures.value) c.from_residual-in_err-p.ensures

pub returns-in_err-m : goal.returns-in_err-m
unfolding of_five
returns-in_err-m c = rw (sym c.is.ensures ∙ c.if-not-is.false, sym c.in_ok-b.ensures.value, sym c.in_ok-p.ensures.value, sym c.in_err-m.ensures.value) c.from_residual-in_err-m.ensures

pub returns-in_err-d : goal.returns-in_err-d
unfolding of_five
returns-in_err-d c = rw (sym c.is.ensures ∙ c.if-not-is.false, sym c.in_ok-b.ensures.value, sym c.in_ok-p.ensures.value, sym c.in_ok-m.ensures.value, sym c.in_err-d.ensures.value) c.from_residual-in_err-d.ensures

pub returns : goal.returns
unfolding of_five
returns c = rw (sym c.is.ensures ∙ c.if-not-is.false, sym c.in_ok-b.ensures.value, sym c.in_ok-p.ensures.value, sym c.in_ok-m.ensures.value, sym c.in_ok-d.ensures.value)
