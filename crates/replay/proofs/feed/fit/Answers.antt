-- Each test in turn is one of the definition. Assumes nothing.
use mathlib.Core.Path.{refl, sym, ◌∙◌}
use Rattle.session.specs.Memory.{fits}
use Rattle.replay.proofs.feed.fit.Goals as goal

pub returns-then-not-lengths_fit : goal.returns-then-not-lengths_fit
unfolding fits
returns-then-not-lengths_fit c = rw (sym c.lengths_fit.ensures ∙ c.if-not-lengths_fit.true) refl

pub returns-then-not-numbers_fit : goal.returns-then-not-numbers_fit
unfolding fits
returns-then-not-numbers_fit c = rw (sym c.lengths_fit.ensures ∙ c.if-not-lengths_fit.false, sym c.numbers_fit.ensures ∙ c.if-not-numbers_fit.true) refl

pub returns : goal.returns
unfolding fits
returns c = rw (sym c.lengths_fit.ensures ∙ c.if-not-lengths_fit.false, sym c.numbers_fit.ensures ∙ c.if-not-numbers_fit.false) refl
