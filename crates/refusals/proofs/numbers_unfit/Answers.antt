-- Each test in turn, by what its function ensures. Assumes nothing.
use mathlib.Core.Path.{refl, sym, ◌∙◌}
use Rattle.std.proofs.Common.{rules}
use borrow.Author.Tests.{not-true, not-false}
use Rattle.paper.specs.Lent.{unfit}
use Rattle.refusals.proofs.numbers_unfit.Goals as goal

pub returns-then-not-block_size : goal.returns-then-not-block_size
unfolding unfit
returns-then-not-block_size c = rw (sym c.block_size.ensures ∙ c.if-not-block_size.true) refl

pub returns-then-not-within : goal.returns-then-not-within
unfolding unfit
returns-then-not-within c =
    rw (sym c.block_size.ensures ∙ c.if-not-block_size.false, sym c.within.ensures ∙ c.if-not-within.true) refl

pub returns-then-not-within-2 : goal.returns-then-not-within-2
unfolding unfit
returns-then-not-within-2 c =
    rw (sym c.block_size.ensures ∙ c.if-not-block_size.false, sym c.within.ensures ∙ c.if-not-within.false, sym c.within-2.ensures ∙ c.if-not-within-2.true) refl

pub returns : goal.returns
unfolding unfit
returns c =
    rw (sym c.block_size.ensures ∙ c.if-not-block_size.false, sym c.within.ensures ∙ c.if-not-within.false, sym c.within-2.ensures ∙ c.if-not-within-2.false, c.within-3.ensures) refl
