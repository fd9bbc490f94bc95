-- By whether the first row is free. Assumes nothing.
use mathlib.Core.Path.{sym, ◌∙◌}
use Rattle.std.proofs.Common.{rules}
use borrow.Author.Tests.{not-true, not-false}
use Rattle.arcstep.proofs.Victims.{free-first, none_free, first-free, first-used}
use Rattle.arcstep.proofs.victim.victim.Goals as goal

pub returns-then-not-is_used : goal.returns-then-not-is_used
returns-then-not-is_used c =
    let a = c.args in
    λ disk flash R h. free-first R.kept R.stepped.box (first-free a.b.slots a.blocks.now R.stepped.box.used R.stepped.box.free h.box.blocks-are c.requires.fits.0 (sym c.is_used.ensures ∙ c.if-not-is_used.true))

pub returns : goal.returns
returns c =
    let a = c.args in
    λ disk flash R h.
    let e = first-used a.b.slots a.blocks.now R.stepped.box.used R.stepped.box.free h.box.blocks-are (sym c.is_used.ensures ∙ c.if-not-is_used.false) in
    none_free R.kept R.stepped.box e _ (c.oldest_at.ensures disk flash R h e)
