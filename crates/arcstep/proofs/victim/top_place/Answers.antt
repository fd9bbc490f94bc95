-- The bit of the row's address, and then its block row's place. Assumes nothing.
use mathlib.Core.Path.{refl, sym, ◌∙◌}
use Rattle.std.proofs.Common.{rules}
use borrow.Author.Tests.{not-true, not-false}
use Rattle.arcstep.proofs.victim.top_place.Goals as goal

pub returns-then-not-row_named : goal.returns-then-not-row_named
returns-then-not-row_named c = rw (sym c.row_named.ensures ∙ c.if-not-row_named.true) refl

pub returns : goal.returns
returns c = rw (sym c.row_named.ensures ∙ c.if-not-row_named.false) c.place_of.ensures
