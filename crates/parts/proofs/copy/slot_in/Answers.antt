-- By whether there is such a row. Assumes nothing.
use mathlib.Core.Path.{refl}
use borrow.Author.Tests.{lt-ltb, le-ltb}
use native.Mathlib.Omega.{arith}
use Rattle.std.proofs.Common.{rules}
use Rattle.parts.proofs.copy.slot_in.Goals as goal

pub returns-then-d-place : goal.returns-then-d-place
returns-then-d-place c =
    let a = c.args in
    rw (le-ltb a.place a.d c.if-d-place.true) refl

pub returns : goal.returns
returns c =
    let a = c.args in
    rw (lt-ltb a.place a.d (omega (arith, c.if-d-place.false))) c.slot_at.ensures
