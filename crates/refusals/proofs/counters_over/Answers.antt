-- Each test in turn is one of the definition. Assumes nothing.
use mathlib.Core.Path.{refl}
use Prim.Native.Nat.{◌^◌}
use borrow.Author.Tests.{lt-ltb, le-ltb}
use Rattle.paper.specs.Lent.{over}
use Rattle.refusals.proofs.counters_over.Goals as goal

pub returns-then-c-gt9223372036854775808 : goal.returns-then-c-gt9223372036854775808
unfolding over
returns-then-c-gt9223372036854775808 c = rw (lt-ltb (2 ^ 63) _ c.if-c-gt9223372036854775808.true) refl

pub returns-then-c-gt9223372036854775808-2 : goal.returns-then-c-gt9223372036854775808-2
unfolding over
returns-then-c-gt9223372036854775808-2 c = rw (le-ltb (2 ^ 63) _ c.if-c-gt9223372036854775808.false, lt-ltb (2 ^ 63) _ c.if-c-gt9223372036854775808-2.true) refl

pub returns-then-c-gt9223372036854775808-3 : goal.returns-then-c-gt9223372036854775808-3
unfolding over
returns-then-c-gt9223372036854775808-3 c =
    rw (le-ltb (2 ^ 63) _ c.if-c-gt9223372036854775808.false, le-ltb (2 ^ 63) _ c.if-c-gt9223372036854775808-2.false, lt-ltb (2 ^ 63) _ c.if-c-gt9223372036854775808-3.true) refl

pub returns : goal.returns
unfolding over
returns c =
    rw (le-ltb (2 ^ 63) _ c.if-c-gt9223372036854775808.false, le-ltb (2 ^ 63) _ c.if-c-gt9223372036854775808-2.false, le-ltb (2 ^ 63) _ c.if-c-gt9223372036854775808-3.false) refl
