-- Each test in turn is one of the definition. Assumes nothing.
use mathlib.Core.Path.{refl}
use native.Mathlib.Omega.{arith}
use mir.Facts.{Fits-lit}
use Rattle.std.proofs.Common.{rules}
use borrow.Author.Tests.{eq-eqb, ne_eqb}
use Rattle.block.specs.Laws.{product-fits}
use Rattle.refusals.specs.Checks.{wrong_lengths}
use Rattle.refusals.proofs.lengths_wrong.Goals as goal

pub overflow_mul-b : goal.overflow_mul-b
overflow_mul-b c = product-fits 65536 4096 _ _ (omega arith) (omega arith) (Fits-lit tt)

pub overflow_mul-b-2 : goal.overflow_mul-b-2
overflow_mul-b-2 c = product-fits 256 4096 _ _ (omega arith) (omega arith) (Fits-lit tt)

pub returns-then-disk-b : goal.returns-then-disk-b
unfolding wrong_lengths
returns-then-disk-b c = rw (ne_eqb _ _ c.if-disk-b.true) refl

pub returns-then-flash-b : goal.returns-then-flash-b
unfolding wrong_lengths
returns-then-flash-b c = rw (eq-eqb _ _ c.if-disk-b.false, ne_eqb _ _ c.if-flash-b.true) refl

pub returns-then-addresses-b : goal.returns-then-addresses-b
unfolding wrong_lengths
returns-then-addresses-b c =
    rw (eq-eqb _ _ c.if-disk-b.false, eq-eqb _ _ c.if-flash-b.false, ne_eqb _ _ c.if-addresses-b.true) refl

pub returns : goal.returns
unfolding wrong_lengths
returns c =
    rw (eq-eqb _ _ c.if-disk-b.false, eq-eqb _ _ c.if-flash-b.false, eq-eqb _ _ c.if-addresses-b.false) refl
