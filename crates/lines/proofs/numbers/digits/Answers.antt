use mathlib.Core.Path.{◌∙◌, sym}
use native.Mathlib.Omega.{arith}
use Rattle.lines.proofs.Coding.{ten-more, ten-most, digit, digit-below, digit-above, digits-end}
use Rattle.lines.proofs.numbers.digits.Goals as goal

pub returns-in_default-clause-value : goal.returns-in_default-clause-value
returns-in_default-clause-value c =
    sym (c.loop-c.invariant.1 ∙ digit-below c.loop-c.value c.args.w.now c.loop-c.c-index (omega arith) (omega arith))

pub returns-in_default-2-clause-value : goal.returns-in_default-2-clause-value
returns-in_default-2-clause-value c =
    sym (c.loop-c.invariant.1 ∙ digit-above c.loop-c.value c.args.w.now c.loop-c.c-index (omega arith) (omega arith) (omega arith))

pub loop-c-preserved : goal.loop-c-preserved
loop-c-preserved c =
    let w = c.args.w.now in
    rw c.from.ensures
    (ten-more c.loop-c.c-index c.loop-c.value _ c.loop-c.invariant.0 (omega arith), c.loop-c.invariant.1 ∙ digit c.loop-c.value w c.loop-c.c-index (omega arith) (omega arith) (omega arith))

pub returns-clause-value : goal.returns-clause-value
returns-clause-value c = sym (c.loop-c.invariant.1 ∙ digits-end c.loop-c.value c.args.w.now c.loop-c.c-index (omega arith))

pub returns-clause-upper_bound : goal.returns-clause-upper_bound
returns-clause-upper_bound c = omega (arith, ten-most c.loop-c.c-index (omega arith))
