-- Each test that fails is one of the definition, and what passes them is digits. Assumes nothing.
use mathlib.Core.Path.{sym, ◌∙◌}
use native.Mathlib.Omega.{arith}
use Rattle.lines.proofs.Coding.{number-none, number-long, number-zero, number_short, number-plain}
use Rattle.lines.proofs.numbers.decimal.Goals as goal
use Rattle.lines.proofs.numbers.decimal.Goals.{then-n-lt1-via-then-n-lt1, then-n-lt1-via-else-n-lt1+then-n-gt5, else-w-eq48-via-then-w-eq48+else-n-gt1, else-w-eq48-via-else-w-eq48}

pub returns-then-n-lt1-clause-value : goal.returns-then-n-lt1-clause-value
returns-then-n-lt1-clause-value c =
    let w = c.args.w.now in
    elim c.then-n-lt1.branch [
      | then-n-lt1-via-then-n-lt1 t ↦ sym (number-none w (omega arith))
      | then-n-lt1-via-else-n-lt1+then-n-gt5 t ↦ sym (number-long w (omega arith))
    ]

pub returns-then-n-gt1-clause-value : goal.returns-then-n-gt1-clause-value
returns-then-n-gt1-clause-value c = sym (number-zero c.args.w.now (omega arith) (omega arith) c.if-w-eq48.true)

pub returns-clause-value : goal.returns-clause-value
returns-clause-value c =
    let w = c.args.w.now in
    elim c.else-w-eq48.branch [
      | else-w-eq48-via-then-w-eq48+else-n-gt1 t ↦ c.digits.ensures.value ∙ sym (number_short w (omega arith) (omega arith))
      | else-w-eq48-via-else-w-eq48 t ↦ c.digits.ensures.value ∙ sym (number-plain w (omega arith) (omega arith) t.if-w-eq48.false)
    ]
