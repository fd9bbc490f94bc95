-- A line that is too long, or its form by how many words it has. Assumes nothing.
use mathlib.Core.Path.{sym, ◌∙◌}
use native.Mathlib.Omega.{arith}
use Rattle.lines.proofs.Forms.{parsed-long, parsed-one, parsed-two, parsed-three, parsed-five, parsed-other}
use Rattle.lines.proofs.parse.parse.Goals as goal

pub returns-then-line-gt32 : goal.returns-then-line-gt32
returns-then-line-gt32 c = sym (parsed-long c.args.line.now (omega arith))

pub returns-in-1 : goal.returns-in-1
returns-in-1 c = c.one.ensures ∙ sym (parsed-one c.args.line.now (omega arith) (omega arith))

pub returns-in-2 : goal.returns-in-2
returns-in-2 c = c.two.ensures ∙ sym (parsed-two c.args.line.now (omega arith) (omega arith))

pub returns-in-3 : goal.returns-in-3
returns-in-3 c = c.three.ensures ∙ sym (parsed-three c.args.line.now (omega arith) (omega arith))

pub returns-in-5 : goal.returns-in-5
returns-in-5 c = c.five.ensures ∙ sym (parsed-five c.args.line.now (omega arith) (omega arith))

pub returns-in_default : goal.returns-in_default
returns-in_default c =
    sym (parsed-other c.args.line.now (omega arith) (λ q. omega arith) (λ q. omega arith) (λ q. omega arith) (λ q. omega arith))
