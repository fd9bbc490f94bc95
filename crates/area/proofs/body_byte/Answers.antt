-- A byte of a number, or of a string. Assumes nothing.
use Rattle.std.proofs.Common.{◌∙◌}
use Rattle.area.specs.ByteLaws.{number-here, string_in}
use Rattle.area.proofs.body_byte.Goals as goal

pub returns-then-i-n : goal.returns-then-i-n
returns-then-i-n c = number-here c.args.body.now c.args.i _ c.if-i-n.true c.to_le_bytes-number.ensures

pub returns : goal.returns
returns c = c.string_byte.ensures ∙ string_in c.args.body.now c.args.i c.if-i-n.false
