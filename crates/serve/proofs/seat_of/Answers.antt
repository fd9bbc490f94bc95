-- By whether there is a row. Assumes nothing.
use mathlib.Core.Path.{◌∙◌}
use Rattle.serve.specs.ServeLaws.{seat-none, seat-kept}
use Rattle.std.proofs.Common.{rules}
use Rattle.serve.proofs.seat_of.Goals as goal

pub returns-then-i-b : goal.returns-then-i-b
returns-then-i-b c =
    let a = c.args in
    λ l h. c.seat_at.ensures ∙ seat-kept a.b.blocks a.b.rows a.b.held a.addrs.now l h a.a.0 c.row_of-i.result
    (c.row_of-i.ensures.by_index a.b.blocks a.b.rows l h) c.if-i-b.true

pub returns : goal.returns
returns c =
    let a = c.args in
    λ l h. seat-none a.b.blocks a.b.rows a.b.held a.addrs.now l h a.a.0 c.row_of-i.result
    (c.row_of-i.ensures.by_index a.b.blocks a.b.rows l h) c.if-i-b.false
