-- A turn leaves the strings behind one. Assumes nothing.
use Rattle.std.proofs.Common.{◌∙◌}
use Rattle.area.specs.ByteLaws.{bytes_from, part-here, part-later}
use Rattle.area.proofs.string_part.Goals as goal

pub returns-then-i-s : goal.returns-then-i-s
returns-then-i-s c =
    let l = c.loop-s in
    part-here c.args.strings.now l.s-index l.i _ c.loop-s-test.true (bytes_from c.args.strings.now c.args.i) l.invariant
    c.if-i-s.true c.if-s-i-lt64.false

pub loop-s-preserved : goal.loop-s-preserved
loop-s-preserved c =
    let l = c.loop-s in
    l.invariant ∙ part-later c.args.strings.now l.s-index l.i _ c.loop-s-test.true c.if-i-s.false
