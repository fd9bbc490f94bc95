-- A turn leaves the strings behind one. Assumes nothing.
use Rattle.std.proofs.Common.{◌∙◌, sym}
use Rattle.area.specs.ByteLaws.{string-here, string-later, string-none}
use Rattle.area.proofs.string_byte.Goals as goal

pub returns-then-i-s : goal.returns-then-i-s
returns-then-i-s c =
    let l = c.loop-s in
    string-here c.args.strings.now l.s-index l.i _ c.loop-s-test.true c.if-i-s.true ∙ sym l.invariant

pub loop-s-preserved : goal.loop-s-preserved
loop-s-preserved c =
    let l = c.loop-s in
    l.invariant ∙ string-later c.args.strings.now l.s-index l.i _ c.loop-s-test.true c.if-i-s.false

pub returns : goal.returns
returns c =
    let l = c.loop-s in
    sym (l.invariant ∙ string-none c.args.strings.now l.s-index l.i c.loop-s-test.false)
