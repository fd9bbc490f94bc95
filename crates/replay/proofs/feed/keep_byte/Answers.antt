-- By whether there is room. Assumes nothing.
use Rattle.session.specs.Memory.{memory}
use Rattle.replay.proofs.Feeding.{kept_more, kept_full}
use Rattle.replay.proofs.feed.keep_byte.Goals as goal

pub returns-then-kept-lt33 : goal.returns-then-kept-lt33
returns-then-kept-lt33 c = λ d f b e o. kept_more (memory c.args.s c.args.line.now d f b e o) c.args.x c.requires.0 c.if-kept-lt33.true

pub returns-else-kept-lt33 : goal.returns-else-kept-lt33
returns-else-kept-lt33 c = λ d f b e o. kept_full (memory c.args.s c.args.line.now d f b e o) c.args.x c.requires.0 c.if-kept-lt33.false c.requires.1
