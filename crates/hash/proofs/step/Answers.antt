-- `hash::step` meets its contract.
-- Assumes nothing.
use Rattle.hash.specs.Sha256.{K}
use Rattle.hash.specs.Words.{words}
use Rattle.hash.proofs.Laws.{done_more}
use Rattle.hash.proofs.step.Goals as goal

pub returns : goal.returns
unfolding K
returns c h d = rw c.round.ensures (done_more c.args.block.now h c.args.w.now (words c.args.s) c.args.t _ c.requires.0 c.word-x.ensures d)
