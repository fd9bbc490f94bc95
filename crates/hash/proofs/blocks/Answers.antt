-- `hash::blocks` meets its contract.
-- Assumes nothing.
use Rattle.std.proofs.Common.{rules, length-append, sym, ◌∙◌}
use Rattle.hash.specs.Words.{words}
use Rattle.hash.specs.Sha256.{blocks}
use Rattle.hash.proofs.Laws.{block-more}
use Rattle.hash.proofs.blocks.Goals as goal

pub loop-block-init : goal.loop-block-init
unfolding blocks
loop-block-init c = search rules

pub loop-block-preserved : goal.loop-block-preserved
unfolding blocks
loop-block-preserved c =
    let i = c.loop-block.invariant in
    let e = c.in-Some.ensures.steps in
    let n = length-append c.loop-block.yielded _ in
    let m = block-more (words c.args.hash) c.args.bytes.now _ c.in-Some.block.now _ _ n i.1 (sym i.2 ∙ e.1.0) (e.1.1 ∙ i.0) in
    (e.0 ∙ i.0, m.0, m.1, rw i.3 at c.compress-s.ensures ∙ m.2)
