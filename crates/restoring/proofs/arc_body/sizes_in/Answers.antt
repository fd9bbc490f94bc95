-- The sizes are the words read. Assumes nothing.
use Rattle.restoring.specs.ArcBodyLaws.{sizes-made}
use Rattle.restoring.proofs.arc_body.sizes_in.Goals as goal

pub returns : goal.returns
returns c =
    sizes-made c.args.body.now _ _ _ _ _ _ _ _ c.word_at.ensures c.word_at-2.ensures c.word_at-3.ensures
    c.word_at-4.ensures c.word_at-5.ensures c.word_at-6.ensures c.word_at-7.ensures c.word_at-8.ensures
