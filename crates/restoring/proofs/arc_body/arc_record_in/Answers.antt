-- The record of the words read, the label and the sizes. Assumes nothing.
use Rattle.restoring.specs.ArcBodyLaws.{arc-made}
use Rattle.restoring.proofs.arc_body.arc_record_in.Goals as goal

pub returns : goal.returns
returns c =
    arc-made c.args.body.now _ _ _ _ _ _ c.label_in.ensures c.sizes_in.ensures c.word_at.ensures
    c.word_at-2.ensures c.word_at-3.ensures c.word_at-4.ensures
