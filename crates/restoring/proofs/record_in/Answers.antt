-- The record of the words read and the label. Assumes nothing.
use Rattle.restoring.specs.FoundLaws.{record-made}
use Rattle.restoring.proofs.record_in.Goals as goal

pub returns : goal.returns
returns c =
    record-made c.args.body.now _ _ _ _ _ _ _ c.label_in.ensures c.word_at.ensures c.word_at-2.ensures
    c.word_at-3.ensures c.word_at-4.ensures c.word_at-5.ensures c.word_at-6.ensures
