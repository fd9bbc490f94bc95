-- One turn more. Assumes nothing.
use Rattle.std.proofs.Common.{◌∙◌, arith, take}
use Rattle.paper.specs.Cache.{no_counts}
use Rattle.paper.specs.Batch.{batch, start}
use Rattle.parts.specs.Rep.{numbers_of, engine}
use Rattle.turns.specs.TurnLaws.{turned_none, batch-next, batch-whole}
use Rattle.turns.proofs.serve_many.Goals as goal

pub loop-k-init : goal.loop-k-init
unfolding batch
loop-k-init c =
    let a = c.args in
    λ s z h sd. turned_none a.b a.disk.now a.flash.now a.addrs.now a.blocks.now a.buffer.now s z h sd

pub turn-t-requires : goal.turn-t-requires
turn-t-requires c =
    let l = c.loop-k in
    let a = c.args in
    let p = c.requires.fits in
    let q = c.requires.lent_sound in
    let h = c.loop-k-test.true in
    record {
      fits = (p.0, h, p.1, p.3 l.k h, l.auto.buffer ∙ p.2);
      turned = (no_counts, batch (engine a.b) (numbers_of a.b) (start q.0 no_counts) (take l.k a.asked.now), l.invariant q.0 no_counts q.1 q.2);
    }

pub loop-k-preserved : goal.loop-k-preserved
loop-k-preserved c =
    let l = c.loop-k in
    let a = c.args in
    λ s z r sd.
    batch-next a.b a.asked.now l.k z _ _ _ _ _ _ s c.loop-k-test.true
    (c.turn-t.ensures.turned_2 z (batch (engine a.b) (numbers_of a.b) (start s z) (take l.k a.asked.now)) (l.invariant s z r sd))

pub returns : goal.returns
returns c =
    let l = c.loop-k in
    let a = c.args in
    record {
      turned = λ s z r sd. batch-whole a.b a.asked.now l.k z _ _ _ _ _ _ s (omega arith) (l.invariant s z r sd);
      buffer_len_unchanged = l.auto.buffer;
    }
