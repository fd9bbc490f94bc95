-- The row's own fingerprint, dirty value and seat, and the block copied, are what the step is asked with. Assumes nothing.
use mathlib.Core.Path.{sym, ap, ◌∙◌}
use native.Mathlib.Omega.{arith}
use lib.ListN.{get_or}
use Rattle.tables.specs.Records.{bytes2}
use Rattle.paper.specs.Cache.{block_of}
use Rattle.paper.specs.Lent.{bit}
use Rattle.parts.specs.Rep.{no_row, engine}
use Rattle.parts.specs.MoveLaws.{fp-is, dirty-is, seat-is}
use Rattle.arcserve.proofs.Serving.{hit-read}
use Rattle.arcserve.proofs.reads.read_hit.Goals as goal

pub hit_block-requires : goal.hit_block-requires
hit_block-requires c =
    let p = c.requires.i_lt_held in
    let q = c.requires.lent_hit in
    record {
      j_lt_slots = (p.1, p.2.2, p.2.4.2);
      by_index = (c.args.disk.now, c.args.addrs.now, q.1, c.args.a.0, c.args.i, q.2, q.5);
    }

pub step-running-requires : goal.step-running-requires
step-running-requires c =
    let a = c.args in
    let p = c.requires.i_lt_held.2 in
    let q = c.requires.lent_hit in
    let ed = c.dirty_at-dirty.ensures
    ∙ ap bit (dirty-is a.b.blocks a.b.rows a.b.held a.addrs.now q.1.rows q.2.rows_are a.i c.requires.i_lt_held.0 no_row) in
    record {
      slots_nonzero = (p.0, p.1, c.fp_at-g.ensures.0, c.hit_block.auto.block ∙ p.2, p.3, p.4, p.5, p.6, p.7);
      rep = (q.0, q.1, (get_or q.1.rows a.i no_row).dirty, q.2, q.3, q.4, ed);
      indexed = c.requires.indexed;
    }

pub returns : goal.returns
returns c =
    let a = c.args in
    let i1 = c.requires.i_lt_held.0 in
    let w = c.step-running in
    record {
      few = (w.ensures.flashed_bound.0, omega (arith, w.ensures.flashed_bound.1));
      serves = λ l x y lent h k so q.
          let row = get_or x.rows a.i no_row in
          let v = block_of (engine a.b) row.fingerprint x.used x.flash in
          let ev = sym (c.hit_block.ensures a.disk.now a.addrs.now x a.a.0 a.i h q) in
          let ef = sym (fp-is a.b.blocks a.b.rows a.b.held a.addrs.now x.rows h.rows_are a.i i1 no_row) ∙ sym c.fp_at-g.ensures.1 in
          let ed = c.dirty_at-dirty.ensures ∙ ap bit (dirty-is a.b.blocks a.b.rows a.b.held a.addrs.now x.rows h.rows_are a.i i1 no_row) in
          let ez = c.seat_at-seat.ensures ∙ seat-is a.b.blocks a.b.rows a.b.held a.addrs.now x.rows h.rows_are a.i i1 no_row in
          hit-read a.b a.s l x a.a.0 a.i a.j y lent w.result (bytes2 c.seat_at-seat.result) _ _ _ _ _ _ a.disk.now a.flash.now a.addrs.now a.blocks.now h q
          (w.ensures.stands l x row.fingerprint v row.dirty h k so ef ev ed) ez (sym ev);
    }
