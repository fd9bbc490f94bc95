-- By whether the row's fingerprint has a place, which is the paper's hit. Assumes nothing.
use lib.ListN.{get_or}
use Rattle.arc.specs.Policy.{serve_by}
use Rattle.parts.specs.Rep.{engine}
use Rattle.serve.specs.ServeLaws.{found-hit, found-miss}
use Rattle.arcserve.proofs.reads.serve_read.Goals as goal

pub read_hit-requires : goal.read_hit-requires
read_hit-requires c =
    let a = c.args in
    let q = c.requires.lent_arc in
    let t = found-hit a.b a.disk.now a.flash.now a.addrs.now a.blocks.now q.1 q.2 a.a.0 c.row_of-i.result c.place_of_row-j.result
    (c.row_of-i.ensures.by_index a.b.blocks a.b.rows q.1.rows q.2.rows_are)
    (c.place_of_row-j.ensures.by_index a.b.blocks a.b.rows q.1.rows q.1.free q.1.used q.2.rows_are q.2.blocks-are) c.if-j-b.true in
    record {
      i_lt_held = (t.is_held, t.is-cached, c.requires.arc_access);
      lent_hit = (q.0, q.1, q.2, q.3, q.4, t);
      indexed = c.requires.indexed;
    }

pub returns-then-j-b : goal.returns-then-j-b
unfolding serve_by
returns-then-j-b c =
    let a = c.args in
    let w = c.read_hit in
    record {
      few = w.ensures.few;
      serves = λ l x lent h k so. w.ensures.serves l x (get_or x.disk a.a.0 (engine a.b).blank) lent h k so
          (found-hit a.b a.disk.now a.flash.now a.addrs.now a.blocks.now x h a.a.0 c.row_of-i.result c.place_of_row-j.result
          (c.row_of-i.ensures.by_index a.b.blocks a.b.rows x.rows h.rows_are)
          (c.place_of_row-j.ensures.by_index a.b.blocks a.b.rows x.rows x.free x.used h.rows_are h.blocks-are) c.if-j-b.true);
    }

pub returns : goal.returns
unfolding serve_by
returns c =
    let a = c.args in
    let w = c.read_miss in
    record {
      few = w.ensures.few;
      serves = λ l x lent h k so. rw (found-miss a.b a.disk.now a.flash.now a.addrs.now a.blocks.now x h a.a.0 c.row_of-i.result c.place_of_row-j.result
          (c.row_of-i.ensures.by_index a.b.blocks a.b.rows x.rows h.rows_are)
          (c.place_of_row-j.ensures.by_index a.b.blocks a.b.rows x.rows x.free x.used h.rows_are h.blocks-are) c.if-j-b.false)
          (w.ensures.serves l x lent h k so);
    }
