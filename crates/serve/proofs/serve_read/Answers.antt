-- By whether the row's fingerprint has a place, which is the paper's hit. Assumes nothing.
use mathlib.Core.Path.{◌∙◌}
use lib.ListN.{get_or}
use Rattle.paper.specs.Cache.{serve}
use Rattle.parts.specs.Rep.{engine}
use Rattle.serve.specs.ServeLaws.{miss-is, found-hit, found-miss}
use Rattle.std.proofs.Common.{rules}
use Rattle.serve.proofs.serve_read.Goals as goal

pub read_hit-requires : goal.read_hit-requires
read_hit-requires c =
    let a = c.args in
    let q = c.requires.lent_sound in
    let t = found-hit a.b a.disk.now a.flash.now a.addrs.now a.blocks.now q.0 q.1 a.a.0 c.row_of-i.result c.place_of_row-j.result (c.row_of-i.ensures.by_index a.b.blocks a.b.rows q.0.rows q.1.rows_are) (c.place_of_row-j.ensures.by_index a.b.blocks a.b.rows q.0.rows q.0.free q.0.used q.1.rows_are q.1.blocks-are) c.if-j-b.true in
    record {
      i_lt_held = (t.is_held, t.is-cached, c.requires.access);
      by_index = (a.disk.now, q.0, q.1, t);
    }

pub returns-then-j-b : goal.returns-then-j-b
unfolding serve
returns-then-j-b c =
    let a = c.args in
    record {
      flashed_bound = c.read_hit.ensures.flashed_bound;
      block_after = λ s lent h sd. c.read_hit.ensures.by_index_2 a.disk.now s (get_or s.disk a.a.0 (engine a.b).blank) lent h sd
          (found-hit a.b a.disk.now a.flash.now a.addrs.now a.blocks.now s h a.a.0 c.row_of-i.result c.place_of_row-j.result (c.row_of-i.ensures.by_index a.b.blocks a.b.rows s.rows h.rows_are) (c.place_of_row-j.ensures.by_index a.b.blocks a.b.rows s.rows s.free s.used h.rows_are h.blocks-are) c.if-j-b.true);
    }

pub returns : goal.returns
returns c =
    let a = c.args in
    record {
      flashed_bound = c.read_miss.ensures.flashed_bound;
      block_after = λ s lent h sd. c.read_miss.ensures.block_after s lent h sd
          ∙ miss-is a.b a.disk.now a.flash.now a.addrs.now a.blocks.now s h a.a.0 lent (found-miss a.b a.disk.now a.flash.now a.addrs.now a.blocks.now s h a.a.0 c.row_of-i.result c.place_of_row-j.result (c.row_of-i.ensures.by_index a.b.blocks a.b.rows s.rows h.rows_are) (c.place_of_row-j.ensures.by_index a.b.blocks a.b.rows s.rows s.free s.used h.rows_are h.blocks-are) c.if-j-b.false);
    }
