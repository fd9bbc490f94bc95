-- By whether the row's fingerprint has a place, which is the paper's hit. Assumes nothing.
use mathlib.Core.Path.{◌∙◌, ap, sym}
use mathlib.Core.Bool.{cond}
use lib.ListN.{get_or}
use Rattle.paper.specs.Cache.{read_as}
use Rattle.parts.specs.Rep.{engine}
use Rattle.serve.specs.Calls.{leaves}
use Rattle.serve.specs.ServeLaws.{found-hit, found-miss}
use Rattle.turns.proofs.read.read_one.Goals as goal

pub read_hit-requires : goal.read_hit-requires
read_hit-requires c =
    let a = c.args in
    let s = c.requires.lent_sound.0 in
    let h = c.requires.lent_sound.1 in
    let t = found-hit a.b a.disk.now a.flash.now a.addrs.now a.blocks.now s h a.a.0 c.row_of-i.result c.place_of_row-j.result
    (c.row_of-i.ensures.by_index a.b.blocks a.b.rows s.rows h.rows_are)
    (c.place_of_row-j.ensures.by_index a.b.blocks a.b.rows s.rows s.free s.used h.rows_are h.blocks-are) c.if-j-b.true in
    record {
      i_lt_held = (t.is_held, t.is-cached, c.requires.access);
      by_index = (a.disk.now, s, h, t);
    }

pub returns-then-j-b : goal.returns-then-j-b
returns-then-j-b c =
    let a = c.args in
    let w = c.read_hit in
    record {
      flashed_bound = w.ensures.flashed_bound;
      block_after = λ s x lent h sd ex.
          w.ensures.by_index_2 a.disk.now s (cond a.first (get_or s.disk a.a.0 (engine a.b).blank) x) lent h sd
          (found-hit a.b a.disk.now a.flash.now a.addrs.now a.blocks.now s h a.a.0 c.row_of-i.result c.place_of_row-j.result
          (c.row_of-i.ensures.by_index a.b.blocks a.b.rows s.rows h.rows_are)
          (c.place_of_row-j.ensures.by_index a.b.blocks a.b.rows s.rows s.free s.used h.rows_are h.blocks-are)
          c.if-j-b.true);
    }

pub returns : goal.returns
returns c =
    let a = c.args in
    let w = c.read_missed in
    record {
      flashed_bound = w.ensures.flashed_bound;
      block_after = λ s x lent h sd ex.
          w.ensures.block_after s x lent h sd ex
          ∙ ap (λ o. leaves a.b lent (read_as (engine a.b) a.b.rows s a.a.0
          (cond a.first (get_or s.disk a.a.0 (engine a.b).blank) x) o))
          (sym (found-miss a.b a.disk.now a.flash.now a.addrs.now a.blocks.now s h a.a.0 c.row_of-i.result c.place_of_row-j.result
          (c.row_of-i.ensures.by_index a.b.blocks a.b.rows s.rows h.rows_are)
          (c.place_of_row-j.ensures.by_index a.b.blocks a.b.rows s.rows s.free s.used h.rows_are h.blocks-are)
          c.if-j-b.false));
    }
