-- The block there is lost, and then the new one is stored. Assumes nothing.
use Rattle.parts.specs.CopyLaws.{parts-length, block-ends}
use Rattle.step.proofs.Storing.{at_slot, at-below, store_is}
use Rattle.std.proofs.Common.{rules}
use Rattle.step.proofs.steps.store_at.Goals as goal

pub lose-count-requires : goal.lose-count-requires
lose-count-requires c =
    let a = c.args in
    let q = c.requires.rep in
    let w = c.slot_at-slot in
    record {
      t_lt_slots = (c.requires.t_lt_slots.0, at-below a.b a.disk.now a.flash.now a.addrs.now a.blocks.now q.0 q.1 a.t w.result.0 q.3 w.ensures, c.requires.t_lt_slots.3);
      rep = (q.0, q.1, q.2, q.3, at_slot a.b a.disk.now a.flash.now a.addrs.now a.blocks.now q.0 q.1 a.t w.result.0 q.3 w.ensures);
    }

pub fill-requires : goal.fill-requires
fill-requires c =
    let a = c.args in
    let q = c.requires.rep in
    let w = c.slot_at-slot in
    let kb = at-below a.b a.disk.now a.flash.now a.addrs.now a.blocks.now q.0 q.1 a.t w.result.0 q.3 w.ensures in
    (c.requires.t_lt_slots.0, rw (parts-length a.b.size a.b.slots a.flash.now q.0.flash q.1.flash-is) (block-ends w.result.0 a.b.slots a.b.size kb), c.requires.t_lt_slots.1, c.requires.t_lt_slots.2, c.requires.t_lt_slots.3.2)

pub returns : goal.returns
returns c =
    let a = c.args in
    let w = c.slot_at-slot in
    let l = c.lose-count in
    let g = c.fill in
    record {
      upper_bound = l.ensures.upper_bound;
      blocks_after = λ s f x h ds p ef ex.
          let es = at_slot a.b a.disk.now a.flash.now a.addrs.now a.blocks.now s h a.t w.result.0 p w.ensures in
          let kb = at-below a.b a.disk.now a.flash.now a.addrs.now a.blocks.now s h a.t w.result.0 p w.ensures in
          store_is a.b a.disk.now a.flash.now a.addrs.now a.blocks.now s h a.t w.result.0 p w.ensures f x l.result _ _ _ _ (l.ensures.addrs_after s h ds p es) (g.ensures s.free s.used s.flash f x h.blocks-are h.flash-is p kb es ef ex);
    }
