-- The row taken is the paper's. Assumes nothing.
use mathlib.Core.Path.{sym, ap, ◌∙◌}
use Rattle.paper.specs.Cache.{Taken, stored}
use Rattle.paper.specs.Engine.{Fixed}
use Rattle.parts.specs.Rep.{engine}
use Rattle.step.specs.Steps.{out4}
use Rattle.step.specs.Unique.{unique-is}
use Rattle.step.proofs.Storing.{at-picked, at-taken}
use Rattle.std.proofs.Common.{rules}
use Rattle.step.proofs.steps.store.Goals as goal

pub victim-t-requires : goal.victim-t-requires
victim-t-requires c =
    let q = c.requires.rep in
    record {
      blocks_len = search rules;
      blocks_value = unique-is c.args.b.slots c.args.blocks.now q.0.free q.0.used q.1.blocks-are q.2;
      indexed = c.requires.indexed;
    }

pub store_at-requires : goal.store_at-requires
store_at-requires c =
    let a = c.args in
    let q = c.requires.rep in
    let v = c.victim-t in
    let et = v.ensures.by_index a.b.blocks a.b.rows q.0.rows q.0.free q.0.used q.1.rows_are q.1.blocks-are in
    record {
      t_lt_slots = (v.ensures.upper_bound, c.requires.slots_nonzero.1, c.requires.slots_nonzero.2, c.requires.slots_nonzero.4);
      rep = (q.0, q.1, q.2, at-picked a.b a.disk.now a.flash.now a.addrs.now a.blocks.now q.0 q.1 c.requires.slots_nonzero.0 v.result et);
    }

pub returns : goal.returns
returns c =
    let a = c.args in
    let d0 = c.requires.slots_nonzero.0 in
    let v = c.victim-t in
    let w = c.store_at in
    record {
      upper_bound = w.ensures.upper_bound;
      blocks_after = λ s f x h ds ef ex.
          let et = v.ensures.by_index a.b.blocks a.b.rows s.rows s.free s.used h.rows_are h.blocks-are in
          w.ensures.blocks_after s f x h ds (at-picked a.b a.disk.now a.flash.now a.addrs.now a.blocks.now s h d0 v.result et) ef ex
          ∙ ap (λ (t : Taken (Fixed 32)). out4 a.b (stored (engine a.b) s.rows s.used s.flash s.disk f x 0 t))
          (sym (at-taken a.b a.disk.now a.flash.now a.addrs.now a.blocks.now s h d0 v.result et ds));
    }
