-- The name leaves, p moves, the row leaves. Assumes nothing.
use mathlib.Core.Path.{sym, ap, ◌∙◌}
use native.Mathlib.Omega.{arith}
use Rattle.std.proofs.Common.{rules}
use Rattle.arc.specs.Arc.{new_p}
use Rattle.arc.specs.Arc as Arc
use Rattle.arcstep.proofs.Naming.{small_low}
use Rattle.arcstep.proofs.Parting.{before_small, once-named, part-runs}
use Rattle.arcstep.proofs.ends.part.Goals as goal

pub returns : goal.returns
returns c =
    let a = c.args in
    let v = c.leave-left in
    let p = c.new_p in
    let i = c.row_of-i in
    let o = c.row_out-held in
    record {
      held_le_held = (o.ensures.upper_bound, search rules, search rules, v.ensures.sizes_bound.0, v.ensures.sizes_bound.1);
      by_index = λ disk flash blocks l x h k so.
          let low = small_low l (before_small a.b a.s disk flash a.addrs.now blocks a.lists.now l x h k so) in
          let w = v.ensures.by_index_2 a.b.rows l k low in (
            w,
            part-runs a.b a.s disk flash a.addrs.now blocks a.lists.now l x h k so a.a.0 _ o.result v.result.sizes _ _ p.result
                (o.ensures.by_index a.b.blocks a.b.rows a.a.0 x.rows h.rows_are so.sound.addresses
                (i.ensures.by_index a.b.blocks a.b.rows x.rows h.rows_are))
                (v.ensures.by_index a.b.rows l k low (once-named a.b a.s disk flash a.addrs.now blocks a.lists.now l x h k so a.a.0))
                (p.ensures l k.sized ∙ ap (λ (y : Arc.Was). new_p a.s.cached y l) w),
          );
    }
