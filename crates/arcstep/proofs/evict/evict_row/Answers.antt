-- By whether there is a row; where there is, it is copied and then taken out. Assumes nothing.
use mathlib.Core.Path.{◌∙◌}
use mathlib.Core.Bool.{true, ◌&&◌}
use native.Mathlib.Omega.{arith}
use lib.ListN.{get_or}
use Rattle.std.proofs.Common.{rules}
use Rattle.parts.specs.Rep.{no_row}
use Rattle.parts.specs.MoveLaws.{removed}
use Rattle.arcstep.proofs.Evicting.{clean_at, none-gone, addrs-clean, row-gone}
use Rattle.arcstep.proofs.evict.evict_row.Goals as goal

pub returns-then-b-i : goal.returns-then-b-i
returns-then-b-i c =
    let a = c.args in
    let r = c.row_of-i in
    record {
      held_bound = omega arith;
      row_gone = λ t h ds. none-gone a.b a.disk.now a.flash.now a.addrs.now a.blocks.now t h ds a.x r.result
          (r.ensures.by_index a.b.blocks a.b.rows t.box.rows h.rows_are) c.if-b-i.true;
    }

pub returns : goal.returns
returns c =
    let a = c.args in
    let r = c.row_of-i in
    let w = c.copy_one-primary in
    let l = c.if-b-i.false in
    record {
      held_bound = omega (arith, w.ensures.upper_bound, l);
      row_gone = λ t h ds.
          let e = r.ensures.by_index a.b.blocks a.b.rows t.box.rows h.rows_are in
          let q = w.ensures.addrs_after t.box h in
          let n = addrs-clean a.b a.disk.now a.flash.now a.addrs.now a.blocks.now t h ds a.x r.result e (omega (arith, l)) w.result _ _ q in
          row-gone a.b a.disk.now a.flash.now a.addrs.now a.blocks.now t h ds a.x r.result e (omega (arith, l)) w.result _ _ q _
          (c.remove_row.ensures ∙ removed a.b.blocks a.b.rows a.b.held _
          (clean_at ((get_or t.box.rows r.result no_row).dirty && true) r.result t.box.rows) n r.result (omega (arith, l)) no_row);
    }
