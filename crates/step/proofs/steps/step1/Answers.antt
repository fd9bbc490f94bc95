-- By whether the address is held, and whether there is room. Assumes nothing.
use mathlib.Core.Bool.{true, ◌&&◌}
use native.Mathlib.Omega.{arith}
use lib.ListN.{get_or}
use Rattle.parts.specs.Rep.{no_row}
use Rattle.step.proofs.Stepping.{out-held, out-room, out-old, addrs-after, clean_first}
use Rattle.std.proofs.Common.{rules}
use Rattle.step.proofs.steps.step1.Goals as goal

pub returns-then-i-b : goal.returns-then-i-b
returns-then-i-b c =
    let a = c.args in
    let r = c.row_of-i in
    let t = c.take_row-place in
    record {
      held_lt_rows = (omega arith, omega arith);
      addrs_after = λ s h d.
          out-held a.b a.disk.now a.flash.now a.addrs.now a.blocks.now s h a.a.0 r.result (r.ensures.by_index a.b.blocks a.b.rows s.rows h.rows_are) d c.if-i-b.true t.result _
          (t.ensures s.rows s.free s.used h.rows_are h.blocks-are);
    }

pub returns-then-b : goal.returns-then-b
returns-then-b c =
    let a = c.args in
    let r = c.row_of-i in
    record {
      held_lt_rows = (omega arith, omega arith);
      addrs_after = λ s h d. out-room a.b a.disk.now a.flash.now a.addrs.now a.blocks.now s h a.a.0 r.result (r.ensures.by_index a.b.blocks a.b.rows s.rows h.rows_are) c.if-i-b.false c.if-b.true;
    }

pub overflow_sub-result-2 : goal.overflow_sub-result-2
overflow_sub-result-2 c =
    omega (arith, c.requires.rows_nonzero.0, c.if-b.false)

pub returns : goal.returns
returns c =
    let a = c.args in
    let r = c.row_of-i in
    let w = c.flush_row-primary in
    let t = c.take_row-place-2 in
    record {
      held_lt_rows = (omega (arith, c.requires.rows_nonzero.0, c.requires.rows_nonzero.3.0), w.ensures.upper_bound);
      addrs_after = λ s h d.
          let q = w.ensures.addrs_after s h in
          out-old a.b a.disk.now a.flash.now a.addrs.now a.blocks.now s h w.result _ _ q a.a.0 r.result (r.ensures.by_index a.b.blocks a.b.rows s.rows h.rows_are) c.if-i-b.false c.if-b.false c.requires.rows_nonzero.0 t.result _
          (t.ensures (clean_first ((get_or s.rows 0 no_row).dirty && true) s.rows) s.free s.used (addrs-after a.b a.disk.now a.flash.now a.addrs.now a.blocks.now s h w.result _ _ q) h.blocks-are);
    }
