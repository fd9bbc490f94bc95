use mathlib.Core.Path.{◌≡◌, refl, ap, ◌∙◌}
use Prim.Native.Nat.{◌≤◌, ◌-◌}
use native.Mathlib.Omega.{arith}
use lib.ListN.{length}
use Rattle.paper.specs.Cache.{Box, slot_of}
use Rattle.paper.specs.Engine.{Fixed}
use Rattle.parts.specs.Rep.{Rep, Copied, copied_rows, part_box, engine}
use native.Mathlib.Nat.{le_antisymm}
use native.Mathlib.Numerals.{add-one}
use Rattle.parts.proofs.Looped.{rep-part, part_step, part_none, used-part}
use Rattle.parts.proofs.copy.clean_rows.Goals as goal

pub loop-i-init : goal.loop-i-init
loop-i-init c =
    let a = c.args in
    (omega arith, omega arith, refl, refl, λ s h v e k. part_none a.b ((engine a.b).same v) a.disk.now a.flash.now a.addrs.now a.blocks.now s h)

pub clean_row-count-requires : goal.clean_row-count-requires
clean_row-count-requires c =
    let a = c.args in
    let q = c.requires.lent_with in
    let l = c.loop-i in
    record {
      i_lt_held = omega arith;
      lent_box = (part_box a.b ((engine a.b).same q.1) q.0 l.i, rep-part a.b ((engine a.b).same q.1) a.disk.now a.flash.now a.addrs.now a.blocks.now q.0 q.2 l.i l.count l.disk l.addrs (l.invariant.4 q.0 q.2 q.1 q.3 q.4));
    }

pub loop-i-preserved : goal.loop-i-preserved
loop-i-preserved c =
    let a = c.args in
    let l = c.loop-i in
    let f = c.clean_row-count in (
      omega arith,
      omega arith,
      omega arith,
      omega arith,
      λ s h v e k.
          rw add-one (part_step a.b ((engine a.b).same v) a.disk.now a.flash.now a.addrs.now a.blocks.now s h l.i l.count l.disk l.addrs (l.invariant.4 s h v e k) c.loop-i-test.true f.result _ _
          (f.ensures.addrs_after (part_box a.b ((engine a.b).same v) s l.i) (rep-part a.b ((engine a.b).same v) a.disk.now a.flash.now a.addrs.now a.blocks.now s h l.i l.count l.disk l.addrs (l.invariant.4 s h v e k)) v e (used-part a.b ((engine a.b).same v) s l.i v ∙ k))),
    )

pub returns : goal.returns
returns c =
    let a = c.args in
    let l = c.loop-i in
    record {
      upper_bound = omega arith;
      addrs_after = λ s h v e k. l.invariant.4 s h v e k ∙ ap (copied_rows a.b ((engine a.b).same v) s) (le_antisymm l.invariant.0 c.loop-i-test.false);
    }
