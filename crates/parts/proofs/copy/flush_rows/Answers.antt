use mathlib.Core.Path.{◌≡◌, refl, sym, ap, ◌∙◌}
use mathlib.Core.Bool.{true}
use mathlib.Core.List.{List}
use Prim.Native.Nat.{ℕ, ◌≤◌, ◌<◌, ◌-◌}
use native.Mathlib.Omega.{arith}
use native.Mathlib.Nat.{le_antisymm}
use native.Mathlib.Numerals.{add-one}
use lib.ListN.{length, take}
use Rattle.paper.specs.Cache.{Box, dirty_rows, reach}
use Rattle.paper.specs.Engine.{Fixed}
use Rattle.paper.proofs.PartlyLaws.{reach-le, reach-more, reach-stop}
use Rattle.parts.specs.declared.BoxRecord.{BoxRecord}
use Rattle.parts.specs.Rep.{Rep, Copied, copied_rows, part_box, engine}
use Rattle.parts.proofs.Looped.{rep-part, part_step, part_none}
use Rattle.parts.proofs.copy.flush_rows.Goals as goal

count_of : (b : BoxRecord) (s : Box (Fixed 32) (Fixed b.size)) (i count : ℕ) (disk addrs : List ℕ)
    → ◌≡◌ {A = Copied} (record { count = count; disk = disk; addrs = addrs }) (copied_rows b (λ f. true) s i)
    → count ≡ dirty_rows (engine b) (take i s.rows)
unfolding copied_rows
count_of b s i count disk addrs e = ap (λ (x : Copied). x.count) e

pub loop-i-init : goal.loop-i-init
loop-i-init c =
    let a = c.args in (
      omega arith,
      omega arith,
      refl,
      refl,
      (λ s h. part_none a.b (λ f. true) a.disk.now a.flash.now a.addrs.now a.blocks.now s h),
      (λ s h. omega arith),
      omega arith,
    )

pub flush_row-count-requires : goal.flush_row-count-requires
flush_row-count-requires c =
    let a = c.args in
    let s = c.requires.lent_box.0 in
    let h = c.requires.lent_box.1 in
    let l = c.loop-i in
    record {
      i_lt_held = (c.loop-i-test.true, c.requires.slots_nonzero.0, c.requires.slots_nonzero.1, (c.requires.slots_nonzero.2.0, l.invariant.3 ∙ c.requires.slots_nonzero.2.1, c.requires.slots_nonzero.2.2));
      lent_box = (part_box a.b (λ f. true) s l.i, rep-part a.b (λ f. true) a.disk.now a.flash.now a.addrs.now a.blocks.now s h l.i l.count l.disk l.addrs (l.invariant.4 s h));
      indexed = c.requires.indexed;
    }

pub loop-i-preserved : goal.loop-i-preserved
loop-i-preserved c =
    let a = c.args in
    let l = c.loop-i in
    let f = c.flush_row-count in (
      omega arith,
      omega arith,
      omega arith,
      omega arith,
      (λ s h.
          let q = rep-part a.b (λ f. true) a.disk.now a.flash.now a.addrs.now a.blocks.now s h l.i l.count l.disk l.addrs (l.invariant.4 s h) in
          rw add-one (part_step a.b (λ f. true) a.disk.now a.flash.now a.addrs.now a.blocks.now s h l.i l.count l.disk l.addrs
          (l.invariant.4 s h) c.loop-i-test.true f.result _ _ (f.ensures.addrs_after (part_box a.b (λ f. true) s l.i) q))),
      (λ s h.
          let n = count_of a.b s l.i l.count l.disk l.addrs (l.invariant.4 s h) in
          let less : dirty_rows (engine a.b) (take l.i s.rows) < a.k = omega (arith, n, c.if-k-count.false) in
          rw add-one (reach-more (engine a.b) a.k l.i s.rows (omega (arith, h.rows_are.count, c.loop-i-test.true)) less (l.invariant.5 s h))),
      omega (arith, f.ensures.upper_bound, c.if-k-count.false),
    )

-- k of the rows before row i were dirty
pub returns-then-k-count : goal.returns-then-k-count
returns-then-k-count c =
    let a = c.args in
    let l = c.loop-i in
    record {
      upper_bound = omega arith;
      addrs_after = λ s h.
          let n = count_of a.b s l.i l.count l.disk l.addrs (l.invariant.4 s h) in
          l.invariant.4 s h
          ∙ ap (copied_rows a.b (λ f. true) s)
          (reach-stop (engine a.b) a.k l.i s.rows (sym n ∙ le_antisymm l.invariant.6 c.if-k-count.true) (l.invariant.5 s h));
    }

-- there is no row more
pub returns : goal.returns
returns c =
    let a = c.args in
    let l = c.loop-i in
    record {
      upper_bound = omega arith;
      addrs_after = λ s h.
          l.invariant.4 s h
          ∙ ap (copied_rows a.b (λ f. true) s)
          (le_antisymm (l.invariant.5 s h) (omega (arith, reach-le (engine a.b) a.k s.rows, h.rows_are.count, c.loop-i-test.false)));
    }
