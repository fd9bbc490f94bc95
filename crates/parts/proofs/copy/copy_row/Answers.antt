-- By whether the row is dirty; its address is in its range, so the copy fits. Assumes nothing.
use borrow.Author.Tests.{not-true, not-false}
use mathlib.Core.Path.{refl, sym, ◌∙◌}
use mathlib.Core.Bool.{true}
use Prim.Native.Nat.{◌+◌, ◌*◌, ◌≤◌}
use native.Mathlib.Omega.{arith}
use lib.ListN.{length}
use Rattle.parts.specs.CopyLaws.{row-left, row_copied, copy-fits, both_yes, left-no}
use Rattle.std.proofs.Common.{rules}
use Rattle.parts.proofs.copy.copy_row.Goals as goal
use Rattle.parts.proofs.copy.copy_row.Goals.{After-address_at-a}

-- the block is there, and so is its place on the disk
fits : (c : After-address_at-a)
    → (let a = c.args in
    (a.slot.0 * a.b.size + a.b.size ≤ length a.flash.now) × (c.address_at-a.result.0 * a.b.size + a.b.size ≤ length a.disk.now))
fits c =
    let a = c.args in
    copy-fits a.b a.disk.now a.flash.now a.addrs.now a.blocks.now c.requires.lent_box.0 c.requires.lent_box.1 a.i c.requires.i_lt_held.0 c.address_at-a.result.0 a.slot.0 c.address_at-a.ensures c.requires.i_lt_held.1

pub returns-then-not-is_dirty : goal.returns-then-not-is_dirty
returns-then-not-is_dirty c =
    let a = c.args in
    record {
      upper_bound = omega arith;
      addrs_after = λ s h k. row-left a.b a.disk.now a.flash.now a.addrs.now a.blocks.now s h (λ f. true) a.i c.requires.i_lt_held.0 (left-no _ true (sym c.is_dirty.ensures ∙ c.if-not-is_dirty.true));
    }

pub in_slot-requires : goal.in_slot-requires
in_slot-requires c = (fits c).0

pub put_address-requires : goal.put_address-requires
put_address-requires c =
    let fits : (let a = c.args in
    (a.slot.0 * a.b.size + a.b.size ≤ length a.flash.now) × (c.address_at-a.result.0 * a.b.size + a.b.size ≤ length a.disk.now)) =
    let a = c.args in
    copy-fits a.b a.disk.now a.flash.now a.addrs.now a.blocks.now c.requires.lent_box.0 c.requires.lent_box.1 a.i c.requires.i_lt_held.0 c.address_at-a.result.0 a.slot.0 c.address_at-a.ensures c.requires.i_lt_held.1 in
    (c.in_slot.ensures.1, fits.1)

pub returns : goal.returns
returns c =
    let a = c.args in
    record {
      upper_bound = omega arith;
      addrs_after = λ s h k.
          rw (c.set_clean.ensures, c.put_address.ensures, c.in_slot.ensures.0)
          (row_copied a.b a.disk.now a.flash.now a.addrs.now a.blocks.now s h (λ f. true) a.i c.requires.i_lt_held.0 (both_yes _ true (sym c.is_dirty.ensures ∙ c.if-not-is_dirty.false) refl)
          c.address_at-a.result.0 a.slot.0 c.address_at-a.ensures (sym k) c.requires.i_lt_held.1);
    }
