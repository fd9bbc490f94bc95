-- By whether the row is dirty; the slot found is that of its fingerprint: `slot_of_row`. Assumes nothing.
use mathlib.Core.Path.{◌≡◌, sym, ap, ◌∙◌}
use mathlib.Core.Bool.{true}
use Prim.Native.Nat.{ℕ}
use native.Mathlib.Omega.{arith}
use borrow.Author.Tests.{not-true}
use lib.ListN.{get_or}
use Rattle.paper.specs.Cache.{Box, slot_of}
use Rattle.paper.specs.Engine.{Fixed}
use Rattle.parts.specs.Asked.{slot_in}
use Rattle.parts.specs.Rep.{numbers_of, engine, Rep, no_row}
use Rattle.parts.specs.CopyLaws.{row-left, slot_of-below, slot_of_row, left-no}
use Rattle.std.proofs.Common.{rules}
use Rattle.parts.proofs.copy.flush_row.Goals as goal
use Rattle.parts.proofs.copy.flush_row.Goals.{After-slot_in-slot}

-- the slot found is that of the row's fingerprint
slot_is : (c : After-slot_in-slot)
    → (let a = c.args in
    (s : Box (Fixed 32) (Fixed a.b.size)) → Rep a.b a.disk.now a.flash.now a.addrs.now a.blocks.now s
    → c.slot_in-slot.result.0 ≡ slot_of (engine a.b) (get_or s.rows a.i no_row).fingerprint s.used)
slot_is c s h =
    let a = c.args in
    c.slot_in-slot.ensures ∙ ap (slot_in a.blocks.now a.b.slots) c.place_of.ensures
    ∙ slot_of_row (numbers_of a.b) a.b.blocks a.b.rows a.b.held a.b.slots a.addrs.now a.blocks.now s.rows s.free s.used h.rows_are h.blocks-are c.requires.i_lt_held.2 a.i c.requires.i_lt_held.0

pub returns-then-not-is_dirty : goal.returns-then-not-is_dirty
returns-then-not-is_dirty c =
    let a = c.args in
    record {
      upper_bound = omega arith;
      addrs_after = λ s h. row-left a.b a.disk.now a.flash.now a.addrs.now a.blocks.now s h (λ f. true) a.i c.requires.i_lt_held.0 (left-no _ true (sym c.is_dirty.ensures ∙ c.if-not-is_dirty.true));
    }

pub copy_row-requires : goal.copy_row-requires
copy_row-requires c =
    let slot_is : (let a = c.args in
    (s : Box (Fixed 32) (Fixed a.b.size)) → Rep a.b a.disk.now a.flash.now a.addrs.now a.blocks.now s
    → c.slot_in-slot.result.0 ≡ slot_of (engine a.b) (get_or s.rows a.i no_row).fingerprint s.used) = λ s h.
    let a = c.args in
    c.slot_in-slot.ensures ∙ ap (slot_in a.blocks.now a.b.slots) c.place_of.ensures
    ∙ slot_of_row (numbers_of a.b) a.b.blocks a.b.rows a.b.held a.b.slots a.addrs.now a.blocks.now s.rows s.free s.used h.rows_are h.blocks-are c.requires.i_lt_held.2 a.i c.requires.i_lt_held.0 in
    let a = c.args in
    let s = c.requires.lent_box.0 in
    let h = c.requires.lent_box.1 in
    let f = (get_or s.rows a.i no_row).fingerprint in
    record {
      i_lt_held = (c.requires.i_lt_held.0, rw (slot_is s h) (slot_of-below (numbers_of a.b) a.b.slots f s.used c.requires.i_lt_held.1 h.blocks-are.used-below), c.requires.i_lt_held.3.0, c.requires.i_lt_held.3.1);
      lent_box = c.requires.lent_box;
    }

pub returns : goal.returns
returns c =
    let slot_is : (let a = c.args in
    (s : Box (Fixed 32) (Fixed a.b.size)) → Rep a.b a.disk.now a.flash.now a.addrs.now a.blocks.now s
    → c.slot_in-slot.result.0 ≡ slot_of (engine a.b) (get_or s.rows a.i no_row).fingerprint s.used) = λ s h.
    let a = c.args in
    c.slot_in-slot.ensures ∙ ap (slot_in a.blocks.now a.b.slots) c.place_of.ensures
    ∙ slot_of_row (numbers_of a.b) a.b.blocks a.b.rows a.b.held a.b.slots a.addrs.now a.blocks.now s.rows s.free s.used h.rows_are h.blocks-are c.requires.i_lt_held.2 a.i c.requires.i_lt_held.0 in
    let a = c.args in
    record {
      upper_bound = c.copy_row.ensures.upper_bound;
      addrs_after = λ s h. c.copy_row.ensures.addrs_after s h (sym (slot_is s h));
    }
