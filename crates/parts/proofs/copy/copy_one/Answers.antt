-- The slot found is that of the row's fingerprint. Assumes nothing.
use mathlib.Core.Path.{◌≡◌, refl, sym, ◌∙◌}
use native.Mathlib.Omega.{arith}
use lib.ListN.{get_or}
use borrow.Author.Tests.{lt-ltb}
use Rattle.std.proofs.Common.{rules}
use Rattle.paper.specs.Cache.{Box, slot_of}
use Rattle.paper.specs.Engine.{Fixed}
use Rattle.parts.specs.Rep.{numbers_of, engine, Rep, no_row}
use Rattle.parts.specs.CopyLaws.{slot_of-below, slot_placed}
use Rattle.parts.proofs.copy.copy_one.Goals as goal
use Rattle.parts.proofs.copy.copy_one.Goals.{After-slot_in-slot}

slot_is : (c : After-slot_in-slot)
    → (let a = c.args in
    (s : Box (Fixed 32) (Fixed a.b.size)) → Rep a.b a.disk.now a.flash.now a.addrs.now a.blocks.now s
    → c.slot_in-slot.result.0 ≡ slot_of (engine a.b) (get_or s.rows a.i no_row).fingerprint s.used)
slot_is c s h =
    let a = c.args in
    let y = lt-ltb a.i a.b.held c.requires.i_lt_held.0 in
    c.slot_in-slot.ensures
    ∙ slot_placed (numbers_of a.b) a.b.slots a.blocks.now s.free s.used (get_or s.rows a.i no_row).fingerprint h.blocks-are
    c.place_of_row.result
    (c.place_of_row.ensures.by_index a.b.blocks a.b.rows s.rows s.free s.used h.rows_are h.blocks-are ∙ rw y refl)

pub copy_row-requires : goal.copy_row-requires
copy_row-requires c =
    let slot_is : (let a = c.args in
    (s : Box (Fixed 32) (Fixed a.b.size)) → Rep a.b a.disk.now a.flash.now a.addrs.now a.blocks.now s
    → c.slot_in-slot.result.0 ≡ slot_of (engine a.b) (get_or s.rows a.i no_row).fingerprint s.used) = λ s h.
    let a = c.args in
    let y = lt-ltb a.i a.b.held c.requires.i_lt_held.0 in
    c.slot_in-slot.ensures
    ∙ slot_placed (numbers_of a.b) a.b.slots a.blocks.now s.free s.used (get_or s.rows a.i no_row).fingerprint h.blocks-are
    c.place_of_row.result
    (c.place_of_row.ensures.by_index a.b.blocks a.b.rows s.rows s.free s.used h.rows_are h.blocks-are ∙ rw y refl) in
    let a = c.args in
    let s = c.requires.lent_box.0 in
    let h = c.requires.lent_box.1 in
    let f = (get_or s.rows a.i no_row).fingerprint in
    record {
      i_lt_held = (c.requires.i_lt_held.0, rw (slot_is s h) (slot_of-below (numbers_of a.b) a.b.slots f s.used c.requires.i_lt_held.1 h.blocks-are.used-below), c.requires.i_lt_held.2.0, c.requires.i_lt_held.2.1);
      lent_box = c.requires.lent_box;
    }

pub returns : goal.returns
returns c =
    let slot_is : (let a = c.args in
    (s : Box (Fixed 32) (Fixed a.b.size)) → Rep a.b a.disk.now a.flash.now a.addrs.now a.blocks.now s
    → c.slot_in-slot.result.0 ≡ slot_of (engine a.b) (get_or s.rows a.i no_row).fingerprint s.used) = λ s h.
    let a = c.args in
    let y = lt-ltb a.i a.b.held c.requires.i_lt_held.0 in
    c.slot_in-slot.ensures
    ∙ slot_placed (numbers_of a.b) a.b.slots a.blocks.now s.free s.used (get_or s.rows a.i no_row).fingerprint h.blocks-are
    c.place_of_row.result
    (c.place_of_row.ensures.by_index a.b.blocks a.b.rows s.rows s.free s.used h.rows_are h.blocks-are ∙ rw y refl) in
    record {
      upper_bound = c.copy_row.ensures.upper_bound;
      addrs_after = λ s h. c.copy_row.ensures.addrs_after s h (sym (slot_is s h));
    }
