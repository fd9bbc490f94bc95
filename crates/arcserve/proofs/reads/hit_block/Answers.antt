-- The block copied is that of the row's fingerprint. Assumes nothing.
use mathlib.Core.Path.{ap, ◌∙◌}
use Prim.Native.Nat.{ℕ, ◌<◌}
use native.Mathlib.Omega.{arith}
use lib.ListN.{get_or}
use Rattle.parts.specs.Rep.{numbers_of, no_row, engine}
use Rattle.parts.specs.CopyLaws.{parts-length, block-ends, part-block, slot-some, slot_of-below}
use Rattle.arcserve.proofs.reads.hit_block.Goals as goal

pub in_slot-requires : goal.in_slot-requires
in_slot-requires c =
    let a = c.args in
    let q = c.requires.by_index in
    let f = (get_or q.2.rows q.4 no_row).fingerprint in
    let d1 : 0 < a.b.slots = omega (arith, c.requires.j_lt_slots.0) in
    rw (parts-length a.b.size a.b.slots a.flash.now q.2.flash q.5.flash-is) (block-ends c.slot_at-slot.result.0 a.b.slots a.b.size
    (rw (slot-some (numbers_of a.b) a.b.slots a.blocks.now q.2.free q.2.used f q.5.blocks-are a.j q.6.place q.6.is-cached
    c.slot_at-slot.result.0 c.slot_at-slot.ensures) (slot_of-below (numbers_of a.b) a.b.slots f q.2.used d1 q.5.blocks-are.used-below)))

pub returns : goal.returns
returns c =
    let a = c.args in
    let at_slot = c.slot_at-slot in
    let d1 : 0 < a.b.slots = omega (arith, c.requires.j_lt_slots.0) in
    λ disk addrs s n i h q.
    let f = (get_or s.rows i no_row).fingerprint in
    let k = slot-some (numbers_of a.b) a.b.slots a.blocks.now s.free s.used f h.blocks-are a.j q.place q.is-cached
    at_slot.result.0 at_slot.ensures in
    let kb : at_slot.result.0 < a.b.slots = rw k (slot_of-below (numbers_of a.b) a.b.slots f s.used d1 h.blocks-are.used-below) in
    c.copy_from_slice.ensures.after ∙ c.in_slot.ensures.0
    ∙ part-block a.b.size a.b.slots a.flash.now s.flash h.flash-is at_slot.result.0 (engine a.b).blank kb
    ∙ ap (λ (y : ℕ). (get_or s.flash y (engine a.b).blank).0) k
