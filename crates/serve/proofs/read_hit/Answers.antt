-- The block copied is that of the row's fingerprint; the moves are the step's: `hit-step`. Assumes nothing.
use mathlib.Core.Path.{◌≡◌, refl, sym, ap, ap₂, ◌∙◌}
use mathlib.Core.Bool.{true}
use mathlib.Core.List.{List}
use mathlib.Core.Option.{some}
use Prim.Native.Nat.{ℕ, ◌<◌, ◌-◌}
use native.Mathlib.Omega.{arith}
use lib.ListN.{get_or}
use Rattle.tables.specs.Records.{Seat, bytes2, address_row, address_bytes}
use Rattle.tables.specs.Operations.{row_added, row_out}
use Rattle.paper.specs.Cache.{hit, block_of, step}
use Rattle.paper.specs.Lent.{bit}
use Rattle.parts.specs.Rep.{numbers_of, no_row, engine}
use Rattle.parts.specs.MoveLaws.{fp-is, dirty-is, seat-is}
use Rattle.parts.specs.CopyLaws.{parts-length, block-ends, part-block, slot-some, slot_of-below}
use Rattle.step.specs.Steps.{asks}
use Rattle.serve.specs.ServeLaws.{answer-is, hit-is}
use Rattle.serve.specs.HitLaws.{hit-step}
use Rattle.std.proofs.Common.{rules}
use Rattle.serve.proofs.read_hit.Goals as goal

pub in_slot-requires : goal.in_slot-requires
in_slot-requires c =
    let a = c.args in
    let p = c.requires.i_lt_held in
    let q = c.requires.by_index in
    let f = (get_or q.1.rows a.i no_row).fingerprint in
    rw (parts-length a.b.size a.b.slots a.flash.now q.1.flash q.2.flash-is) (block-ends c.slot_at-slot.result.0 a.b.slots a.b.size (rw (slot-some (numbers_of a.b) a.b.slots a.blocks.now q.1.free q.1.used f q.2.blocks-are a.j q.3.place q.3.is-cached c.slot_at-slot.result.0 c.slot_at-slot.ensures) (slot_of-below (numbers_of a.b) a.b.slots f q.1.used p.2.1 q.2.blocks-are.used-below)))

pub renew-requires : goal.renew-requires
renew-requires c =
    let p = c.requires.i_lt_held in
    (p.0, p.1, c.fp_at-g.ensures.0, p.2.5)

pub returns : goal.returns
returns c =
    let a = c.args in
    let p = c.requires.i_lt_held in
    let u = c.renew in
    record {
      flashed_bound = (omega arith, omega arith);
      by_index_2 = λ disk s y lent h sd q.
          let f = (get_or s.rows a.i no_row).fingerprint in
          let w = (get_or s.rows a.i no_row).dirty in
          let z = (get_or s.rows a.i no_row).seat in
          let x = block_of (engine a.b) f s.used s.flash in
          let k = slot-some (numbers_of a.b) a.b.slots a.blocks.now s.free s.used f h.blocks-are a.j q.place q.is-cached c.slot_at-slot.result.0 c.slot_at-slot.ensures in
          let kb : c.slot_at-slot.result.0 < a.b.slots = rw k (slot_of-below (numbers_of a.b) a.b.slots f s.used p.2.1 h.blocks-are.used-below) in
          let ex = sym (c.copy_from_slice.ensures.after ∙ c.in_slot.ensures.0 ∙ part-block a.b.size a.b.slots a.flash.now s.flash h.flash-is c.slot_at-slot.result.0 (engine a.b).blank kb ∙ ap (λ (y : ℕ). (get_or s.flash y (engine a.b).blank).0) k) in
          let ef = sym (fp-is a.b.blocks a.b.rows a.b.held a.addrs.now s.rows h.rows_are a.i p.0 no_row) ∙ sym c.fp_at-g.ensures.1 in
          let ed = c.dirty_at-dirty.ensures ∙ ap bit (dirty-is a.b.blocks a.b.rows a.b.held a.addrs.now s.rows h.rows_are a.i p.0 no_row) in
          let ez = c.seat_at-seat.ensures ∙ seat-is a.b.blocks a.b.rows a.b.held a.addrs.now s.rows h.rows_are a.i p.0 no_row in
          let row : List ℕ → ℕ → Seat → List ℕ
          = λ y v u. row_added (a.b.held - 1) (address_bytes (address_row a.a.0 y v u)) (row_out a.b.held a.i a.addrs.now) in
          let ea = u.ensures.addrs_after ∙ ap₂ {C = List ℕ} (λ y v. row y v (bytes2 c.seat_at-seat.result)) (sym ef) ed ∙ ap (row f.0 (bit w)) ez in
          answer-is a.b lent hit (some x) 0 (step (engine a.b) a.b.rows s (asks a.a.0 f x w z)) true a.b.held 0 0 0 _ _ _ _ _
          (hit-step a.b disk a.flash.now a.addrs.now a.blocks.now s h sd p.2.0 a.a.0 a.i a.j q w z x _ _ ea u.ensures.blocks_after) refl refl (sym ex)
          ∙ hit-is a.b disk a.flash.now a.addrs.now a.blocks.now s h a.a.0 lent y a.i a.j q;
    }
