-- As a read, with the word of a write. Assumes nothing.
use mathlib.Core.Path.{sym, ap, ◌∙◌}
use mathlib.Core.Option.{some}
use Prim.Native.Nat.{ℕ}
use native.Mathlib.Omega.{arith}
use lib.ListN.{length-replicate}
use Rattle.tables.specs.SoundLaws.{filled-with}
use Rattle.paper.specs.Engine.{fit}
use Rattle.policy.specs.Contract.{ask_of}
use Rattle.policy.specs.CallLaws.{all-bytes, fit_is, asks_write}
use Rattle.arccalls.specs.Contract.{arc_told}
use Rattle.arccalls.specs.BaseLaws.{arc-refused}
use Rattle.arcaccess.specs.AccessLaws.{box-sound, box-held, lists-held, accesses, counts-fit, most-rows, none_over, small-numbers}
use Rattle.arcaccess.specs.AccessLaws.{asked-as-read, written_as}
use Rattle.arcaccess.proofs.write.Goals as goal

pub arc_access-requires : goal.arc_access-requires
arc_access-requires c = (length-replicate {A = ℕ} 4353 0, filled-with 4353 0)

pub returns-in-Err : goal.returns-in-Err
returns-in-Err c =
    let a = c.args in
    let q = ask_of a.kind a.asked.0 a.block.now a.seat in
    ap (λ r. arc_told r a.disk.now a.flash.now a.addresses.now a.blocks.now a.lists.now (some a.block.now)) c.refused.ensures
    ∙ arc-refused a.a a.disk.now a.flash.now a.addresses.now a.blocks.now a.lists.now a.c q c.in-Err.r
    (c.in-Err.ensures.value ∙ asked-as-read a.kind _ _ a.asked.0 a.block.now a.seat) _
    (sym (asks_write a.kind a.a.size a.asked.0 a.seat a.block.now).block)

pub base_of-b-requires : goal.base_of-b-requires
base_of-b-requires c =
    let a = c.args in
    small-numbers a.a a.disk.now a.flash.now a.addresses.now a.blocks.now a.lists.now a.c
    (ask_of a.kind a.asked.0 a.block.now a.seat)
    (sym (asked-as-read a.kind _ _ a.asked.0 a.block.now a.seat) ∙ sym c.in_default.ensures.value)

pub serve_write-s-requires : goal.serve_write-s-requires
serve_write-s-requires c =
    let a = c.args in
    let q = ask_of a.kind a.asked.0 a.block.now a.seat in
    let e = sym (asked-as-read a.kind _ _ a.asked.0 a.block.now a.seat) ∙ sym c.in_default.ensures.value in
    let k = asks_write a.kind a.a.size a.asked.0 a.seat a.block.now in
    let x = all-bytes a.addresses.now (λ i. omega (arith, c.slice_known-3-1.given i)) in
    let y = all-bytes a.blocks.now (λ i. omega (arith, c.slice_known-4-1.given i)) in
    record {
      arc_access = rw c.base_of-b.ensures (accesses a.a a.disk.now a.flash.now a.addresses.now a.blocks.now a.lists.now a.c q e x y a.asked.0 a.block.now
          k.address k.block);
      lent_arc = rw c.base_of-b.ensures (
        _,
        _,
        box-held a.a a.disk.now a.flash.now a.addresses.now a.blocks.now a.lists.now a.c q e x y,
        lists-held a.a a.disk.now a.flash.now a.addresses.now a.blocks.now a.lists.now a.c q e
            (λ i. omega (arith, c.slice_known-5-1.given i)),
        box-sound a.a a.disk.now a.flash.now a.addresses.now a.blocks.now a.lists.now a.c q e,
      );
      indexed = rw c.base_of-b.ensures (c.in_default.ensures.indexed);
    }

pub accessed-requires : goal.accessed-requires
accessed-requires c =
    let a = c.args in
    let q = ask_of a.kind a.asked.0 a.block.now a.seat in
    let e = sym (asked-as-read a.kind _ _ a.asked.0 a.block.now a.seat) ∙ sym c.in_default.ensures.value in
    let r = c.serve_write-s in
    let f0 = r.ensures.few in
    let f = rw c.base_of-b.ensures at f0 in
    counts-fit a.a a.disk.now a.flash.now a.addresses.now a.blocks.now a.lists.now a.c q e
    ((asks_write a.kind a.a.size a.asked.0 a.seat a.block.now).counted _
    ∙ none_over a.a a.disk.now a.flash.now a.addresses.now a.blocks.now a.lists.now a.c q e) 0 0 r.result.running.flashed
    r.result.running.primary (omega arith) (omega arith) f.0 f.1
    (most-rows a.a a.disk.now a.flash.now a.addresses.now a.blocks.now a.lists.now a.c q e)

pub returns : goal.returns
returns c =
    let a = c.args in
    let q = ask_of a.kind a.asked.0 a.block.now a.seat in
    let e = sym (asked-as-read a.kind _ _ a.asked.0 a.block.now a.seat) ∙ sym c.in_default.ensures.value in
    let l = a.block.now in
    let k = asks_write a.kind a.a.size a.asked.0 a.seat l in
    let x = all-bytes a.addresses.now (λ i. omega (arith, c.slice_known-3-1.given i)) in
    let y = all-bytes a.blocks.now (λ i. omega (arith, c.slice_known-4-1.given i)) in
    let r = c.serve_write-s in
    let f0 = r.ensures.arc_wrote in
    let f = rw c.base_of-b.ensures at f0 in
    let long = (accesses a.a a.disk.now a.flash.now a.addresses.now a.blocks.now a.lists.now a.c q e x y a.asked.0 l k.address k.block).2 in
    let s = f _ _ (fit a.a.size l) (box-held a.a a.disk.now a.flash.now a.addresses.now a.blocks.now a.lists.now a.c q e x y)
    (lists-held a.a a.disk.now a.flash.now a.addresses.now a.blocks.now a.lists.now a.c q e (λ i. omega (arith, c.slice_known-5-1.given i)))
    (box-sound a.a a.disk.now a.flash.now a.addresses.now a.blocks.now a.lists.now a.c q e) (fit_is a.a.size l long) in
    rw c.accessed.ensures
    (written_as a.a a.disk.now a.flash.now a.addresses.now a.blocks.now a.lists.now a.c a.kind a.asked.0 l a.seat e
    c.write_word.result r.result _ _ _ _ _ s c.write_word.ensures)
