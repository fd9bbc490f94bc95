-- Where the refusal is 0 the lent bytes are those of a sound box and its lists, and what the step leaves is the paper's call. Assumes nothing.
use mathlib.Core.Path.{refl, sym, ap, ◌∙◌}
use mathlib.Core.Option.{some}
use Prim.Native.Nat.{ℕ}
use native.Mathlib.Omega.{arith}
use lib.ListN.{length-replicate}
use Rattle.tables.specs.SoundLaws.{filled-with}
use Rattle.paper.specs.Cache.{hit, miss}
use Rattle.paper.specs.Lent.{Ask, call_of}
use Rattle.parts.specs.Rep.{engine}
use Rattle.policy.specs.CallLaws.{all-bytes, said-is, hit-counted, read-block, one-le}
use Rattle.arcrefusals.specs.Given.{sizes_of, base_of}
use Rattle.arccalls.specs.Contract.{arc_told}
use Rattle.arccalls.specs.BaseLaws.{arc-refused}
use Rattle.arcaccess.specs.AccessLaws.{outcome, box-sound, box-held, lists-held, accesses, counts-fit, most-rows}
use Rattle.arcaccess.specs.AccessLaws.{none_over, small-numbers, access-told, read-says}
use Rattle.arcaccess.proofs.read.Goals as goal

pub arc_access-requires : goal.arc_access-requires
arc_access-requires c = (length-replicate {A = ℕ} 4353 0, filled-with 4353 0)

pub returns-in-Err : goal.returns-in-Err
returns-in-Err c =
    let a = c.args in
    ap (λ r. arc_told r a.disk.now a.flash.now a.addresses.now a.blocks.now a.lists.now (some a.block.now)) c.refused.ensures
    ∙ arc-refused a.a a.disk.now a.flash.now a.addresses.now a.blocks.now a.lists.now a.c
    (Ask.read a.asked.0 a.block.now) c.in-Err.r c.in-Err.ensures.value _ refl

pub base_of-b-requires : goal.base_of-b-requires
base_of-b-requires c =
    let a = c.args in
    small-numbers a.a a.disk.now a.flash.now a.addresses.now a.blocks.now a.lists.now a.c (Ask.read a.asked.0 a.block.now)
    (sym c.in_default.ensures.value)

pub serve_read-s-requires : goal.serve_read-s-requires
serve_read-s-requires c =
    let a = c.args in
    let q = Ask.read a.asked.0 a.block.now in
    let e = sym c.in_default.ensures.value in
    let x = all-bytes a.addresses.now (λ i. omega (arith, c.slice_known-3-1.given i)) in
    let y = all-bytes a.blocks.now (λ i. omega (arith, c.slice_known-4-1.given i)) in
    record {
      arc_access = rw c.base_of-b.ensures (accesses a.a a.disk.now a.flash.now a.addresses.now a.blocks.now a.lists.now
          a.c q e x y a.asked.0 a.block.now refl refl);
      lent_arc = rw c.base_of-b.ensures (
        _,
        _,
        box-held a.a a.disk.now a.flash.now a.addresses.now a.blocks.now a.lists.now a.c q e x y,
        lists-held a.a a.disk.now a.flash.now a.addresses.now a.blocks.now a.lists.now a.c q e (λ i. omega (arith, c.slice_known-5-1.given i)),
        box-sound a.a a.disk.now a.flash.now a.addresses.now a.blocks.now a.lists.now a.c q e,
      );
      indexed = rw c.base_of-b.ensures (c.in_default.ensures.indexed);
    }

pub accessed-requires : goal.accessed-requires
accessed-requires c =
    let a = c.args in
    let q = Ask.read a.asked.0 a.block.now in
    let e = sym c.in_default.ensures.value in
    let r = c.serve_read-s in
    let f0 = r.ensures.few in
    let f = rw c.base_of-b.ensures at f0 in
    counts-fit a.a a.disk.now a.flash.now a.addresses.now a.blocks.now a.lists.now a.c q e
    (none_over a.a a.disk.now a.flash.now a.addresses.now a.blocks.now a.lists.now a.c q e) 1 c.one_if.result r.result.running.flashed
    r.result.running.primary (omega arith) (one-le r.result.yes c.one_if.result c.one_if.ensures) f.0 f.1
    (most-rows a.a a.disk.now a.flash.now a.addresses.now a.blocks.now a.lists.now a.c q e)

pub returns : goal.returns
unfolding call_of
returns c =
    let a = c.args in
    let q = Ask.read a.asked.0 a.block.now in
    let e = sym c.in_default.ensures.value in
    let x = all-bytes a.addresses.now (λ i. omega (arith, c.slice_known-3-1.given i)) in
    let y = all-bytes a.blocks.now (λ i. omega (arith, c.slice_known-4-1.given i)) in
    let l = a.block.now in
    let r = c.serve_read-s in
    let f0 = r.ensures.serves in
    let f = rw c.base_of-b.ensures at f0 in
    let s = f _ _ l (box-held a.a a.disk.now a.flash.now a.addresses.now a.blocks.now a.lists.now a.c q e x y)
    (lists-held a.a a.disk.now a.flash.now a.addresses.now a.blocks.now a.lists.now a.c q e (λ i. omega (arith, c.slice_known-5-1.given i)))
    (box-sound a.a a.disk.now a.flash.now a.addresses.now a.blocks.now a.lists.now a.c q e) in
    let o = outcome a.a a.disk.now a.flash.now a.addresses.now a.blocks.now a.lists.now a.c q e in
    let says = read-says (engine (base_of a.a)) (sizes_of a.a) _ _ a.asked.0 in
    rw c.accessed.ensures
    (access-told a.a a.disk.now a.flash.now a.addresses.now a.blocks.now a.lists.now a.c q e c.read_word.result r.result.running.held
    r.result.running.flashed r.result.running.primary 1 c.one_if.result r.result.running.sizes _ _ _ _ _ _ s.box s.names
    (c.read_word.ensures ∙ said-is o.outcome.word hit miss r.result.yes says s.word) s.flashed s.primary refl
    (c.one_if.ensures ∙ hit-counted o.outcome.word r.result.yes says s.word) (ap some s.returned ∙ read-block a.asked.0 l o.outcome.block) refl)
