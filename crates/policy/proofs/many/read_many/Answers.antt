-- A refused folder read keeps all. Else the lent bytes are those of a sound box, and what the turns leave is the paper's. Assumes nothing.
use Rattle.std.specs.Prelude.{length}
use Rattle.std.proofs.Common.{rules, arith, sym, ap, ◌∙◌}
use Rattle.refusals.specs.Given.{counters_of}
use Rattle.policy.specs.Contract.{told_many}
use Rattle.policy.specs.CallLaws.{all-bytes}
use Rattle.policy.specs.ManyLaws.{found, sound, within, keep, fitting, finish}
use Rattle.policy.proofs.many.read_many.Goals as goal

pub returns-in-Err : goal.returns-in-Err
returns-in-Err c =
    let a = c.args in
    ap (λ r. told_many r a.disk.now a.flash.now a.addresses.now a.blocks.now a.buffer.now) c.refused.ensures
    ∙ keep a.b a.disk.now a.flash.now a.addresses.now a.blocks.now a.c a.asked.now a.buffer.now c.in-Err.r c.in-Err.ensures

pub serve_many-t-requires : goal.serve_many-t-requires
serve_many-t-requires c =
    let a = c.args in
    let z = sym c.in_default.ensures in
    let k = counters_of a.c in
    let x = all-bytes a.addresses.now (λ i. omega (arith, c.slice_known-3-1.given i)) in
    let y = all-bytes a.blocks.now (λ i. omega (arith, c.slice_known-4-1.given i)) in
    let g = found a.b a.disk.now a.flash.now a.addresses.now a.blocks.now k a.asked.now a.buffer.now z in
    record {
      fits = (g.fits, g.count, g.long, within a.b a.disk.now a.flash.now a.addresses.now a.blocks.now k a.asked.now a.buffer.now z);
      lent_sound = sound a.b a.disk.now a.flash.now a.addresses.now a.blocks.now k a.asked.now a.buffer.now z x y;
    }

pub batched-requires : goal.batched-requires
batched-requires c =
    let a = c.args in
    let v = c.serve_many-t in
    let z = sym c.in_default.ensures in
    let k = counters_of a.c in
    let x = all-bytes a.addresses.now (λ i. omega (arith, c.slice_known-3-1.given i)) in
    let y = all-bytes a.blocks.now (λ i. omega (arith, c.slice_known-4-1.given i)) in
    let s = sound a.b a.disk.now a.flash.now a.addresses.now a.blocks.now k a.asked.now a.buffer.now z x y in
    let g = found a.b a.disk.now a.flash.now a.addresses.now a.blocks.now k a.asked.now a.buffer.now z in
    let w = v.ensures.turned s.0 k s.1 s.2 in
    fitting a.c (length a.asked.now) v.result.hits v.result.flashed v.result.primary g.counters g.count w.few.0 w.few.1 w.few.2

pub returns : goal.returns
returns c =
    let a = c.args in
    let v = c.serve_many-t in
    let z = sym c.in_default.ensures in
    let k = counters_of a.c in
    let x = all-bytes a.addresses.now (λ i. omega (arith, c.slice_known-3-1.given i)) in
    let y = all-bytes a.blocks.now (λ i. omega (arith, c.slice_known-4-1.given i)) in
    let s = sound a.b a.disk.now a.flash.now a.addresses.now a.blocks.now k a.asked.now a.buffer.now z x y in
    let w = v.ensures.turned s.0 k s.1 s.2 in
    rw c.batched.ensures (finish a.b a.disk.now a.flash.now a.addresses.now a.blocks.now a.c a.asked.now a.buffer.now z v.result _ _ _ _ _ v.ensures.buffer_len_unchanged w)
