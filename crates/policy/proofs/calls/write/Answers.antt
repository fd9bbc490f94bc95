-- A refused write keeps all. Else the lent bytes are those of a sound box, and what the steps leave is the paper's call. Assumes nothing.
use Rattle.std.specs.Prelude.{ℕ}
use Rattle.std.proofs.Common.{rules, arith, refl, sym, ap, ◌∙◌}
use Rattle.std.proofs.Math.Option.{some}
use Rattle.std.proofs.lemmas.List.{length-replicate}
use Rattle.tables.specs.SoundLaws.{filled-with}
use Rattle.paper.specs.Engine.{fit}
use Rattle.paper.proofs.CallLaws.{served-finds}
use Rattle.parts.specs.Rep.{numbers_of}
use Rattle.refusals.specs.Given.{counters_of, lent}
use Rattle.policy.specs.Contract.{told, ask_of}
use Rattle.policy.specs.CallLaws.{all-bytes, access, sound, disk-fits, keep, fitting, fit_is}
use Rattle.policy.specs.CallLaws.{all-bytes, fit_is, access, sound, disk-fits, keep, fitting, asks_write}
use Rattle.policy.proofs.CallLaws.{written}
use Rattle.policy.proofs.calls.write.Goals as goal

pub of_access-requires : goal.of_access-requires
of_access-requires c = (length-replicate {A = ℕ} 4353 0, filled-with 4353 0)

pub returns-in-Err : goal.returns-in-Err
returns-in-Err c =
    let a = c.args in
    let f = asks_write a.kind a.b.size a.a.0 a.seat a.block.now in
    ap (λ r. told r a.disk.now a.flash.now a.addresses.now a.blocks.now (some a.block.now)) c.refused.ensures
    ∙ keep a.b a.disk.now a.flash.now a.addresses.now a.blocks.now a.c (ask_of a.kind a.a.0 a.block.now a.seat) c.in-Err.r (c.in-Err.ensures.value ∙ f.refusal_is _ _) _ (sym f.block)

pub serve_write-s-requires : goal.serve_write-s-requires
serve_write-s-requires c =
    let a = c.args in
    let q = ask_of a.kind a.a.0 a.block.now a.seat in
    let k = counters_of a.c in
    let f = asks_write a.kind a.b.size a.a.0 a.seat a.block.now in
    let z = sym (f.refusal_is _ _) ∙ sym c.in_default.ensures.value in
    let x = all-bytes a.addresses.now (λ i. omega (arith, c.slice_known-3-1.given i)) in
    let y = all-bytes a.blocks.now (λ i. omega (arith, c.slice_known-4-1.given i)) in
    record {
      disk_len = (disk-fits a.b a.disk.now a.flash.now a.addresses.now a.blocks.now k q z, access a.b a.disk.now a.flash.now a.addresses.now a.blocks.now k q z x y a.a.0 a.block.now f.address f.block);
      lent_sound = sound a.b a.disk.now a.flash.now a.addresses.now a.blocks.now k q z x y;
      indexed = c.in_default.ensures.indexed;
    }

pub answered-requires : goal.answered-requires
answered-requires c =
    let a = c.args in
    let f = asks_write a.kind a.b.size a.a.0 a.seat a.block.now in
    let z = sym (f.refusal_is _ _) ∙ sym c.in_default.ensures.value in
    let o = served-finds (numbers_of a.b) (lent a.b a.disk.now a.flash.now a.addresses.now a.blocks.now (counters_of a.c)) (ask_of a.kind a.a.0 a.block.now a.seat) z in
    let s = c.serve_write-s in
    fitting a.c a.b.rows 0 0 s.result.flashed s.result.primary (f.counted _ ∙ o.counters) o.fits.m-most (omega arith) (omega arith) s.ensures.flashed_bound.0 s.ensures.flashed_bound.1

pub returns : goal.returns
returns c =
    let a = c.args in
    let l = a.block.now in
    let q = ask_of a.kind a.a.0 l a.seat in
    let k = counters_of a.c in
    let f = asks_write a.kind a.b.size a.a.0 a.seat l in
    let z = sym (f.refusal_is _ _) ∙ sym c.in_default.ensures.value in
    let x = all-bytes a.addresses.now (λ i. omega (arith, c.slice_known-3-1.given i)) in
    let y = all-bytes a.blocks.now (λ i. omega (arith, c.slice_known-4-1.given i)) in
    let on = sound a.b a.disk.now a.flash.now a.addresses.now a.blocks.now k q z x y in
    let fits = (access a.b a.disk.now a.flash.now a.addresses.now a.blocks.now k q z x y a.a.0 l f.address f.block).2 in
    let left = c.serve_write-s.ensures.wrote on.0 (fit a.b.size l) on.1 on.2 (fit_is a.b.size l fits) in
    rw c.answered.ensures (written a.b a.disk.now a.flash.now a.addresses.now a.blocks.now a.c a.kind a.a.0 l a.seat z c.write_word.result c.serve_write-s.result _ _ _ _ left c.write_word.ensures)
