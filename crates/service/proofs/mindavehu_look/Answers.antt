-- The place's start is a number of 64 bits, and what is written of it shows the paper's part: `starts-below`, `looked-shows`. Assumes nothing.
use mathlib.Core.Path.{sym, ◌∙◌}
use native.Mathlib.Omega.{arith}
use Rattle.policy.specs.CallLaws.{all-bytes}
use Rattle.fields.specs.FieldLaws.{get8-below}
use Rattle.service.proofs.Looked.{lengths, starts-below, looked-shows}
use Rattle.service.proofs.mindavehu_look.Goals as goal

pub write_place-requires : goal.write_place-requires
write_place-requires c =
    let a = c.args in (
      (lengths _ _ _ (sym c.fit.ensures ∙ c.if-not-fit.false)).1,
      starts-below a.address a.state.now a.disk.now a.flash.now a.addresses.now a.blocks.now a.answer.now c.record_in-b.result c.record_in-b.ensures _
          c.place_of-p.ensures (all-bytes a.addresses.now (λ i. omega (arith, c.shared_slice_known-4-1.given i)))
          (all-bytes a.blocks.now (λ i. omega (arith, c.shared_slice_known-5-1.given i))) c.well_formed.1.1.1.0.0 c.well_formed.1.1.0.0,
    )

pub returns-clause-shows : goal.returns-clause-shows
returns-clause-shows c h =
    let a = c.args in
    looked-shows a.address a.state.now a.disk.now a.flash.now a.addresses.now a.blocks.now a.answer.now c.record_in-b.result c.record_in-b.ensures _
    c.place_of-p.ensures h _ _ c.write_place.ensures (all-bytes a.addresses.now (λ i. omega (arith, c.shared_slice_known-4-1.given i)))
    (all-bytes a.blocks.now (λ i. omega (arith, c.shared_slice_known-5-1.given i))) (lengths _ _ _ h).1
    (get8-below a.state.now 0 (λ i. omega (arith, c.shared_slice_known-1.given i))) c.well_formed.1.1.1.0.0 c.well_formed.1.1.0.0
