-- A refused save keeps all; a served one is the flush, then the image. Assumes nothing.
use Rattle.std.specs.Prelude.{ℕ}
use Rattle.std.proofs.Common.{sym, ap, ◌∙◌}
use Rattle.std.proofs.lemmas.List.{length-replicate}
use Rattle.tables.specs.SoundLaws.{filled-with}
use Rattle.refusals.specs.Given.{counters_of}
use Rattle.arcrefusals.specs.Given.{arc_lent}
use Rattle.arcsaving.specs.Given.{arc_saved_told}
use Rattle.arcsaving.specs.SaveLaws.{save-refused, flush-0, writable-after, save-served}
use Rattle.arcsaving.proofs.save.Goals as goal

pub save_refusal-requires : goal.save_refusal-requires
save_refusal-requires c = (length-replicate {A = ℕ} 4353 0, filled-with 4353 0)

pub returns-in-Err : goal.returns-in-Err
returns-in-Err c =
    let a = c.args in
    ap (λ r. arc_saved_told r a.disk.now a.flash.now a.addresses.now a.blocks.now a.lists.now a.area.now) c.refused.ensures
    ∙ save-refused a.a a.c a.disk.now a.flash.now a.addresses.now a.blocks.now a.lists.now a.area.now c.in-Err.r c.in-Err.ensures.value

pub flush_served-r-requires : goal.flush_served-r-requires
flush_served-r-requires c =
    let a = c.args in
    record {
      k_value = flush-0 a.a (arc_lent a.a a.disk.now a.flash.now a.addresses.now a.blocks.now a.lists.now (counters_of a.c)) a.area.now
          (sym c.in_default.ensures.value) _ c.rows_of-k.ensures;
      indexed = c.in_default.ensures.indexed;
    }

pub write_arc-requires : goal.write_arc-requires
write_arc-requires c =
    let a = c.args in
    writable-after a.a (arc_lent a.a a.disk.now a.flash.now a.addresses.now a.blocks.now a.lists.now (counters_of a.c)) a.area.now
    (sym c.in_default.ensures.value) _ c.rows_of-k.ensures c.flush_served-r.result _ _ _ _ _ c.flush_served-r.ensures

pub returns : goal.returns
returns c =
    let a = c.args in
    save-served a.a (arc_lent a.a a.disk.now a.flash.now a.addresses.now a.blocks.now a.lists.now (counters_of a.c)) a.area.now
    (sym c.in_default.ensures.value) _ c.rows_of-k.ensures c.flush_served-r.result _ _ _ _ _ c.flush_served-r.ensures _ c.write_arc.ensures
