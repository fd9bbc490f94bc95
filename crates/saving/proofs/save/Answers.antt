-- A refused save keeps all; a served one is the flush, then the image. Assumes nothing.
use Rattle.std.specs.Prelude.{ℕ}
use Rattle.std.proofs.Common.{rules, sym, ap, ◌∙◌}
use Rattle.std.proofs.lemmas.List.{length-replicate}
use Rattle.tables.specs.SoundLaws.{filled-with}
use Rattle.parts.specs.Rep.{numbers_of}
use Rattle.refusals.specs.Given.{counters_of, lent}
use Rattle.saving.specs.Given.{told}
use Rattle.image.proofs.BoxLaws.{lru-flush-0}
use Rattle.saving.specs.SaveLaws.{save-refused, writable-after, save-served}
use Rattle.saving.proofs.save.Goals as goal

pub save_refusal-requires : goal.save_refusal-requires
save_refusal-requires c = (length-replicate {A = ℕ} 4353 0, filled-with 4353 0)

pub returns-in-Err : goal.returns-in-Err
returns-in-Err c =
    let a = c.args in
    ap (λ r. told r a.disk.now a.flash.now a.addresses.now a.blocks.now a.area.now) c.refused.ensures
    ∙ save-refused a.b a.c a.disk.now a.flash.now a.addresses.now a.blocks.now a.area.now c.in-Err.r c.in-Err.ensures.value

pub flush_served-r-requires : goal.flush_served-r-requires
flush_served-r-requires c =
    let a = c.args in
    record {
      k_value = (lru-flush-0 (numbers_of a.b) (lent a.b a.disk.now a.flash.now a.addresses.now a.blocks.now (counters_of a.c)) a.area.now (sym c.in_default.ensures.value)).0;
      indexed = c.in_default.ensures.indexed;
    }

pub write_box-requires : goal.write_box-requires
write_box-requires c =
    let a = c.args in
    writable-after a.b (lent a.b a.disk.now a.flash.now a.addresses.now a.blocks.now (counters_of a.c)) a.area.now (sym c.in_default.ensures.value) c.flush_served-r.result _ _ _ _ c.flush_served-r.ensures

pub returns : goal.returns
returns c =
    let a = c.args in
    save-served a.b (lent a.b a.disk.now a.flash.now a.addresses.now a.blocks.now (counters_of a.c)) a.area.now (sym c.in_default.ensures.value) c.flush_served-r.result _ _ _ _ c.flush_served-r.ensures _ c.write_box.ensures
