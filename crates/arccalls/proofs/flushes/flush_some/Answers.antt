-- A refused flush keeps all; else the flush is served. Assumes nothing.
use Rattle.std.specs.Prelude.{ℕ}
use Rattle.std.proofs.Common.{refl, ap, ◌∙◌}
use Rattle.std.proofs.Math.Option.{none}
use Rattle.std.proofs.lemmas.List.{length-replicate}
use Rattle.tables.specs.SoundLaws.{filled-with}
use Rattle.paper.specs.Lent.{Ask}
use Rattle.arccalls.specs.Contract.{arc_told}
use Rattle.arccalls.specs.BaseLaws.{arc-refused}
use Rattle.arccalls.proofs.flushes.flush_some.Goals as goal

pub arc_flush-requires : goal.arc_flush-requires
arc_flush-requires c = (length-replicate {A = ℕ} 4353 0, filled-with 4353 0)

pub returns-in-Err : goal.returns-in-Err
returns-in-Err c =
    let a = c.args in
    ap (λ r. arc_told r a.disk.now a.flash.now a.addresses.now a.blocks.now a.lists.now none) c.refused.ensures
    ∙ arc-refused a.a a.disk.now a.flash.now a.addresses.now a.blocks.now a.lists.now a.c (Ask.flush a.k) c.in-Err.r (c.in-Err.ensures.by_index a.k) _ refl
