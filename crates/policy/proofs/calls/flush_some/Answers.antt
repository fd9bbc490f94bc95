-- A refused flush keeps all; else it is the flush that isn't refused. Assumes nothing.
use Rattle.std.specs.Prelude.{ℕ}
use Rattle.std.proofs.Common.{rules, refl, ap, ◌∙◌}
use Rattle.std.proofs.Math.Option.{none}
use Rattle.std.proofs.lemmas.List.{length-replicate}
use Rattle.tables.specs.SoundLaws.{filled-with}
use Rattle.paper.specs.Lent.{Ask}
use Rattle.policy.specs.Contract.{told}
use Rattle.policy.specs.CallLaws.{keep}
use Rattle.policy.proofs.calls.flush_some.Goals as goal

pub of_flush-requires : goal.of_flush-requires
of_flush-requires c = (length-replicate {A = ℕ} 4353 0, filled-with 4353 0)

pub returns-in-Err : goal.returns-in-Err
returns-in-Err c =
    let a = c.args in
    ap (λ r. told r a.disk.now a.flash.now a.addresses.now a.blocks.now none) c.refused.ensures
    ∙ keep a.b a.disk.now a.flash.now a.addresses.now a.blocks.now a.c (Ask.flush a.k) c.in-Err.r (c.in-Err.ensures.by_index a.k) _ refl
