-- A wrong length: the block that is lent stays. Assumes nothing.
use Rattle.std.proofs.Common.{refl, sym, ◌∙◌}
use Rattle.policy.specs.CallLaws.{asks_write}
use Rattle.service.specs.Left.{leaves}
use Rattle.service.proofs.write.Goals as goal

pub returns-then-not-fit : goal.returns-then-not-fit
unfolding leaves
returns-then-not-fit c =
    let a = c.args in
    rw (sym c.fit.ensures ∙ c.if-not-fit.true, (asks_write a.kind 0 a.address a.seat a.block.now).block) refl
