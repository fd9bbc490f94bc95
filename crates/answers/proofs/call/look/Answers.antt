-- A look's answer, and that nothing lent changes. Assumes nothing.
use native.Mathlib.Omega.{arith}
use Rattle.refusals.specs.Given.{counters_of}
use Rattle.policy.specs.CallLaws.{all-bytes}
use Rattle.answers.proofs.Doing.{look-done}
use Rattle.answers.proofs.call.look.Goals as goal

pub returns-clause-blocks_value : goal.returns-clause-blocks_value
returns-clause-blocks_value c =
    let a = c.args in
    let ba = all-bytes a.addresses.now (λ i. omega (arith, c.type_inv.addresses i)) in
    let bt = all-bytes a.blocks.now (λ i. omega (arith, c.type_inv.blocks i)) in
    look-done c.look.result a.b a.disk.now a.flash.now a.addresses.now a.blocks.now (counters_of a.c) a.a.0 ba bt (c.look.ensures (counters_of a.c))
