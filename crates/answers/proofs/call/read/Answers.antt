-- The call of the policy, with a block of zeros. Assumes nothing.
use mathlib.Core.Path.{ap}
use Rattle.paper.specs.Lent.{Ask}
use Rattle.answers.proofs.Doing.{call-done, block-filled}
use Rattle.answers.proofs.call.read.Goals as goal

pub returns : goal.returns
returns c =
    let a = c.args in
    let r = call-done c.read.result a.b _ _ _ _ _ _ _ _ c.read.ensures (ap (Ask.read a.a.0) (block-filled a.b.size 4096 0 c.requires)) in
    record { box_record_value = r.0; blocks_after = r.1 }
