-- By the number that the body starts with. Assumes nothing.
use Rattle.restoring.specs.FoundLaws.{other-kind}
use Rattle.restoring.specs.ArcBodyLaws.{short-body}
use Rattle.std.proofs.Common.{arith}
use Rattle.restoring.proofs.no_body.Goals as goal

pub returns-then-body-lt92 : goal.returns-then-body-lt92
returns-then-body-lt92 c = short-body c.args.body.now c.if-body-lt92.true

pub returns-in-0 : goal.returns-in-0
returns-in-0 c = c.box_fails.ensures c.record_in.ensures (omega arith)

pub returns-in-1 : goal.returns-in-1
returns-in-1 c = c.arc_fails.ensures (omega arith)

pub returns-in_default : goal.returns-in_default
returns-in_default c = other-kind c.args.body.now (λ z. omega arith) (λ z. omega arith)
