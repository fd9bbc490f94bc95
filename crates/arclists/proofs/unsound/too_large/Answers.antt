-- The two sums. Assumes nothing.
use Rattle.std.proofs.Common.{arith}
use Rattle.arclists.specs.UnsoundLaws.{full-top, full-back}
use Rattle.arclists.proofs.unsound.too_large.Goals as goal

pub returns-then-most-saturating_add : goal.returns-then-most-saturating_add
returns-then-most-saturating_add c = full-top c.args.s c.saturating_add-2.result (omega arith) c.if-most-saturating_add.true

pub returns-else-most-saturating_add : goal.returns-else-most-saturating_add
returns-else-most-saturating_add c =
    full-back c.args.s c.saturating_add-else-most-saturating_add.result c.saturating_add-else-most-saturating_add.ensures (omega arith) (omega arith)
