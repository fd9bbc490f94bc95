-- `hash::rounds` meets its contract.
-- Assumes nothing.
use Rattle.std.proofs.Common.{refl, arith}
use Rattle.hash.proofs.Laws.{done_none, done_at}
use Rattle.hash.proofs.rounds.Goals as goal

pub first-init : goal.first-init
first-init c = (refl, omega arith, done_none _ _ _ refl)

pub later-init : goal.later-init
later-init c = (refl, omega arith, done_at c.first.t 16 (omega arith) c.first.invariant.2)
