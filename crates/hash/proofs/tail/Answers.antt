-- `hash::tail` meets its contract.
-- Assumes nothing.
use Rattle.hash.proofs.Laws.{ended}
use Rattle.hash.proofs.tail.Goals as goal

pub returns : goal.returns
returns c = ended c.args.rest.now _ c.copy_from_slice.ensures.after c.requires
