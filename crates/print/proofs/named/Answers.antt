-- The texts one after the other. Assumes nothing.
use native.Mathlib.Omega.{arith}
use Rattle.print.specs.PutLaws.{put_next}
use Rattle.print.proofs.named.Goals as goal

pub returns-clause-put : goal.returns-clause-put
returns-clause-put c =
    let t = c.text-next.ensures in
    put_next _ _ _ _ _ _ _ _ (omega arith) t c.decimal.ensures.put
