-- The texts one after the other. Assumes nothing.
use native.Mathlib.Omega.{arith}
use Rattle.print.specs.PutLaws.{put_next}
use Rattle.print.proofs.refused.Goals as goal

pub returns-clause-put : goal.returns-clause-put
returns-clause-put c =
    let f = c.decimal-a.ensures in
    let p = rw c.from.ensures at c.named-b.ensures in
    put_next _ _ _ _ _ _ _ _ (omega arith) (put_next _ _ _ _ _ _ _ _ (omega arith) f.put p.put) c.text.ensures
