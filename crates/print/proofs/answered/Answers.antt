-- The texts one after the other. Assumes nothing.
use native.Mathlib.Omega.{arith}
use Rattle.print.specs.PutLaws.{put_next}
use Rattle.print.proofs.answered.Goals as goal

pub returns-clause-put : goal.returns-clause-put
returns-clause-put c =
    let n = c.decimal-i.ensures in
    let a = c.ask-j.ensures in
    let w = c.word-k.ensures in
    put_next _ _ _ _ _ _ _ _ (omega arith) (put_next _ _ _ _ _ _ _ _ (omega arith) (put_next _ _ _ _ _ _ _ _ (omega arith) n.put a.put) w.put) c.counts.ensures.put
