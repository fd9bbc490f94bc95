-- The texts one after the other. Assumes nothing.
use Rattle.print.specs.Texts.{counters_text}
use native.Mathlib.Omega.{arith}
use Rattle.print.specs.PutLaws.{put_next}
use Rattle.print.proofs.counters.Goals as goal

pub returns-clause-put : goal.returns-clause-put
unfolding counters_text
returns-clause-put c =
    let a = c.named-i.ensures in
    let b = c.named-j.ensures in
    let d = c.named-k.ensures in
    let e = c.named-l.ensures in
    put_next _ _ _ _ _ _ _ _ (omega arith) (put_next _ _ _ _ _ _ _ _ (omega arith) (put_next _ _ _ _ _ _ _ _ (omega arith) (put_next _ _ _ _ _ _ _ _ (omega arith) a.put b.put) d.put) e.put) c.text.ensures
