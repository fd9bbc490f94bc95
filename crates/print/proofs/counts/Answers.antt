-- The texts one after the other. Assumes nothing.
use Rattle.print.specs.Texts.{counts_text}
use native.Mathlib.Omega.{arith}
use Rattle.print.specs.PutLaws.{put_next}
use Rattle.print.proofs.counts.Goals as goal

pub returns-clause-put : goal.returns-clause-put
unfolding counts_text
returns-clause-put c =
    let f = c.decimal-a.ensures in
    let p = c.named-b.ensures in
    put_next _ _ _ _ _ _ _ _ (omega arith) (put_next _ _ _ _ _ _ _ _ (omega arith) f.put p.put) c.text.ensures
